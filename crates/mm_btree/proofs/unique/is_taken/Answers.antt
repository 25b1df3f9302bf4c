use Rattle.std.proofs.Common.{IsSome}
use Rattle.std.specs.Prelude.{◌↔◌, IsTrue}
use Rattle.std.proofs.lemmas.Result.{IfOk-weaker}
use Rattle.mm_bson.specs.Walk.{document_in}
use Rattle.mm_btree.specs.Trees.{Sub}
use Rattle.mm_btree.specs.Changes.{IsTree}
use Rattle.mm_btree.specs.Order.{item_lt, first_with}
use Rattle.mm_btree.proofs.unique.is_taken.Goals as goal

pub returns-then-unique : goal.returns-then-unique
returns-then-unique g c =
    let m = g.S.NodeStore.bucket_at c.args.store.now in
    let spec = c.args.spec.now in
    let lt = item_lt spec in
    IfOk-weaker c.has_key.result
    (λ there. (s : Sub) → IsTree lt m c.args.root c.args.height s → IsTrue there ↔ IsSome (first_with spec (document_in c.args.key.now) s.pairs))
    (λ taken. (s : Sub) → IsTree lt m c.args.root c.args.height s → IsTrue taken ↔ (IsTrue c.args.unique × IsSome (first_with spec (document_in c.args.key.now) s.pairs)))
    (λ r h s t. (λ y. (c.if-unique.true, (h s t).0 y), λ p. (h s t).1 p.1))
    c.has_key.ensures

pub returns : goal.returns
returns g c = λ s t. (λ f. absurd cc, λ p. let two = p.0 in let one = c.if-unique.false in absurd cc)
