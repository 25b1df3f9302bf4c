use Rattle.std.specs.Prelude.{◌≡◌, Bool, false, IsTrue, OnOk}
use Rattle.std.proofs.Common.{List, sym, ◌∙◌, subst}
use Rattle.mm_base.specs.Places.{null}
use Rattle.mm_base.specs.declared.place.DiskLoc.{DiskLoc}
use Rattle.mm_btree.specs.Changes.{adopted, AreThere}
use Rattle.mm_btree.specs.Nodes.{node_of}
use Rattle.mm_btree.proofs.Edits.{kids_none, kids_all}
use Rattle.mm_btree.proofs.Steps.{adopted_none}
use Rattle.mm_btree.proofs.settle.adopt.Goals as goal

not_true : (b : Bool) → IsTrue b → b ≡ false → ⊥
not_true b t f = cc

pub adopt_all-requires : goal.adopt_all-requires
adopt_all-requires g c =
    let f = λ (e : c.args.bucket.now.next ≡ null). not_true c.is_null.result (c.is_null.ensures.1 (c.next.ensures ∙ e)) c.if-is_null.false in
    subst (AreThere (g.S.NodeStore.bucket_at c.args.store.now)) (kids_all c.args.bucket.now f) c.requires

pub returns-then-is_null-clause-ok : goal.returns-then-is_null-clause-ok
returns-then-is_null-clause-ok g c =
    λ q. adopted_none (g.S.NodeStore.bucket_at c.args.store.now) (node_of c.args.bucket.now).kids c.args.up (kids_none c.args.bucket.now (sym c.next.ensures ∙ c.is_null.ensures.0 c.if-is_null.true)) q

pub returns-clause-ok : goal.returns-clause-ok
returns-clause-ok g c =
    let m = g.S.NodeStore.bucket_at c.args.store.now in
    let n = g.S.NodeStore.bucket_at c.adopt_all.new.store in
    let f = λ (e : c.args.bucket.now.next ≡ null). not_true c.is_null.result (c.is_null.ensures.1 (c.next.ensures ∙ e)) c.if-is_null.false in
    subst (λ (xs : List DiskLoc). OnOk c.adopt_all.result ((q : DiskLoc) → n q ≡ adopted m xs c.args.up q)) (sym (kids_all c.args.bucket.now f)) c.adopt_all.ensures.ok
