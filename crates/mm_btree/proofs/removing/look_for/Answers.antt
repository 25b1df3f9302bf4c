use Rattle.std.proofs.Common.{map, subst}
use Rattle.std.proofs.lemmas.Result.{IfOk-weaker, IfErr-weaker}
use Rattle.mm_bson.specs.Tree.{Elements}
use Rattle.mm_bson.specs.Walk.{document_in}
use Rattle.mm_bson.proofs.Walks.{document_held}
use Rattle.mm_bucket.specs.Order.{Belongs, IsFoundAt}
use Rattle.mm_bucket.proofs.Keys.{key_document}
use Rattle.mm_btree.specs.Nodes.{Item, item_of}
use Rattle.mm_btree.specs.Removal.{IsThere, IsGap}
use Rattle.mm_btree.proofs.Ordered.{in_order}
use Rattle.mm_btree.proofs.RemoveCalls.{there_is, gap_is}
use Rattle.mm_btree.proofs.removing.look_for.Goals as goal

pub of_spelled-requires : goal.of_spelled-requires
of_spelled-requires c = (c.requires.key.document.0, key_document c.args.key.now c.requires.key)

pub find_in_place-requires : goal.find_in_place-requires
find_in_place-requires c = in_order c.args.spec.now c.args.bucket.now.pairs c.requires.order

pub returns-clause-there : goal.returns-clause-there
returns-clause-there c =
    let ps = c.args.bucket.now.pairs in
    let x : Item = record { key = c.args.key.now; rec = c.args.rec } in
    let same = c.of_spelled.ensures.same (document_in c.args.key.now) (document_held c.args.key.now c.requires.key.document.0 (key_document c.args.key.now c.requires.key)) in
    IfOk-weaker c.find_in_place.result (IsFoundAt c.args.spec.now ps c.of_spelled.result c.args.rec) (IsThere c.args.spec.now (map item_of ps) x)
    (λ i f. there_is c.args.spec.now ps x i (subst (λ (k : Elements). IsFoundAt c.args.spec.now ps k c.args.rec i) same f)) c.find_in_place.ensures.found

pub returns-clause-gap : goal.returns-clause-gap
returns-clause-gap c =
    let ps = c.args.bucket.now.pairs in
    let x : Item = record { key = c.args.key.now; rec = c.args.rec } in
    let same = c.of_spelled.ensures.same (document_in c.args.key.now) (document_held c.args.key.now c.requires.key.document.0 (key_document c.args.key.now c.requires.key)) in
    IfErr-weaker c.find_in_place.result (Belongs c.args.spec.now ps c.of_spelled.result c.args.rec) (IsGap c.args.spec.now (map item_of ps) x)
    (λ i f. gap_is c.args.spec.now ps x i (subst (λ (k : Elements). Belongs c.args.spec.now ps k c.args.rec i) same f)) c.find_in_place.ensures.missing
