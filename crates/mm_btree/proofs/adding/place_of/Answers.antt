use Rattle.std.proofs.Common.{◌≡◌, subst, arith}
use Rattle.std.specs.declared.cmp.Ordering.TheVariants.{Equal}
use Rattle.mm_bson.specs.Tree.{Elements}
use Rattle.mm_bson.specs.Walk.{document_in}
use Rattle.mm_bson.proofs.Walks.{document_held}
use Rattle.mm_bucket.specs.Pairs.{pair_at}
use Rattle.mm_bucket.specs.Order.{compare_pair, Belongs}
use Rattle.mm_bucket.proofs.Keys.{key_document}
use Rattle.mm_btree.specs.Nodes.{Item}
use Rattle.mm_btree.proofs.Ordered.{in_order, belongs_is, not_lacking}
use Rattle.mm_btree.proofs.adding.place_of.Goals as goal

pub of_spelled-requires : goal.of_spelled-requires
of_spelled-requires c = (c.requires.key.document.0, key_document c.args.key.now c.requires.key)

pub find_in_place-requires : goal.find_in_place-requires
find_in_place-requires c = in_order c.args.spec.now c.args.bucket.now.pairs c.requires.order

pub returns-in-Ok-clause-is : goal.returns-in-Ok-clause-is
returns-in-Ok-clause-is c =
    let ps = c.args.bucket.now.pairs in
    let x : Item = record { key = c.args.key.now; rec = c.args.rec } in
    let same = c.of_spelled.ensures.same (document_in c.args.key.now) (document_held c.args.key.now c.requires.key.document.0 (key_document c.args.key.now c.requires.key)) in
    let found = c.in-Ok.ensures.found in
    absurd (not_lacking c.args.spec.now ps x c.in-Ok.place c.requires.lacking found.inside
    (subst (λ (k : Elements). compare_pair c.args.spec.now (pair_at ps c.in-Ok.place) k c.args.rec ≡ Equal) same found.equal))

pub returns-in-Ok-clause-inside : goal.returns-in-Ok-clause-inside
returns-in-Ok-clause-inside c = omega (arith, c.in-Ok.ensures.found.inside)

pub returns-in-Err-clause-is : goal.returns-in-Err-clause-is
returns-in-Err-clause-is c =
    let ps = c.args.bucket.now.pairs in
    let x : Item = record { key = c.args.key.now; rec = c.args.rec } in
    let same = c.of_spelled.ensures.same (document_in c.args.key.now) (document_held c.args.key.now c.requires.key.document.0 (key_document c.args.key.now c.requires.key)) in
    belongs_is c.args.spec.now ps x c.in-Err.place (subst (λ (k : Elements). Belongs c.args.spec.now ps k c.args.rec c.in-Err.place) same c.in-Err.ensures.missing)

pub returns-in-Err-clause-inside : goal.returns-in-Err-clause-inside
returns-in-Err-clause-inside c = c.in-Err.ensures.missing.inside
