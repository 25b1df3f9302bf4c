use Rattle.std.proofs.Common.{Option, IsSome, refl, sym, ap, ◌∙◌, subst}
use Rattle.mm_base.specs.Places.{null}
use Rattle.mm_base.specs.declared.place.DiskLoc.{DiskLoc}
use Rattle.mm_bson.specs.Tree.{Elements}
use Rattle.mm_bson.specs.Walk.{document_in}
use Rattle.mm_bson.proofs.Walks.{document_held}
use Rattle.mm_bucket.proofs.Keys.{key_document}
use Rattle.mm_btree.specs.Order.{IsFirst, first_with}
use Rattle.mm_btree.proofs.unique.has_key.Goals as goal

pub of_spelled-wanted-requires : goal.of_spelled-wanted-requires
of_spelled-wanted-requires g c = (c.requires.key.document.0, key_document c.args.key.now c.requires.key)

pub find-requires : goal.find-requires
find-requires g c = (null, c.requires.tree.0, c.requires.tree.1)

pub returns-in-Some : goal.returns-in-Some
returns-in-Some g c =
    let m = g.S.NodeStore.bucket_at c.args.store.now in
    let same = c.of_spelled-wanted.ensures.same (document_in c.args.key.now) (document_held c.args.key.now c.requires.key.document.0 (key_document c.args.key.now c.requires.key)) in
    let found = subst (λ (r : Option DiskLoc). IsFirst m c.args.spec.now c.args.root c.args.height c.of_spelled-wanted.result r) c.in-Some.is c.in_ok-_rec.ensures in
    λ s t. (
      λ _. subst IsSome (found null s t ∙ ap (λ (k : Elements). first_with c.args.spec.now k s.pairs) same) refl,
      λ _. refl,
    )

pub returns-in-None : goal.returns-in-None
returns-in-None g c =
    let m = g.S.NodeStore.bucket_at c.args.store.now in
    let same = c.of_spelled-wanted.ensures.same (document_in c.args.key.now) (document_held c.args.key.now c.requires.key.document.0 (key_document c.args.key.now c.requires.key)) in
    let found = subst (λ (r : Option DiskLoc). IsFirst m c.args.spec.now c.args.root c.args.height c.of_spelled-wanted.result r) c.in-None.is c.in_ok-_rec.ensures in
    λ s t. (
      λ f. absurd cc,
      λ some. let none = subst IsSome (sym (found null s t ∙ ap (λ (k : Elements). first_with c.args.spec.now k s.pairs) same)) some in absurd cc,
    )
