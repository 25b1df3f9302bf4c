use Rattle.std.proofs.Common.{◌∙◌, ap}
use Rattle.mm_bson.specs.Tree.{Elements}
use Rattle.mm_bson.specs.Walk.{document_in}
use Rattle.mm_bson.proofs.Walks.{document_held}
use Rattle.mm_keys.specs.KeyOrder.{key_compare}
use Rattle.mm_bucket.proofs.Keys.{key_document}
use Rattle.mm_btree.proofs.search.compare_key.Goals as goal

pub of_spelled-here-requires : goal.of_spelled-here-requires
of_spelled-here-requires c = (c.key.ensures.key.document.0, key_document c.key.result.now c.key.ensures.key)

pub returns : goal.returns
returns c =
    let same = c.of_spelled-here.ensures.same (document_in c.key.result.now) (document_held c.key.result.now c.key.ensures.key.document.0 (key_document c.key.result.now c.key.ensures.key)) in
    c.key_cmp_in_place.ensures ∙ ap (λ (es : Elements). key_compare c.args.spec.now es c.args.key.now) (same ∙ ap document_in c.key.ensures.is)
