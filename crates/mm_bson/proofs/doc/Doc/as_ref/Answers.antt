use Rattle.mm_bson.proofs.Walks.{built_spells}
use Rattle.mm_bson.proofs.doc.Doc.as_ref.Goals as goal

pub of_spelled-requires : goal.of_spelled-requires
of_spelled-requires c = (_, built_spells _ _ c.bytes.ensures.spelled c.bytes.ensures.built)

pub returns : goal.returns
returns c = c.of_spelled.ensures.same _ (built_spells _ _ c.bytes.ensures.spelled c.bytes.ensures.built)
