use Rattle.std.proofs.Common.{◌∙◌}
use Rattle.mm_bson.proofs.Walks.{is_long, fields_are, fields_held}
use Rattle.mm_bson.proofs.place.DocRef.fields.Goals as goal

pub body_of-requires : goal.body_of-requires
body_of-requires c = is_long _ _ c.self.invariant

pub invariant_of-result : goal.invariant_of-result
invariant_of-result c = fields_held _ _ _ c.body_of.ensures c.self.invariant

pub returns : goal.returns
returns c = fields_are _ _ c.body_of.ensures ∙ c.self.view_is
