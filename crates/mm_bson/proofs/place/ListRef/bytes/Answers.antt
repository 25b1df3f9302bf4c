use Rattle.std.proofs.Common.{ap, subst, ◌∙◌}
use Rattle.mm_bson.specs.Spelling.{array_spelling}
use Rattle.mm_bson.specs.Built.{IsBuiltArray}
use Rattle.mm_bson.proofs.Walks.{array_spelled, list_is_held, list_built}
use Rattle.mm_bson.proofs.place.ListRef.bytes.Goals as goal

pub returns-clause-spelled : goal.returns-clause-spelled
returns-clause-spelled c = array_spelled _ _ c.self.invariant ∙ ap array_spelling c.self.view_is

pub returns-clause-held : goal.returns-clause-held
returns-clause-held c = list_is_held _ _ c.self.invariant c.self.view_is

pub returns-clause-built : goal.returns-clause-built
returns-clause-built c = subst IsBuiltArray c.self.view_is (list_built _ _ c.self.invariant)
