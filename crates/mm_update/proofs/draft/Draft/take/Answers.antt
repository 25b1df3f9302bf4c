use Rattle.std.proofs.Common.{ap, ◌∙◌}
use Rattle.mm_update.specs.Edited.{with_value}
use Rattle.mm_update.proofs.Drafts.{names_left, rest_left}
use Rattle.mm_update.proofs.Places.{index_kept}
use Rattle.mm_update.proofs.draft.Draft.take.Goals as goal

pub invariant_of-self : goal.invariant_of-self
invariant_of-self c = (names_left c.args.name.now c.self.inside.entries.items c.take_in.new.entries.items c.take_in.result c.take_in.ensures.some c.take_in.ensures.none c.self.invariant.0 c.requires, index_kept c.self.inside.index _ _ c.take_in.ensures.names c.self.invariant.1)

pub returns-clause-rest : goal.returns-clause-rest
returns-clause-rest c = λ t.
    rest_left c.args.name.now c.self.inside.entries.items c.take_in.new.entries.items c.take_in.result c.take_in.ensures.some c.take_in.ensures.none t ∙ ap (with_value c.args.name.now t) c.self.view_is
