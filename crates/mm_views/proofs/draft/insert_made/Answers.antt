use Rattle.std.proofs.Common.{◌∙◌, ap, List}
use Rattle.std.specs.Prelude.{insert}
use Rattle.mm_views.specs.Made.{place_in}
use Rattle.mm_ranges.specs.declared.part.Made.{Made}
use Rattle.mm_views.proofs.MadeLists.{with_one-insert}
use Rattle.mm_views.proofs.draft.insert_made.Goals as goal

pub returns-clause-ok : goal.returns-clause-ok
returns-clause-ok c =
    c.in_ok-insert.ensures.items
    ∙ ap (λ k. insert c.args.made.now.items k c.args.new) (c.place_of-place.ensures.place ∙ ap (λ (ms : List Made). place_in ms c.args.new.file) c.deref.ensures.value)
    ∙ with_one-insert c.args.new c.args.made.now.items
