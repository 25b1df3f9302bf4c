use Rattle.std.proofs.Common.{◌≡◌, ◌∙◌, List, true, ap, arith}
use Rattle.std.specs.Prelude.{◌||◌}
use Rattle.mm_ranges.specs.Places.{Range, is_in, is_covered, is_normal}
use Rattle.mm_ranges.specs.Room.{shown}
use Rattle.mm_ranges.proofs.Order.{range_from, spaced_of_normal}
use Rattle.mm_ranges.proofs.Inserting.{covered-inserted, is_normal-inserted}
use Rattle.mm_ranges.proofs.range_set.RangeSet.insert.Goals as goal

pub returns-clause-covered : goal.returns-clause-covered
returns-clause-covered c = λ f p.
    ap (λ (rs : List Range). is_covered rs f p) c.in_ok-insert.ensures.ok
    ∙ covered-inserted (c.args.file, c.args.at, c.args.len) (shown c.self.inside.spans) f p (spaced_of_normal (shown c.self.inside.spans) c.self.invariant)
    ∙ ap (λ (rs : List Range). is_in f p (c.args.file, c.args.at, c.args.len) || is_covered rs f p) c.self.view_is

normal_again : (c : goal.In_ok-insert) → is_normal (shown c.insert.«new».self) ≡ true
normal_again c =
    ap is_normal c.in_ok-insert.ensures.ok
    ∙ is_normal-inserted (c.args.file, c.args.at, c.args.len) (shown c.self.inside.spans) (range_from c.args.file c.args.at c.args.len (omega arith) c.requires.some c.requires.fits) c.self.invariant

pub invariant_of-self-2 : goal.invariant_of-self-2
invariant_of-self-2 c = normal_again c

pub returns-clause-normal : goal.returns-clause-normal
returns-clause-normal c = normal_again c
