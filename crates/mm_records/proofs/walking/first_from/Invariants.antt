use Rattle.std.proofs.Common.{List, ℕ}
use Rattle.mm_links.specs.Links.{Place}
use Rattle.mm_records.specs.Shape.{Shape}
use Rattle.mm_records.specs.Walking.{IsRest, IsAhead}
use Rattle.mm_records.proofs.walking.first_from.Given as goal

abbrev pub invariant-loop-step : goal.invariant-loop-step
invariant-loop-step l = (free : List ℕ) (s : Shape) (name : List ℕ) (rest : List Place) → IsRest l.draft.image free s name rest l.fn.from → IsAhead l.draft.image free s name rest l.step l.at
