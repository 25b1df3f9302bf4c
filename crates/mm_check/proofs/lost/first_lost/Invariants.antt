use Rattle.std.proofs.Common.{◌≡◌, List, drop}
use Rattle.mm_links.specs.Links.{Place}
use Rattle.mm_walk.specs.Walk.{Knows}
use Rattle.mm_walk.specs.Questions.{first_failing}
use Rattle.mm_check.specs.ExtentChain.{lost_questions}
use Rattle.mm_check.proofs.lost.first_lost.Given as goal

abbrev pub invariant-loop-at : goal.invariant-loop-at
invariant-loop-at l = (seen : List Place) → Knows l.chained seen → first_failing (lost_questions l.all seen) ≡ first_failing (lost_questions (drop l.at-index l.all) seen)
