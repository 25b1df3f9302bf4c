use Rattle.std.proofs.Common.{◌≡◌, true, ◌≤◌, ◌+◌, length, drop, map}
use Rattle.mm_ranges.specs.Overlay.{bytes_at}
use Rattle.mm_links.specs.Links.{Place, has}
use Rattle.mm_walk.specs.Questions.{first_failing}
use Rattle.mm_check.specs.Findings.{joined, count_questions}
use Rattle.mm_check.specs.Phases.{owner_of}
use Rattle.mm_check.proofs.counts.wrong_counts.Given as goal

abbrev pub invariant-loop-i : goal.invariant-loop-i
invariant-loop-i l = record {
  left : first_failing (count_questions l.views.private (map owner_of l.owners) (map (λ ps. ps.items) l.records)) ≡ first_failing (count_questions l.views.private (map owner_of (drop l.i l.owners)) (map (λ ps. ps.items) l.rest));
  inside : (p : Place) → has (joined (map (λ ps. ps.items) l.rest)) p ≡ true → p.1 + 16 ≤ length (bytes_at l.views.private p.0);
}
