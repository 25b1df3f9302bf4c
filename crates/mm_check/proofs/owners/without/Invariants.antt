use Rattle.std.proofs.Common.{◌≡◌, ◌++◌, ℕ, List, drop, map}
use Rattle.mm_check.specs.Findings.{owners_of, without_free}
use Rattle.mm_check.specs.NodeQuestions.{free_name}
use Rattle.mm_check.specs.Phases.{owner_of}
use Rattle.mm_check.proofs.owners.without.Given as goal

abbrev pub invariant-loop-i : goal.invariant-loop-i
invariant-loop-i l =
    (d : List ℕ) → l.free ≡ free_name d
    → map owner_of l.owners.items ++ without_free d l.views.private (owners_of (drop l.i l.nodes) (map (λ ps. ps.items) (drop l.i l.chains))) ≡ without_free d l.views.private (owners_of l.nodes (map (λ ps. ps.items) l.chains))
