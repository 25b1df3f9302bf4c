use Rattle.std.proofs.Common.{◌≡◌, List, true, map, take}
use Rattle.std.specs.Prelude.{flat_map}
use Rattle.mm_links.specs.Links.{Place, once}
use Rattle.mm_walk.specs.Walk.{AreWhole, Knows, seen_after}
use Rattle.mm_check.specs.Findings.{lists_of}
use Rattle.mm_check.specs.Phases.{owner_of}
use Rattle.mm_check.proofs.phases.deleted_blocks.Given as goal

abbrev pub invariant-loop-i : goal.invariant-loop-i
invariant-loop-i l =
    (before : List Place) → Knows l.fn.seen before → once before ≡ true
    → AreWhole before (flat_map (lists_of l.views.private) (map owner_of (take l.i l.owners))) (map (λ ps. ps.items) l.all.items) × Knows l.seen (seen_after before (map (λ ps. ps.items) l.all.items))
