use Rattle.std.proofs.Common.{◌≡◌, ◌+◌, drop}
use Rattle.mm_views.specs.Made.{place_in}
use Rattle.mm_views.proofs.draft.place_of.Given as goal

abbrev pub invariant-loop-i : goal.invariant-loop-i
invariant-loop-i l = l.i + place_in (drop l.i l.made) l.file ≡ place_in l.made l.file
