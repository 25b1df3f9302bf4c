use Rattle.std.proofs.Common.{◌≡◌, drop}
use Rattle.mm_views.specs.Made.{with_all}
use Rattle.mm_views.proofs.draft.all_made.Given as goal

abbrev pub invariant-loop-m : goal.invariant-loop-m
invariant-loop-m l = with_all l.all.items (drop l.m-index l.more) ≡ with_all l.before l.more
