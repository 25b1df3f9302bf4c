use Rattle.std.proofs.Common.{◌≡◌, vec_len, true}
use Rattle.mm_views.specs.Made.{without_made, are_all_files}
use Rattle.mm_views.proofs.draft.take_back.Given as goal

abbrev pub invariant-loop-m : goal.invariant-loop-m
invariant-loop-m l = record {
  same : without_made l.made.items l.image ≡ without_made l.fn.made.items l.fn.image;
  files : are_all_files l.made.items ≡ true;
}

abbrev pub decreases-loop-m : goal.decreases-loop-m
decreases-loop-m l = vec_len l.made
