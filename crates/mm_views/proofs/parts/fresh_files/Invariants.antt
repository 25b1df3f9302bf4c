use Rattle.std.proofs.Common.{◌≡◌, ◌++◌, drop}
use Rattle.mm_views.specs.Fresh.{zero_files}
use Rattle.mm_views.proofs.parts.fresh_files.Given as goal

abbrev pub invariant-loop-m : goal.invariant-loop-m
invariant-loop-m l = l.files.items ++ zero_files (drop l.m-index l.made) ≡ zero_files l.made
