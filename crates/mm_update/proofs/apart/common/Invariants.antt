use Rattle.std.proofs.Common.{◌≡◌, ◌+◌, ◌≤◌, length}
use denote.Text.{Utf8}
use denote.Shadow.{shadow}
use Rattle.mm_bson.specs.Path.{names}
use Rattle.mm_update.specs.Meeting.{common}
use Rattle.mm_update.proofs.apart.common.Given as goal

abbrev pub invariant-loop-a : goal.invariant-loop-a
invariant-loop-a l = record {
  left : shadow (Utf8 l.left);
  right : shadow (Utf8 l.right);
  within : l.same + length l.left ≤ length l.path;
  told : l.same + common (names l.left) (names l.right) ≡ common (names l.path) (names l.other);
}

abbrev pub decreases-loop-a : goal.decreases-loop-a
decreases-loop-a l = length l.left
