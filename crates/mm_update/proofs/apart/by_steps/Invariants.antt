use Rattle.std.proofs.Common.{◌≡◌, length}
use denote.Text.{Utf8}
use denote.Shadow.{shadow}
use Rattle.mm_bson.specs.Path.{names}
use Rattle.mm_update.specs.Paths.{by_steps}
use Rattle.mm_update.proofs.apart.by_steps.Given as goal

abbrev pub invariant-loop-order : goal.invariant-loop-order
invariant-loop-order l = shadow (Utf8 l.left) × shadow (Utf8 l.right) × (by_steps (names l.left) (names l.right) ≡ by_steps (names l.path) (names l.other))

abbrev pub decreases-loop-order : goal.decreases-loop-order
decreases-loop-order l = length l.left
