use Rattle.std.proofs.Common.{◌≡◌, length}
use denote.Text.{Utf8}
use denote.Shadow.{shadow}
use Rattle.mm_bson.specs.Path.{names}
use Rattle.mm_update.specs.Paths.{leads}
use Rattle.mm_update.proofs.path.leads.Given as goal

abbrev pub invariant-loop-a : goal.invariant-loop-a
invariant-loop-a l = shadow (Utf8 l.left) × shadow (Utf8 l.right) × (leads (names l.left) (names l.right) ≡ leads (names l.path) (names l.other))

abbrev pub decreases-loop-a : goal.decreases-loop-a
decreases-loop-a l = length l.left
