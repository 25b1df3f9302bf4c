-- What a crash leaves at each moment, beside what was told then.
use Rattle.std.specs.Prelude.{ℕ, ◌<◌}
use Rattle.mm_outside.specs.Image.{Image}
use Rattle.mm_outside.specs.Told.{Told, MayLeave}
use Rattle.mm_outside.specs.Crash.{LeavesOnly}
use Rattle.mm_outside.specs.Place.{at_moment}

-- a crash now leaves what has P where this is told, at each moment past the first so many
abbrev pub LeavesNow : (ℕ → Told → Image → Type 0) → ℕ → Told → Type 0
LeavesNow P since t = (m : ℕ) (image : Image) → since < m → MayLeave t.start t.calls image → P m t image

-- a crash at any moment since t leaves what has P where what was told at that moment is told
abbrev pub Leaves : (ℕ → Told → Image → Type 0) → Told → Told → Type 0
Leaves P t u = LeavesOnly (λ m image. P m (at_moment u m) image) t u
