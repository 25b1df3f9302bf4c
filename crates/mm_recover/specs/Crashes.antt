-- Crashes within recoveries, one after another.
use Rattle.std.specs.Prelude.{◌≡◌, ℕ, zero, suc, ◌<◌, [], Some}
use Rattle.mm_outside.specs.Image.{Image}
use Rattle.mm_outside.specs.Told.{Told, Left}
use Rattle.mm_outside.specs.Place.{at_moment}
use Rattle.mm_crash.specs.Recovered.{Files, Recovers}
use Rattle.mm_crash.specs.Chance.{NoChance}
use Rattle.mm_journal.proofs.Real.{the_format, the_names}
use Rattle.mm_recover.specs.Recovering.{KeepsRecovery}

-- a disk that was restarted with these files: nothing is pending
abbrev pub restarted : Image → Told
restarted image = record { start = image; calls = [] }

-- A disk is restarted with the first image. A call on it that keeps the recovery, as each call of `recover` does whatever it answers, is cut
-- off by a crash at one of its moments, which leaves the next image without a chance match; and so on, n times, up to the last image.
abbrev pub AreCrashes : ℕ → Image → Image → Type 0
AreCrashes zero first last = last ≡ first
AreCrashes (suc n) first last = (u : Told) × (next : Image) × (m : ℕ) × KeepsRecovery (Some (restarted first)) (Some u) × (0 < m) × Left u m next × NoChance the_format the_names (at_moment u m) next × AreCrashes n next last

-- a whole image is whole after any number of them, with the same recovered files
abbrev pub RecoversAtAnyDepth : Type 0
RecoversAtAnyDepth = (files : Files) (n : ℕ) (first last : Image) → Recovers the_format the_names first files → AreCrashes n first last → Recovers the_format the_names last files
