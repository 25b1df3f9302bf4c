-- Images that crashes leave, one within the recovery of the other.
use Rattle.std.specs.Prelude.{◌≡◌, ℕ, ◌+◌, ◌<◌, ◌≤◌, List, [], ◌∷◌, length}
use Rattle.mm_outside.specs.Image.{Image}
use Rattle.mm_outside.specs.Told.{Told, Left, image_of}
use Rattle.mm_outside.specs.Place.{at_moment, IsClean}
use Rattle.mm_outside.specs.Leaves.{Leaves}
use Rattle.mm_crash.specs.Journal.{Format}
use Rattle.mm_crash.specs.Recovered.{Names, Files, Recovers}
use Rattle.mm_crash.specs.Chance.{NoChance, RecoversAt}
use Rattle.mm_crash.specs.Story.{Story, state}

-- A recovery of a disk that reads the first image, with nothing pending, was told from t to u, done or stopped. What a recovery promises of
-- each moment is `promised`. A crash at the moment m of it, without a chance match, left the second image.
pub record LeftWithin (fmt : Format) (at : Names) (first second : Image) : Type 0 where
  pub t : Told
  pub u : Told
  pub m : ℕ
  pub reads : image_of t ≡ first
  pub clean : IsClean t
  pub promised : (files : Files) → Recovers fmt at first files → Leaves (RecoversAt fmt at files) t u
  pub since : length t.calls < m
  pub left : Left u m second
  pub chance : NoChance fmt at (at_moment u m) second

-- the last of these was left by crashes within recoveries, one after another, of which the first began with this image
abbrev pub AreLeft : Format → Names → Image → List Image → Type 0
AreLeft fmt at image [] = Unit {0}
AreLeft fmt at image (next ∷ images) = LeftWithin fmt at image next × AreLeft fmt at next images

abbrev pub last_image : Image → List Image → Image
last_image image [] = image
last_image image (next ∷ images) = last_image next images

-- Its recovery has the files as after so many of the run's sections, or after one more, of all databases alike.
pub record HasPrefix (fmt : Format) (at : Names) (story : Story) (synced : ℕ) (image : Image) : Type 0 where
  pub to : ℕ
  pub no_less : synced ≤ to
  pub no_more : to ≤ synced + 1
  pub there : to ≤ length story.sections
  pub recovers : Recovers fmt at image (state at story to)

-- its recovery has the files as after some of the run's sections, of which the n-th, counted from 0, is one
pub record HoldsSection (fmt : Format) (at : Names) (story : Story) (n : ℕ) (image : Image) : Type 0 where
  pub to : ℕ
  pub past : n < to
  pub there : to ≤ length story.sections
  pub recovers : Recovers fmt at image (state at story to)
