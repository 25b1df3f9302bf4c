-- No torn record passes for a whole one by chance.
use Rattle.std.specs.Prelude.{◌≡◌, ℕ, ◌≤◌, nat_lt, if◌then◌else◌, List, [], length, take, drop, true, Option, None, Some, unwrap_or, Contains, ◌⊎◌}
use Rattle.mm_outside.specs.Image.{Image, bytes_at}
use Rattle.mm_outside.specs.Told.{Told}
use Rattle.mm_outside.specs.Place.{Place, place_of, clean}
use Rattle.mm_crash.specs.Journal.{Format, HasNone, IsOurs}
use Rattle.mm_crash.specs.Recovered.{Names, Files, journal_of, Recovers}

-- the places of the journal's files, by number
abbrev pub places_of : Names → (List ℕ → Place) → ℕ → Place
places_of at place n = if nat_lt n at.count then place (at.journal n) else clean None

-- What is left of a journal's file, by a write of it that was under way: a header under write is ours or broken;
-- the place of a section under write begins with no spelled section, or holds what was handed in.
pub record IsFair (fmt : Format) (n : ℕ) (left : List ℕ) (w : ℕ × List ℕ) : Type 0 where
  pub header : w.0 ≡ 0 → IsOurs fmt n left ⊎ (fmt.is_broken n left ≡ true)
  pub section : length (fmt.header n) ≤ w.0 → HasNone fmt n (drop w.0 left) ⊎ (take (length w.1) (drop w.0 left) ≡ w.1)

-- a number that is readable is the old one or one that was handed in
abbrev pub IsOldOrNew : Format → Option (List ℕ) → List (ℕ × List ℕ) → List ℕ → Type 0
IsOldOrNew fmt old writes left = (n : ℕ) → left ≡ fmt.number n → (old ≡ Some (fmt.number n)) ⊎ Contains writes (0, fmt.number n)

-- of what a crash leaves where this is told
pub record NoChance (fmt : Format) (at : Names) (t : Told) (image : Image) : Type 0 where
  pub journal : (n : ℕ) (w : ℕ × List ℕ) → Contains (places_of at (place_of t) n).writes w → IsFair fmt n (unwrap_or (journal_of at image n) []) w
  pub number : IsOldOrNew fmt (place_of t at.lsn).last_synced (place_of t at.lsn).writes (bytes_at image at.lsn)

-- The files of the recovery of each image without a chance match.
abbrev pub RecoversAt : Format → Names → Files → ℕ → Told → Image → Type 0
RecoversAt fmt at files m t image = NoChance fmt at t image → Recovers fmt at image files
