-- What a crash leaves, file by file, while sections are logged.
use Rattle.std.specs.Prelude.{◌≡◌, ◌≢◌, ℕ, ◌+◌, ◌≤◌, List, [], length, Option, unwrap_or, Contains, ◌⊎◌}
use Rattle.std.specs.FinMap.{get}
use Rattle.mm_outside.specs.Image.{Image, bytes_at}
use Rattle.mm_outside.specs.Told.{Told, MayLeaveFile}
use Rattle.mm_outside.specs.Place.{Place}
use Rattle.mm_crash.specs.Overlay.{Entry, DiffersWithin}
use Rattle.mm_crash.specs.Journal.{Format, HasJournal}
use Rattle.mm_crash.specs.Recovered.{Names, IsData, Files, Recovers, journal_of}
use Rattle.mm_crash.specs.Chance.{IsFair, IsOldOrNew, NoChance, places_of}
use Rattle.mm_crash.specs.Story.{Story, state, run, laid}

-- The journal has the sections from any up to the marked one on, up to s or to one more.
pub record JournalAt (fmt : Format) (story : Story) (mark s : ℕ) (left : ℕ → Option (List ℕ)) : Type 0 where
  pub from : ℕ
  pub to : ℕ
  pub no_gap : from ≤ mark
  pub no_less : s ≤ to
  pub no_more : to ≤ s + 1
  pub there : to ≤ length story.sections
  pub holds : HasJournal fmt left (run story from to)

-- The number isn't readable, or is the marked one, or the one whose marking has begun.
abbrev pub LsnAt : Format → Story → ℕ → ℕ → List ℕ → Type 0
LsnAt fmt story mark marking bytes = ((n : ℕ) → bytes ≢ fmt.number n) ⊎ ((bytes ≡ fmt.number (story.last + mark)) ⊎ (bytes ≡ fmt.number (story.last + marking)))

-- all of an image. A data file reads the state at the floor outside of the entries of the sections above it.
pub record Stands (fmt : Format) (at : Names) (story : Story) (mark marking floor s : ℕ) (image : Image) : Type 0 where
  pub journal : JournalAt fmt story mark s (journal_of at image)
  pub lsn : LsnAt fmt story mark marking (bytes_at image at.lsn)
  pub files : (file : List ℕ) → IsData at file → DiffersWithin (laid at story floor s) file (state at story floor file) (get image file)

-- The image is whole, and its recovery has the files after s sections or after one more.
pub record IsWholeAfter (fmt : Format) (at : Names) (story : Story) (s : ℕ) (image : Image) : Type 0 where
  pub to : ℕ
  pub no_less : s ≤ to
  pub no_more : to ≤ s + 1
  pub there : to ≤ length story.sections
  pub recovers : Recovers fmt at image (state at story to)

-- The same of each image without a chance match. How many sections were synced before a moment is a function of it.
abbrev pub WholeAt : Format → Names → Story → (ℕ → ℕ) → ℕ → Told → Image → Type 0
WholeAt fmt at story synced m t image = NoChance fmt at t image → IsWholeAfter fmt at story (synced m) image

-- ---- what places may leave

abbrev pub MayLeaveAll : (ℕ → Place) → (ℕ → Option (List ℕ)) → Type 0
MayLeaveAll place left = (n : ℕ) → MayLeaveFile (place n).file (place n).pending (left n)

abbrev pub AreFair : Format → (ℕ → Place) → (ℕ → Option (List ℕ)) → Type 0
AreFair fmt place left = (n : ℕ) (w : ℕ × List ℕ) → Contains (place n).writes w → IsFair fmt n (unwrap_or (left n) []) w

abbrev pub JournalPart : Format → Story → ℕ → ℕ → (ℕ → Place) → Type 0
JournalPart fmt story mark s place = (left : ℕ → Option (List ℕ)) → MayLeaveAll place left → AreFair fmt place left → JournalAt fmt story mark s left

abbrev pub LsnPart : Format → Story → ℕ → ℕ → Place → Type 0
LsnPart fmt story mark marking p = (left : Option (List ℕ)) → MayLeaveFile p.file p.pending left → IsOldOrNew fmt p.last_synced p.writes (unwrap_or left []) → LsnAt fmt story mark marking (unwrap_or left [])

-- a data file differs from what it was only within these entries
abbrev pub FilePart : List Entry → List ℕ → Option (List ℕ) → Place → Type 0
FilePart entries file old p = (left : Option (List ℕ)) → MayLeaveFile p.file p.pending left → DiffersWithin entries file old left

-- what the journal's files, the lsn file and each data file may leave
pub record Parts (at : Names) (Journal : (ℕ → Place) → Type 0) (Lsn : Place → Type 0) (entries : List Entry) (old : Files) (place : List ℕ → Place) : Type 0 where
  pub journal : Journal (places_of at place)
  pub lsn : Lsn (place at.lsn)
  pub files : (file : List ℕ) → IsData at file → FilePart entries file (old file) (place file)

-- the parts while sections are logged
abbrev pub LogParts : Format → Names → Story → ℕ → ℕ → ℕ → ℕ → (List ℕ → Place) → Type 0
LogParts fmt at story mark marking floor s place = Parts at (JournalPart fmt story mark s) (LsnPart fmt story mark marking) (laid at story floor s) (state at story floor) place
