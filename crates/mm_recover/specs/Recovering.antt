-- What a recovery makes of a disk, and what a crash leaves while it does.
use Rattle.std.specs.Prelude.{◌≡◌, ℕ, ◌^◌, ◌<◌, max, List, length, Option, None, Some, unwrap_or, ◌⊎◌}
use Rattle.std.specs.FinMap.{get, keys}
use Rattle.mm_outside.specs.Image.{Image, bytes_at}
use Rattle.mm_outside.specs.Told.{Told, image_of}
use Rattle.mm_outside.specs.Place.{place_of, clean, IsClean}
use Rattle.mm_outside.specs.Ask.{Ask, asked, IsCut}
use Rattle.mm_outside.specs.Leaves.{Leaves}
use Rattle.mm_section.specs.declared.section.Section.{Section}
use Rattle.mm_crash.specs.Overlay.{Entry, over}
use Rattle.mm_crash.specs.Journal.{above, entries_of}
use Rattle.mm_crash.specs.Recovered.{IsData, Files, HasNumber, Recovers, journal_of}
use Rattle.mm_crash.specs.Chance.{RecoversAt}
use Rattle.mm_crash.specs.Rest.{IsRecovered}
use Rattle.mm_crash.specs.Asks.{sync_asks, recovery_asks}
use Rattle.mm_journal.specs.Tracks.{last_of}
use Rattle.mm_journal.proofs.Real.{the_format, the_names}
use Rattle.mm_recover.specs.declared.fault.Recover.{Recover}
use Rattle.mm_recover.specs.declared.fault.Recover.TheVariants.{DiskFault, NoMemory, BadHeader, JournalGap, BadLength}
use Rattle.mm_recover.specs.declared.replaying.Recovered.{Recovered}
use Rattle.mm_recover.specs.Reading.{ReadsAs, HasBadHeader, HasJournalGap}

-- ---- the first syncs

-- every file that is there is synced
abbrev pub settle_asks : Told → List Ask
settle_asks t = sync_asks (keys (image_of t))

-- what is told when all of them are
abbrev pub settled : Told → Told
settled t = asked (settle_asks t) t

-- Nothing is pending of a file that isn't there, so that the syncs of all others settle the disk.
abbrev pub CanSettle : Told → Type 0
CanSettle t = (name : List ℕ) → get (image_of t) name ≡ None → place_of t name ≡ clean None

abbrev pub Settles : Option Told → Option Told → Type 0
Settles old new = (t : Told) → old ≡ Some t → new ≡ Some (settled t)

abbrev pub SettlesSome : Option Told → Option Told → Type 0
SettlesSome old new = (t : Told) → old ≡ Some t → (u : Told) × (new ≡ Some u) × IsCut (settle_asks t) t u

-- ---- what is read

-- This is the number of the lsn file, or there is none. A number that it spells fits 64 bits.
pub record ReadsLsn (image : Image) (lsn : Option ℕ) : Type 0 where
  pub reads : HasNumber the_format (bytes_at image the_names.lsn) lsn
  pub small : (n : ℕ) → bytes_at image the_names.lsn ≡ the_format.number n → n < 2 ^ 64

-- the number of the lsn file, the numbers of the journal's files, and its sections; the journal isn't bad
pub record ReadsLog (image : Image) (lsn : Option ℕ) (numbers : List ℕ) (sections : List Section) : Type 0 where
  pub mark : ReadsLsn image lsn
  pub journal : ReadsAs lsn (journal_of the_names image) numbers sections

-- the journal is bad, and this is its first fault
abbrev pub IsFaultOf : Image → Recover → Type 0
IsFaultOf image (BadHeader file) = (lsn : Option ℕ) × ReadsLsn image lsn × HasBadHeader lsn (journal_of the_names image) file
IsFaultOf image (JournalGap expected found) = (lsn : Option ℕ) × ReadsLsn image lsn × HasJournalGap lsn (journal_of the_names image) expected found
IsFaultOf image (BadLength file len) = ⊥
IsFaultOf image DiskFault = Unit {0}
IsFaultOf image NoMemory = Unit {0}

-- the disk failed, or memory was wanting
abbrev pub IsOfDevice : Recover → Type 0
IsOfDevice (BadHeader file) = ⊥
IsOfDevice (JournalGap expected found) = ⊥
IsOfDevice (BadLength file len) = ⊥
IsOfDevice DiskFault = Unit {0}
IsOfDevice NoMemory = Unit {0}

-- the sections above the lsn, which is 0 where it isn't readable
abbrev pub newer_of : Option ℕ → List Section → List Section
newer_of lsn sections = above (unwrap_or lsn 0) sections

-- what they lay over the data files
abbrev pub laid_by : Option ℕ → List Section → List Entry
laid_by lsn sections = entries_of the_names.disk_name (newer_of lsn sections)

-- the greater of the lsn and the last section
abbrev pub last_number : Option ℕ → List Section → ℕ
last_number lsn sections = max (unwrap_or lsn 0) (last_of sections)

-- ---- what is made of it

-- the sections above the lsn are laid over the files, these files are synced, the last number is written and synced, and the journal's files are removed, the oldest first
abbrev pub replay_asks : Option ℕ → List ℕ → List Section → List (List ℕ) → List Ask
replay_asks lsn numbers sections names = recovery_asks the_format the_names (laid_by lsn sections) names (last_number lsn sections) numbers

-- The data files have the sections above the lsn laid over them; the lsn file holds the last number; no journal is left.
pub record IsReplayed (r : Recovered) (t u : Told) : Type 0 where
  pub lsn : Option ℕ
  pub numbers : List ℕ
  pub sections : List Section
  pub log : ReadsLog (image_of t) lsn numbers sections
  pub last : r.last ≡ last_number lsn sections
  pub replayed : r.replayed ≡ length (newer_of lsn sections)
  pub files : (file : List ℕ) → IsData the_names file → get (image_of u) file ≡ over (laid_by lsn sections) file (get (image_of t) file)
  pub marked : get (image_of u) the_names.lsn ≡ Some (the_format.number r.last)
  pub cleared : (n : ℕ) → journal_of the_names (image_of u) n ≡ None

abbrev pub Replays : Recovered → Option Told → Option Told → Type 0
Replays r old new = (t : Told) → old ≡ Some t → (u : Told) × (new ≡ Some u) × IsReplayed r t u

-- where the journal is bad, no more was done than the first syncs
abbrev pub OnlySettled : Recover → Option Told → Option Told → Type 0
OnlySettled (BadHeader file) old new = Settles old new
OnlySettled (JournalGap expected found) old new = Settles old new
OnlySettled (BadLength file len) old new = Settles old new
OnlySettled DiskFault old new = Unit {0}
OnlySettled NoMemory old new = Unit {0}

-- ---- whole images

-- The disk is recovered, if its image was whole and its first syncs could settle it.
abbrev pub EndsRecovered : Recovered → Option Told → Option Told → Type 0
EndsRecovered r old new = (files : Files) (t : Told) → old ≡ Some t → CanSettle t → Recovers the_format the_names (image_of t) files → (u : Told) × (new ≡ Some u) × IsRecovered the_format the_names files r.last u

-- A disk with nothing pending and a whole image: a crash at any moment since leaves whole images with the same recovered files.
abbrev pub KeepsRecovery : Option Told → Option Told → Type 0
KeepsRecovery old new = (files : Files) (t : Told) → old ≡ Some t → IsClean t → Recovers the_format the_names (image_of t) files → (u : Told) × (new ≡ Some u) × Leaves (RecoversAt the_format the_names files) t u

-- The same of a disk that the first syncs can settle, at each moment since they did.
abbrev pub KeepsSettled : Option Told → Option Told → Type 0
KeepsSettled old new = (files : Files) (t : Told) → old ≡ Some t → CanSettle t → Recovers the_format the_names (image_of t) files
    → (u : Told) × (new ≡ Some u) × (IsCut (settle_asks t) t u ⊎ Leaves (RecoversAt the_format the_names files) (settled t) u)
