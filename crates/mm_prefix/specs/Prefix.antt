-- What each moment of a run may leave, and the fact that the side that logs keeps.
use Rattle.std.specs.Prelude.{◌≡◌, ℕ, ◌<◌, ◌≤◌, nat_lt, if◌then◌else◌, List, length, get_or}
use Rattle.mm_outside.specs.Image.{Image}
use Rattle.mm_outside.specs.Told.{Told}
use Rattle.mm_outside.specs.Leaves.{Leaves}
use Rattle.mm_crash.specs.Journal.{Format}
use Rattle.mm_crash.specs.Recovered.{Names}
use Rattle.mm_crash.specs.Chance.{NoChance}
use Rattle.mm_crash.specs.Story.{Story, IsSound}
use Rattle.mm_crash.specs.Parts.{Stands, IsWholeAfter}
use Rattle.mm_crash.specs.Rest.{Counts, IsAtRest}

-- How many of the run's sections are marked in the lsn file, are being marked there (as many, where no marking has begun that hasn't answered
-- Ok), are in all synced data files (the floor), and are synced in the journal.
pub record Numbers : Type 0 where
  pub mark : ℕ
  pub marking : ℕ
  pub floor : ℕ
  pub synced : ℕ

abbrev pub numbers_of : Counts → Numbers
numbers_of c = record { mark = c.mark; marking = c.marking; floor = c.floor; synced = c.s }

-- One image: outside what the sections above the floor make and write, each data file is as at the floor; the journal has the sections from the
-- marked one on without a gap, up to the last synced one or one more; the lsn is unreadable, or it is the marked number or the one whose marking
-- has begun and hasn't answered Ok. Such a number is at most the floor, and the floor is at most the last synced one.
-- So the image is whole, and its recovery has the files as after the last synced section or after one more, the same for all databases.
pub record IsPrefix (fmt : Format) (at : Names) (story : Story) (n : Numbers) (image : Image) : Type 0 where
  pub mark_marking : n.mark ≤ n.marking
  pub marking_floor : n.marking ≤ n.floor
  pub floor_synced : n.floor ≤ n.synced
  pub stands : Stands fmt at story n.mark n.marking n.floor n.synced image
  pub whole : IsWholeAfter fmt at story n.synced image

-- The same of each image without a chance match. The numbers are those of that moment.
abbrev pub PrefixAt : Format → Names → Story → (ℕ → Numbers) → ℕ → Told → Image → Type 0
PrefixAt fmt at story history m t image = NoChance fmt at t image → IsPrefix fmt at story (history m) image

-- the numbers at each moment: from the one after this on they are new, and up to it as they were
abbrev pub since : ℕ → Numbers → (ℕ → Numbers) → ℕ → Numbers
since moment n history m = if nat_lt moment m then n else history m

-- a section that has a receipt is among the synced ones at each later moment
abbrev pub AreReceipts : List ℕ → (ℕ → Numbers) → Type 0
AreReceipts receipts history = (k : ℕ) → k < length receipts → (m : ℕ) → get_or receipts k 0 < m → k < (history m).synced

-- The story has all sealed sections, the counts say how far they have come, and each synced one has a receipt.
pub record IsDurable (fmt : Format) (at : Names) (db : List ℕ → ℕ) (t : Told) (story : Story) (c : Counts) (history : ℕ → Numbers) (receipts : List ℕ) (u : Told) : Type 0 where
  pub sound : IsSound fmt at story
  -- what stands on the disk now
  pub rest : IsAtRest fmt at db story c u
  -- each image that a crash leaves, at each moment since the start
  pub leaves : Leaves (PrefixAt fmt at story history) t u
  -- the numbers of now are those that the counts say
  pub now : (m : ℕ) → length u.calls < m → history m ≡ numbers_of c
  pub each : length receipts ≡ c.s
  pub given : AreReceipts receipts history

-- what a run begins with
abbrev pub at_first : ℕ → Numbers
at_first m = record { mark = 0; marking = 0; floor = 0; synced = 0 }
