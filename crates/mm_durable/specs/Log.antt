-- What the log is at all times, and the fact that its calls keep.
use Rattle.std.specs.Prelude.{List, [], ◌∷◌, ◌++◌, ◌≡◌, ℕ, ◌+◌, ◌-◌, ◌<◌, ◌≤◌, ◌^◌, Bool, ◌&&◌, nat_lt, ◌==◌, if◌then◌else◌, length, drop, get_or, max, Option, Some, ◌⊎◌, vec_capacity}
use Rattle.mm_outside.specs.Told.{Told}
use Rattle.mm_section.specs.declared.section.Section.{Section}
use Rattle.mm_outside.specs.Leaves.{Leaves}
use Rattle.mm_outside.specs.Ask.{Ask}
use Rattle.mm_section.specs.Spells.{section_bytes}
use Rattle.mm_jfiles.specs.Files.{Files, next_number, last_number, ready, written, dropped, how_many, remove_asks}
use Rattle.mm_jfiles.specs.Marks.{mark_asks}
use Rattle.mm_crash.specs.Journal.{AllCan}
use Rattle.mm_crash.specs.Story.{Story}
use Rattle.mm_crash.specs.Rest.{Counts}
use Rattle.mm_journal.specs.Tracks.{Tracks, log_asks}
use Rattle.mm_journal.proofs.Real.{the_format, the_names}
use Rattle.mm_prefix.specs.Prefix.{Numbers, PrefixAt, since, IsDurable}
use Rattle.mm_durable.specs.Names.{db_of, AreDatabases, AreSectionsOf}
use Rattle.mm_durable.specs.declared.log.Log.{Log}

-- how many sections are sealed, and how many of them are synced
abbrev pub sealed : Log → ℕ
sealed log = log.dropped + length log.sections.items

abbrev pub synced : Log → ℕ
synced log = length log.receipts.items

abbrev pub has_pending : Log → Bool
has_pending log = nat_lt (synced log) (sealed log)

-- the sections that aren't synced yet, the oldest first
abbrev pub pending_sections : Log → List Section
pending_sections log = drop (synced log - log.dropped) log.sections.items

-- each section is synced and marked
abbrev pub is_marked : Log → Bool
is_marked log = log.mark == synced log && synced log == sealed log

-- the numbers between two calls: no marking has begun that hasn't answered
abbrev pub numbers : Log → Numbers
numbers log = record { mark = log.mark; marking = log.mark; floor = log.floor; synced = length log.receipts.items }

-- the numbers since `mark_lsn` has begun, until it answers Ok: the floor is being marked
abbrev pub marking_numbers : Log → Numbers
marking_numbers log = record { mark = log.mark; marking = log.floor; floor = log.floor; synced = length log.receipts.items }

-- the greatest number that none of these is below
pub record IsLeast (n : ℕ) (xs : List ℕ) (one : ℕ) : Type 0 where
  pub low : (i : ℕ) → i < length xs → n ≤ get_or xs i 0
  pub most : n ≤ one
  pub greatest : (m : ℕ) → m ≤ one → ((i : ℕ) → i < length xs → m ≤ get_or xs i 0) → m ≤ n

-- the greatest number of sections that are synced and that each database is flushed to
abbrev pub IsFloor : ℕ → Log → Type 0
IsFloor n log = IsLeast n log.flushed.items (synced log)

-- whatever the disk tells
pub record IsSound (log : Log) : Type 0 where
  pub names : AreDatabases log.names.items
  pub can : AllCan the_format log.sections.items
  pub own : AreSectionsOf log.names.items log.sections.items
  pub kept : log.dropped ≤ log.floor
  pub order : log.mark ≤ log.floor
  pub floor_synced : log.floor ≤ synced log
  pub floor_flushed : (d : ℕ) → d < length log.names.items → log.floor ≤ get_or log.flushed.items d 0
  pub flushed_synced : (d : ℕ) → d < length log.names.items → get_or log.flushed.items d 0 ≤ synced log
  pub each : length log.flushed.items ≡ length log.names.items
  pub there : synced log ≤ sealed log
  pub few : sealed log < 2 ^ 32
  pub last : log.last ≤ 2 ^ 63

-- The journal can go on: it has begun no more files than sections are synced. After a call that was stopped that isn't known.
pub record GoesOn (log : Log) : Type 0 where
  pub limit : log.journal.limit ≤ 2 ^ 63
  pub begun : next_number log.journal ≤ synced log

-- the sealed sections, the databases and where the run began are as they were
pub record KeepsRun (old new : Log) : Type 0 where
  pub names : new.names.items ≡ old.names.items
  pub last : new.last ≡ old.last
  pub sections : new.sections.items ≡ old.sections.items
  pub dropped : new.dropped ≡ old.dropped
  pub space : vec_capacity old.sections ≤ vec_capacity new.sections

-- the same, but that the oldest sections aren't kept any more: those that all data files have, synced
pub record LetsGo (old new : Log) : Type 0 where
  pub names : new.names.items ≡ old.names.items
  pub last : new.last ≡ old.last
  pub sealed_same : sealed new ≡ sealed old
  pub dropped : new.dropped ≡ new.floor
  pub sections : new.sections.items ≡ drop (new.dropped - old.dropped) old.sections.items
  pub space : vec_capacity old.sections ≤ vec_capacity new.sections

-- how far the sections have come is as it was
pub record KeepsCounts (old new : Log) : Type 0 where
  pub receipts_kept : new.receipts.items ≡ old.receipts.items
  pub flushed_kept : new.flushed.items ≡ old.flushed.items
  pub floor_kept : new.floor ≡ old.floor
  pub mark_kept : new.mark ≡ old.mark

-- so many sections more are synced
pub record HasLogged (n : ℕ) (old new : Log) : Type 0 where
  pub synced_more : synced new ≡ synced old + n
  pub flushed_kept : new.flushed.items ≡ old.flushed.items
  pub floor_kept : new.floor ≡ old.floor
  pub mark_kept : new.mark ≡ old.mark

-- the database of this number is flushed up to this section, or farther
pub record HasFlushed (db upto : ℕ) (old new : Log) : Type 0 where
  pub own : get_or new.flushed.items db 0 ≡ max (get_or old.flushed.items db 0) (upto - old.last)
  pub others : (d : ℕ) → (d ≡ db → ⊥) → get_or new.flushed.items d 0 ≡ get_or old.flushed.items d 0
  pub receipts_kept : new.receipts.items ≡ old.receipts.items
  pub floor_kept : new.floor ≡ old.floor
  pub mark_kept : new.mark ≡ old.mark

-- nothing but the floor
pub record HasSynced (old new : Log) : Type 0 where
  pub receipts_kept : new.receipts.items ≡ old.receipts.items
  pub flushed_kept : new.flushed.items ≡ old.flushed.items
  pub mark_kept : new.mark ≡ old.mark

-- the floor is marked
pub record HasMarked (old new : Log) : Type 0 where
  pub mark_is : new.mark ≡ old.floor
  pub receipts_kept : new.receipts.items ≡ old.receipts.items
  pub flushed_kept : new.flushed.items ≡ old.flushed.items
  pub floor_kept : new.floor ≡ old.floor

-- a journal without files, of which each takes sections until it has so many bytes or more
abbrev pub no_files : ℕ → Files
no_files limit = record { limit = limit; first = 0; lasts = []; end = 0 }

-- what is asked of the disk for the oldest of these sections: it is written behind the last, and synced
abbrev pub oldest_asks : Files → List Section → List Ask
oldest_asks f [] = []
oldest_asks f (x ∷ sections) = log_asks f (section_bytes (last_number (ready f) + 1) x)

-- the journal's files with it
abbrev pub with_oldest : Files → List Section → Files
with_oldest f [] = f
with_oldest f (x ∷ sections) = written x.number (length (section_bytes (last_number (ready f) + 1) x)) (ready f)

-- what is asked of the disk for the floor's number in the lsn file: nothing where it is there
abbrev pub floor_asks : Log → List Ask
floor_asks log = if nat_lt log.mark log.floor then mark_asks (log.last + log.floor) else []

-- what is asked of the disk to trim the journal
abbrev pub trim_asks : Log → List Ask
trim_asks log = remove_asks log.journal.first (how_many (log.last + log.mark) log.journal.lasts)

-- The journal's files are those from the first on that has a section above the marked number, or from the last on.
abbrev pub HasTrimmed : Log → Log → Type 0
HasTrimmed old new = new.journal ≡ dropped (how_many (old.last + old.mark) old.journal.lasts) old.journal

-- what is asked of the disk to clear it
abbrev pub clear_asks : Log → List Ask
clear_asks log = remove_asks log.journal.first (length log.journal.lasts)

-- the journal has no file
abbrev pub HasCleared : Log → Type 0
HasCleared new = new.journal.lasts ≡ []

-- one section more is sealed
pub record HasMore (old : Log) (section : Section) (new : Log) : Type 0 where
  pub names : new.names.items ≡ old.names.items
  pub last : new.last ≡ old.last
  pub sections : new.sections.items ≡ old.sections.items ++ section ∷ []
  pub dropped : new.dropped ≡ old.dropped

-- no section is sealed yet
pub record IsBegun (names : List (List ℕ)) (last : ℕ) (log : Log) : Type 0 where
  pub names_are : log.names.items ≡ names
  pub last_is : log.last ≡ last
  pub none : sealed log ≡ 0

-- Where the disk tells: a run that began when t was told has these sealed sections, and these numbers at each moment.
pub record IsKept (t : Told) (story : Story) (history : ℕ → Numbers) (log : Log) (u : Told) : Type 0 where
  pub counts : Counts
  pub durable : IsDurable the_format the_names (db_of log.names.items) t story counts history log.receipts.items u
  pub tracks : Tracks the_format log.journal counts
  pub mark : counts.mark ≡ log.mark
  pub marking : counts.marking ≡ log.mark
  pub floor : counts.floor ≡ log.floor
  pub flushed : (d : ℕ) → d < length log.names.items → counts.flushed d ≡ get_or log.flushed.items d 0
  pub sections : log.sections.items ≡ drop log.dropped story.sections
  pub last : story.last ≡ log.last

-- the section of this number is synced in this run, and this is the moment of its receipt
pub record HasReceipt (log : Log) (section moment : ℕ) : Type 0 where
  pub later : log.last < section
  pub no_later : section ≤ log.last + synced log
  pub is : moment ≡ get_or log.receipts.items (section - log.last - 1) 0

-- it isn't synced, or is older than the run
abbrev pub HasNoReceipt : Log → ℕ → Type 0
HasNoReceipt log section = (section ≤ log.last) ⊎ (log.last + synced log < section)

-- the fact goes on, with the new numbers past the moment of now
abbrev pub Keeps : Log → Log → Option Told → Option Told → Type 0
Keeps old new before after = (t u : Told) (story : Story) (history : ℕ → Numbers) → before ≡ Some u → IsKept t story history old u → (v : Told) × (after ≡ Some v) × IsKept t story (since (length v.calls) (numbers new) history) new v

-- The same of `mark_lsn`: within the call the floor is being marked, and past the moment at which it answers Ok the numbers are the new ones.
abbrev pub KeepsMarking : Log → Log → Option Told → Option Told → Type 0
KeepsMarking old new before after = (t u : Told) (story : Story) (history : ℕ → Numbers) → before ≡ Some u → IsKept t story history old u
    → (v : Told) × (after ≡ Some v) × IsKept t story (since (length v.calls) (numbers new) (since (length u.calls) (marking_numbers old) history)) new v

-- a call that is stopped leaves nothing else either, with the numbers as they were
abbrev pub Leaving : Log → Option Told → Option Told → Type 0
Leaving old before after = (t u : Told) (story : Story) (history : ℕ → Numbers) → before ≡ Some u → IsKept t story history old u → (v : Told) × (after ≡ Some v) × Leaves (PrefixAt the_format the_names story history) t v

-- a stopped `mark_lsn`: since it has begun the floor is being marked
abbrev pub LeavingMarking : Log → Option Told → Option Told → Type 0
LeavingMarking old before after = (t u : Told) (story : Story) (history : ℕ → Numbers) → before ≡ Some u → IsKept t story history old u
    → (v : Told) × (after ≡ Some v) × Leaves (PrefixAt the_format the_names story (since (length u.calls) (marking_numbers old) history)) t v
