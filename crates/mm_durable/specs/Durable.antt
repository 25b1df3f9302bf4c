-- The fact of the durable side, and what its calls keep.
use Rattle.std.specs.Prelude.{◌≡◌, ℕ, ◌+◌, ◌<◌, ◌≤◌, Bool, true, false, ◌&&◌, ◌==◌, nat_lt, List, [], length, take, get_or, Option, Some, vec_capacity}
use Rattle.mm_outside.specs.Told.{Told}
use Rattle.mm_outside.specs.Leaves.{Leaves}
use Rattle.std.specs.FinMap.{get}
use Rattle.mm_ranges.specs.Limits.{is_file}
use Rattle.mm_crash.specs.Recovered.{Files}
use Rattle.mm_crash.specs.Journal.{entries_of}
use Rattle.mm_crash.specs.Story.{Story, with_section}
use Rattle.mm_section.specs.declared.section.Section.{Section}
use Rattle.mm_journal.specs.Real.{disk_name}
use Rattle.mm_journal.proofs.Real.{the_format, the_names}
use Rattle.mm_prefix.specs.Prefix.{Numbers, PrefixAt, AreReceipts, since}
use Rattle.mm_items.specs.Files.{AreLaid}
use Rattle.mm_items.specs.Given.{Taken, images_of, sealed_parts}
use Rattle.mm_durable.specs.Log.{IsSound, GoesOn, IsKept, KeepsRun, LetsGo, numbers, marking_numbers, sealed}
use Rattle.mm_durable.specs.Intake.{is_ours, by_name, first_items, lists, group_of, has_seats, IsIntake, SameTaken}
use Rattle.mm_durable.specs.declared.log.Log.{Log}
use Rattle.mm_durable.specs.declared.durable.Durable.{Durable}

-- After each number of sections, each database's files read the image of as many items, and item 0.
pub record HasImages (names : List (List ℕ)) (items : Taken) (story : Story) : Type 0 where
  pub laid : (k : ℕ) → k ≤ length story.sections → AreLaid (is_ours names) disk_name story.base (entries_of disk_name (take k story.sections)) (images_of (first_items (k + 1) items))

-- the files read each database's item 0
abbrev pub ReadItems : Files → List (List ℕ) → Taken → Type 0
ReadItems files names items = (n : List ℕ) → is_ours names n ≡ true → (f : ℕ) → is_file f ≡ true → files (disk_name n f) ≡ get (images_of (first_items 1 items) n) f

-- The fact, where the disk tells: a run that began when t was told has these sealed sections, and these numbers at each moment. What a crash
-- leaves at each moment since is a prefix of the sections, and what the sections make of the files is what the items make.
pub record IsServed (t u : Told) (story : Story) (history : ℕ → Numbers) (log : Log) (items : Taken) : Type 0 where
  pub log_is : IsKept t story history log u
  pub images : HasImages log.names.items items story

-- What is known of a crash, also where a call was stopped: each image that a crash leaves, at each moment since the run began, is a prefix of
-- the sections that were sealed then; a section with a receipt is among those synced at each later moment; and what the sections make of the
-- files is what the items make.
pub record IsSafe (t u : Told) (story : Story) (history : ℕ → Numbers) (log : Log) (items : Taken) : Type 0 where
  pub leaves : Leaves (PrefixAt the_format the_names story history) t u
  pub given : AreReceipts log.receipts.items history
  pub images : HasImages log.names.items items story
  pub count : length story.sections ≤ sealed log

module _ {D : Type 0} where
  -- the items of each database by its name
  abbrev pub items_of : Durable D → Taken
  items_of d = by_name d.log.names.items (lists d.intake)

  -- whatever the disk tells, and also where a device call was stopped
  pub record IsOrderly (d : Durable D) : Type 0 where
    pub sound : IsSound d.log
    pub intake_is : IsIntake d.log.names.items (sealed d.log) d.intake
    pub goes : d.ended ≡ false → GoesOn d.log

  -- since the last seal `ready` answered Ok
  abbrev pub is_ready : Durable D → Bool
  is_ready d = has_seats d.intake && nat_lt (length d.log.sections.items) (vec_capacity d.log.sections)

  -- the database of this number closed since the last seal: its feed took an item more than sections are sealed, and item 0
  abbrev pub has_closed : Durable D → ℕ → Bool
  has_closed d db = length (get_or (lists d.intake) db []) == sealed d.log + 2

  abbrev pub AllClosed : Durable D → Type 0
  AllClosed d = (db : ℕ) → db < length d.log.names.items → has_closed d db ≡ true

  -- the section of what the databases gave since the last seal, in rising order of their names
  abbrev pub next_section : Durable D → Section
  next_section d = record { number = d.log.last + sealed d.log + 1; parts = sealed_parts (group_of (items_of d) (sealed d.log + 1) d.intake.sorted.items) }

  -- the fact goes on, whatever the disk tells, and without a call of it
  abbrev pub StillServes : Durable D → Durable D → Type 0
  StillServes old new = (t u : Told) (story : Story) (history : ℕ → Numbers) → IsServed t u story history old.log (items_of old) → IsServed t u story history new.log (items_of new)

  -- what is known of a crash stays
  abbrev pub StaysSafe : Durable D → Durable D → Type 0
  StaysSafe old new = (t u : Told) (story : Story) (history : ℕ → Numbers) → IsSafe t u story history old.log (items_of old) → IsSafe t u story history new.log (items_of new)

  -- the same with a section more
  abbrev pub ServesSealed : Durable D → Section → Durable D → Type 0
  ServesSealed old section new = (t u : Told) (story : Story) (history : ℕ → Numbers) → IsServed t u story history old.log (items_of old) → IsServed t u (with_section story section) history new.log (items_of new)

  -- the fact goes on, with the new numbers past the moment of now
  abbrev pub Serves : Durable D → Durable D → Option Told → Option Told → Type 0
  Serves old new before after = (t u : Told) (story : Story) (history : ℕ → Numbers) → before ≡ Some u → IsServed t u story history old.log (items_of old)
      → (v : Told) × (after ≡ Some v) × IsServed t v story (since (length v.calls) (numbers new.log) history) new.log (items_of new)

  -- a call that is stopped leaves nothing else either, with the numbers as they were
  abbrev pub LeavesOff : Durable D → Durable D → Option Told → Option Told → Type 0
  LeavesOff old new before after = (t u : Told) (story : Story) (history : ℕ → Numbers) → before ≡ Some u → IsServed t u story history old.log (items_of old)
      → (v : Told) × (after ≡ Some v) × IsSafe t v story history new.log (items_of new)

  -- The same of `mark_lsn`: within the call the floor is being marked, and past the moment at which it answers Ok the numbers are the new ones.
  abbrev pub ServesMarking : Durable D → Durable D → Option Told → Option Told → Type 0
  ServesMarking old new before after = (t u : Told) (story : Story) (history : ℕ → Numbers) → before ≡ Some u → IsServed t u story history old.log (items_of old)
      → (v : Told) × (after ≡ Some v) × IsServed t v story (since (length v.calls) (numbers new.log) (since (length u.calls) (marking_numbers old.log) history)) new.log (items_of new)

  -- a stopped `mark_lsn`: since it has begun the floor is being marked
  abbrev pub LeavesMarking : Durable D → Durable D → Option Told → Option Told → Type 0
  LeavesMarking old new before after = (t u : Told) (story : Story) (history : ℕ → Numbers) → before ≡ Some u → IsServed t u story history old.log (items_of old)
      → (v : Told) × (after ≡ Some v) × IsSafe t v story (since (length u.calls) (marking_numbers old.log) history) new.log (items_of new)

  -- the same, but for the oldest sections, which all data files have, synced
  pub record SameButGone (old new : Durable D) : Type 0 where
    pub gone : LetsGo old.log new.log
    pub same_taken : SameTaken old.intake new.intake

  -- what a device call leaves as it is: the sealed sections, the databases, and what was taken from them
  pub record SameItems (old new : Durable D) : Type 0 where
    pub run : KeepsRun old.log new.log
    pub same_taken : SameTaken old.intake new.intake
