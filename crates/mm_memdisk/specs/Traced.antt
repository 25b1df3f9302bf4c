-- What is known of one file after some of the calls.
use Rattle.std.specs.Prelude.{◌≡◌, ℕ, max, min, Bool, if◌then◌else◌, List, [], ◌∷◌, length, Option, None, Some, unwrap_or}
use Rattle.std.specs.Option.{option_map}
use Rattle.mm_outside.specs.Told.{Change, Pending, IsTorn, pending_by, nothing_pending}
use Rattle.mm_outside.specs.Crash.{file_after}
use Rattle.mm_memdisk.specs.declared.traced.Contents.{Contents}
use Rattle.mm_memdisk.specs.declared.traced.Unsettled.{Unsettled}
use Rattle.mm_memdisk.specs.declared.traced.Traced.{Traced}

-- the file as it reads
abbrev pub file_of : Traced → Option (List ℕ)
file_of t = option_map (λ (c : Contents). c.read.items) t.contents

abbrev pub pending_in : Unsettled → Pending
pending_in p = record { least = p.least; greatest = p.greatest; ranges = p.ranges.items; is_unsure = p.is_unsure }

-- a crash may leave the file with each of its contents
abbrev pub MayHave : Option Contents → Pending → Type 0
MayHave None p = Unit {0}
MayHave (Some c) p = IsTorn c.read.items p c.read.items × (IsTorn c.read.items p c.synced.items × IsTorn c.read.items p c.written.items)

-- the file reads so, and this is pending of it
pub record Traces (content : Option (List ℕ)) (p : Pending) (t : Traced) : Type 0 where
  pub file : file_of t ≡ content
  pub pending : pending_in t.pending ≡ p
  pub torn : MayHave t.contents (pending_in t.pending)

-- The trace goes on by one call, as the file and what is pending of it do.
abbrev pub StepsBy : Change → Bool → Traced → Traced → Type 0
StepsBy change done old new = (file : Option (List ℕ)) (p : Pending) → Traces file p old → Traces (if done then file_after change file else file) (pending_by change done file p) new

-- the trace of a file of which nothing is pending
abbrev pub StartsAs : Option (List ℕ) → Traced → Type 0
StartsAs file traced = Traces file (nothing_pending (length (unwrap_or file []))) traced

pub record RangeAdded (old : Unsettled) (at end : ℕ) (new : Unsettled) : Type 0 where
  pub least : new.least ≡ old.least
  pub greatest : new.greatest ≡ max old.greatest end
  pub ranges : new.ranges.items ≡ (at, end) ∷ old.ranges.items
  pub unsure : new.is_unsure ≡ old.is_unsure

pub record LengthAdded (old : Unsettled) (len : ℕ) (new : Unsettled) : Type 0 where
  pub least : new.least ≡ min old.least len
  pub greatest : new.greatest ≡ max old.greatest len
  pub ranges : new.ranges.items ≡ old.ranges.items
  pub unsure : new.is_unsure ≡ old.is_unsure
