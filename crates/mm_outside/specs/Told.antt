-- What a disk that tells has been asked, what it reads, and what a crash leaves.
use Rattle.std.specs.Prelude.{◌≡◌, ℕ, ◌+◌, ◌-◌, ◌^◌, ◌<◌, ◌≤◌, min, max, Bool, true, false, not, ◌&&◌, ◌||◌, if◌then◌else◌, nat_le, nat_lt, ◌==◌, IsTrue, List, [], ◌∷◌, length, slice_index, Option, None, Some, Result, Ok, Err}
use Rattle.std.specs.Option.{option_map_or}
use Rattle.std.specs.Bool.{MatchBool}
use Rattle.std.specs.Ordering.{eq_by_cmp}
use Rattle.std.specs.FinMap.{get, insert, remove}
use Rattle.mm_bytes.specs.Files.{resized, overwritten}
use Rattle.mm_outside.specs.Image.{name_cmp, Image, bytes_at, with_file}
use Rattle.mm_outside.specs.declared.disk.Device.{Device}
use Rattle.mm_outside.specs.declared.disk.Device.TheVariants.{Fault, NoMemory}

-- what a changing call is to do to its file
pub data Change : Type 0 where
  Creates : Change
  Writes : (at : ℕ) (bytes : List ℕ) → Change
  Resizes : (len : ℕ) → Change
  Syncs : Change
  Removes : Change

-- a changing call that has begun, and whether it answered Ok
pub record Call : Type 0 where
  pub name : List ℕ
  pub change : Change
  pub is_done : Bool

-- the files at first, with nothing pending, and each changing call that has begun, the newest first
pub record Told : Type 0 where
  pub start : Image
  pub calls : List Call

-- what is told after one call more that has begun
abbrev pub called : List ℕ → Change → Bool → Told → Told
called name change is_done t = record { start = t.start; calls = record { name = name; change = change; is_done = is_done } ∷ t.calls }

-- what is told after one call more. One that found no memory hasn't begun.
abbrev pub told_after : {T : Type 0} → List ℕ → Change → Result T Device → Told → Told
told_after name change (Ok _) t = called name change true t
told_after name change (Err Fault) t = called name change false t
told_after name change (Err NoMemory) t = t

-- What is told goes on by a step, where something is told. Where nothing is, nothing is afterwards.
pub record Becomes (old new : Option Told) (step : Told → Told) : Type 0 where
  pub tells : (t : Told) → old ≡ Some t → new ≡ Some (step t)
  pub silent : old ≡ None → new ≡ None

-- A call that found no memory hasn't begun; any other has, whatever it answered. The number of begun calls stands at 2^64 - 1 at the end.
abbrev pub Counts : {T : Type 0} → ℕ → ℕ → Result T Device → Type 0
Counts before now (Ok _) = now ≡ before + 1
Counts before now (Err Fault) = (before ≤ now) × (now ≤ before + 1) × (before < 2 ^ 64 - 1 → now ≡ before + 1)
Counts before now (Err NoMemory) = now ≡ before

-- of what is told, P holds
abbrev pub IfTold : Option Told → (Told → Type 0) → Type 0
IfTold told P = (t : Told) → told ≡ Some t → P t

-- ---- what is read

abbrev pub changed : Change → List ℕ → Image → Image
changed Creates name image = option_map_or (λ _. image) (get image name) (insert image name [])
changed (Writes at bytes) name image = with_file name (overwritten at bytes) image
changed (Resizes len) name image = with_file name (resized len) image
changed Syncs name image = image
changed Removes name image = remove image name

-- the files after these calls. One that answered a fault changes nothing that is read.
abbrev pub image_after : Image → List Call → Image
image_after start [] = start
image_after start (call ∷ calls) = if call.is_done then changed call.change call.name (image_after start calls) else image_after start calls

abbrev pub image_of : Told → Image
image_of t = image_after t.start t.calls

-- ---- what a crash leaves
-- Of each file, since its last sync that was done: its length may be any from the least to the greatest that it had. Each written range, and all bytes
-- past the least length, may hold anything; other bytes stay. A creation and a removal last once they are done, and a stop within them leaves either state.
-- A call that answered a fault counts as begun and not finished.

-- what is pending of a file since its last sync
pub record Pending : Type 0 where
  -- of the lengths that it had
  pub least : ℕ
  pub greatest : ℕ
  -- the ranges that were written, each from a place up to another
  pub ranges : List (ℕ × ℕ)
  -- its creation or its removal was stopped, so that it may be there or not
  pub is_unsure : Bool

abbrev pub nothing_pending : ℕ → Pending
nothing_pending len = record { least = len; greatest = len; ranges = []; is_unsure = false }

-- what is pending of a file after a call for it. One that was stopped counts as begun and not finished.
abbrev pub pending_by : Change → Bool → Option (List ℕ) → Pending → Pending
pending_by Creates done None p = record { least = 0; greatest = 0; ranges = []; is_unsure = not done }
pending_by Creates done (Some old) p = p
pending_by (Writes at bytes) done None p = p
pending_by (Writes at bytes) done (Some old) p = record p { greatest = max p.greatest (at + length bytes); ranges = (at, at + length bytes) ∷ p.ranges }
pending_by (Resizes len) done None p = p
pending_by (Resizes len) done (Some old) p = record p { least = min p.least len; greatest = max p.greatest len }
pending_by Syncs done None p = p
pending_by Syncs done (Some old) p = if done then nothing_pending (length old) else p
pending_by Removes done None p = if done then nothing_pending 0 else p
pending_by Removes done (Some old) p = if done then nothing_pending 0 else record p { is_unsure = true }

abbrev pub pending_after : Image → List Call → List ℕ → Pending
pending_after start [] name = nothing_pending (length (bytes_at start name))
pending_after start (call ∷ calls) name =
    if eq_by_cmp name_cmp name call.name then pending_by call.change call.is_done (get (image_after start calls) name) (pending_after start calls name) else pending_after start calls name

abbrev pub pending_of : Told → List ℕ → Pending
pending_of t name = pending_after t.start t.calls name

abbrev pub is_in : ℕ → List (ℕ × ℕ) → Bool
is_in i [] = false
is_in i (r ∷ ranges) = (nat_le r.0 i && nat_lt i r.1) || is_in i ranges

-- A crash may leave these bytes of a file that reads so. Each written range, and all past the least length, may hold any bytes.
pub record IsTorn (bytes : List ℕ) (p : Pending) (left : List ℕ) : Type 0 where
  pub no_shorter : p.least ≤ length left
  pub no_longer : length left ≤ p.greatest
  pub same : (i : ℕ) → i < p.least → is_in i p.ranges ≡ false → slice_index left i ≡ slice_index bytes i

abbrev pub MayLeaveFile : Option (List ℕ) → Pending → Option (List ℕ) → Type 0
MayLeaveFile None p None = Unit {0}
MayLeaveFile None p (Some left) = IsTrue p.is_unsure × (left ≡ [])
MayLeaveFile (Some bytes) p None = IsTrue p.is_unsure
MayLeaveFile (Some bytes) p (Some left) = IsTorn bytes p left

-- a crash after these calls may leave this image
abbrev pub MayLeave : Image → List Call → Image → Type 0
MayLeave start calls image = (name : List ℕ) → MayLeaveFile (get (image_after start calls) name) (pending_after start calls name) (get image name)

-- the same call, before it has answered
abbrev pub begun : Call → Call
begun call = record call { is_done = false }

-- A crash after the m-th call began and before the next one began may leave this image; for greater m, a crash now.
abbrev pub left_after : Image → List Call → ℕ → Image → Type 0
left_after start [] m image = MayLeave start [] image
left_after start (call ∷ calls) m image =
    MatchBool (nat_le m (length calls)) (left_after start calls m image)
    (MatchBool (m == length calls + 1) (MayLeave start (begun call ∷ calls) image) (MayLeave start (call ∷ calls) image))

abbrev pub Left : Told → ℕ → Image → Type 0
Left t m image = left_after t.start t.calls m image
