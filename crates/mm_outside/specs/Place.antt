-- All that is known of one file of a disk that tells, and how a changing call of that file changes it. A call is one equation on the place of its file.
use Rattle.std.specs.Prelude.{◌≡◌, ℕ, ◌+◌, Bool, true, if◌then◌else◌, nat_le, ◌==◌, List, [], ◌∷◌, length, Option, None, unwrap_or}
use Rattle.std.specs.FinMap.{get}
use Rattle.std.specs.Ordering.{eq_by_cmp}
use Rattle.mm_outside.specs.Image.{Image, name_cmp}
use Rattle.mm_outside.specs.Told.{Change, Call, Told, Pending, image_after, image_of, pending_of, pending_by, nothing_pending, begun, Writes, Syncs, Removes}
use Rattle.mm_outside.specs.Crash.{file_after}

-- ---- one file

-- what a call makes of the writes of its file that are under way
abbrev pub under_way_by : Change → Bool → List (ℕ × List ℕ) → List (ℕ × List ℕ)
under_way_by (Writes at bytes) done writes = (at, bytes) ∷ writes
under_way_by Syncs true writes = []
under_way_by Removes true writes = []
under_way_by change done writes = writes

-- the writes that a file was asked for since its last sync, each with its offset, the newest first
abbrev pub under_way : List Call → List ℕ → List (ℕ × List ℕ)
under_way [] name = []
under_way (call ∷ calls) name = if eq_by_cmp name_cmp name call.name then under_way_by call.change call.is_done (under_way calls name) else under_way calls name

-- what a call makes of the content that its file had at its last sync
abbrev pub last_synced_by : Change → Bool → Option (List ℕ) → Option (List ℕ) → Option (List ℕ)
last_synced_by Syncs true file content = file
last_synced_by Removes true file content = None
last_synced_by change done file content = content

-- The content of a file at its last sync, or at first. One that was made since, and not synced, has none, though its creation lasts.
abbrev pub last_synced : Image → List Call → List ℕ → Option (List ℕ)
last_synced start [] name = get start name
last_synced start (call ∷ calls) name =
    if eq_by_cmp name_cmp name call.name then last_synced_by call.change call.is_done (get (image_after start calls) name) (last_synced start calls name) else last_synced start calls name

-- a file as it reads, what is pending of it, its writes under way, and its content at its last sync
pub record Place : Type 0 where
  pub file : Option (List ℕ)
  pub pending : Pending
  pub writes : List (ℕ × List ℕ)
  pub last_synced : Option (List ℕ)

abbrev pub place_of : Told → List ℕ → Place
place_of t name = record { file = get (image_of t) name; pending = pending_of t name; writes = under_way t.calls name; last_synced = last_synced t.start t.calls name }

-- what a call makes of the place of its file. Every other place stays.
abbrev pub place_by : Change → Bool → Place → Place
place_by change done p = record {
  file = if done then file_after change p.file else p.file;
  pending = pending_by change done p.file p.pending;
  writes = under_way_by change done p.writes;
  last_synced = last_synced_by change done p.file p.last_synced;
}

-- a file of which nothing is pending
abbrev pub clean : Option (List ℕ) → Place
clean file = record { file = file; pending = nothing_pending (length (unwrap_or file [])); writes = []; last_synced = file }

-- nothing is pending of any file
abbrev pub IsClean : Told → Type 0
IsClean t = (name : List ℕ) → place_of t name ≡ clean (get (image_of t) name)

-- ---- moments

-- The calls up to the m-th, of which the last has not answered. For greater m, all calls.
abbrev pub calls_at : List Call → ℕ → List Call
calls_at [] m = []
calls_at (call ∷ calls) m = if nat_le m (length calls) then calls_at calls m else (if m == length calls + 1 then begun call ∷ calls else call ∷ calls)

-- what was told at a moment
abbrev pub at_moment : Told → ℕ → Told
at_moment t m = record { start = t.start; calls = calls_at t.calls m }
