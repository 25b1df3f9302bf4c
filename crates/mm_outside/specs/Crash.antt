-- Words for what a run of calls does, and what a crash within it leaves.
use Rattle.std.specs.Prelude.{◌≡◌, ℕ, ◌<◌, ◌≤◌, List, [], length, Option, None, Some}
use Rattle.mm_bytes.specs.Files.{overwritten, resized}
use Rattle.mm_outside.specs.Image.{Image}
use Rattle.mm_outside.specs.Told.{Change, Told, Left, Creates, Writes, Resizes, Syncs, Removes}

-- Where the disk tells before the run, it tells after it, and P holds of both.
abbrev pub Runs : Option Told → Option Told → (Told → Told → Type 0) → Type 0
Runs old new P = (t : Told) → old ≡ Some t → (u : Told) × (new ≡ Some u) × P t u

-- A crash at any moment m since t leaves an image that has P m. The moments are those of the calls that began since, and now.
pub record LeavesOnly (P : ℕ → Image → Type 0) (t u : Told) : Type 0 where
  pub later : length t.calls ≤ length u.calls
  pub each : (m : ℕ) (image : Image) → length t.calls < m → Left u m image → P m image
  -- the moments before stay as they were
  pub before : (m : ℕ) (image : Image) → m ≤ length t.calls → Left u m image → Left t m image

-- what a changing call that is done makes of its file
abbrev pub file_after : Change → Option (List ℕ) → Option (List ℕ)
file_after Creates None = Some []
file_after Creates (Some old) = Some old
file_after (Writes at bytes) None = None
file_after (Writes at bytes) (Some old) = Some (overwritten at bytes old)
file_after (Resizes len) None = None
file_after (Resizes len) (Some old) = Some (resized len old)
file_after Syncs file = file
file_after Removes file = None
