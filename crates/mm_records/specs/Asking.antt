-- How many bytes are asked for: a block of a record, and an extent of a namespace (MongoDB 2.6, MMAPv1).
use Rattle.std.specs.Prelude.{◌≡◌, ℕ, ◌+◌, ◌*◌, ◌/◌, ◌^◌, ◌<◌, ◌≤◌, min, max, List, Option, Some, None}
use Rattle.mm_ranges.specs.Overlay.{Image}
use Rattle.mm_links.specs.Links.{Place, last_of}
use Rattle.mm_extents.specs.Heap.{Heap}
use Rattle.mm_extents.specs.FreeExtents.{NoExtent}
use Rattle.mm_records.specs.declared.asking.Request.{Request}
use Rattle.mm_records.specs.declared.asking.Request.TheVariants.{Record, Bucket}
use Rattle.mm_records.specs.Shape.{Shape}
use Rattle.mm_records.specs.Stands.{len_at}
use Rattle.mm_records.specs.Map.{ofs_of}
use Rattle.mm_records.specs.Searching.{NoBlock}

-- r is the least power of two that is at least n and at least 32
pub record IsPower (n r : ℕ) : Type 0 where
  pub i : ℕ
  pub is : r ≡ 2 ^ i
  pub some : 32 ≤ r
  pub enough : n ≤ r
  pub least : (j : ℕ) → 32 ≤ 2 ^ j → n ≤ 2 ^ j → r ≤ 2 ^ j

-- r is n, rounded up to a multiple of 1,048,576
pub record IsWhole (n r : ℕ) : Type 0 where
  pub k : ℕ
  pub is : r ≡ 1048576 * k
  pub enough : n ≤ r
  pub least : r < n + 1048576

-- Of a payload of p bytes this many are asked for: with its header the power of two up to 4,194,304, and whole MiB above; for a bucket always 8208.
abbrev pub IsAsked : Request → ℕ → ℕ → Type 0
IsAsked Record p r = (p + 16 ≤ 4194304 → IsPower (p + 16) r) × (4194304 < p + 16 → IsWhole (p + 16) r)
IsAsked Bucket p r = r ≡ 8208

-- the least length of a namespace's next extent: by its last one
abbrev pub base_at : Heap → Option Place → ℕ
base_at heap None = 16384
base_at heap (Some p) = min (2 * ofs_of (len_at heap (Some p))) 8388608

-- how long the next extent is asked to be, for a block of r bytes
abbrev pub extent_len : Shape → List ℕ → ℕ → ℕ
extent_len s name r = 4096 * ((max (base_at s.heap (last_of (s.extents name))) (r + 176) + 4095) / 4096)

-- No deleted block of the namespace has r bytes, no free extent as many as the next extent of the namespace asks for, nor the unused rest of the last file, nor a file that isn't there yet.
pub record NoFit (image : Image) (s : Shape) (free name : List ℕ) (r : ℕ) : Type 0 where
  pub no_block : NoBlock s name r
  pub no_extent : NoExtent image s.heap (s.extents free) (extent_len s name r)
