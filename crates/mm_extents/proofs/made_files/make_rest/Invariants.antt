use Rattle.std.proofs.Common.{◌≡◌, ◌+◌, ◌-◌, ◌*◌, ◌<◌, ◌≤◌, ℕ, List, None}
use Rattle.mm_ranges.specs.Overlay.{bytes_at}
use Rattle.mm_ranges.specs.declared.limits.TheConstants.{NS_FILE}
use Rattle.mm_views.specs.State.{weight_in}
use Rattle.mm_frames.specs.declared.free_ends.FreeEnds.{FreeEnds}
use Rattle.mm_links.specs.Links.{Place}
use Rattle.mm_extents.specs.Heap.{Heap}
use Rattle.mm_extents.specs.Changes.{len_of}
use Rattle.mm_extents.specs.Files.{file_len}
use Rattle.mm_extents.specs.Rests.{IsLast}
use Rattle.mm_extents.specs.FreeExtents.{HasFree}
use Rattle.mm_extents.proofs.RoomFalls.{IsPassed}
use Rattle.mm_extents.proofs.made_files.make_rest.Given as goal

-- the files from the last one on are made, and none of them has as many bytes behind its header
abbrev pub invariant-loop-file : goal.invariant-loop-file
invariant-loop-file l = record {
  last : IsLast l.draft.image l.file;
  from : l.last ≤ l.file;
  stands : (db : List ℕ) (heap : Heap) (chain : List Place) (ends : FreeEnds) → HasFree l.fn.draft.image db heap chain ends → HasFree l.draft.image db heap chain ends;
  ns : bytes_at l.draft.image NS_FILE ≡ bytes_at l.fn.draft.image NS_FILE;
  shorter : (k : ℕ) → k ≤ l.file → len_of l.fn.draft.image k ≡ None → file_len k < 8192 + l.len;
  passed : (u : ℕ) × IsPassed l.fn.draft.image l.draft.image l.file u l.len;
  weight : weight_in l.draft.made l.draft.declared ≤ weight_in l.fn.draft.made l.fn.draft.declared + 48 * (l.file - l.last);
}
