-- The shape that the walks find.
use Rattle.std.specs.Prelude.{ℕ, ◌+◌, ◌-◌, if◌then◌else◌, List, [], ◌∷◌, Some, None}
use Rattle.mm_base.specs.Bytes.{part}
use Rattle.mm_ranges.specs.Overlay.{Image, bytes_at}
use Rattle.mm_links.specs.Links.{Place, same, has}
use Rattle.mm_extents.specs.Heap.{Heap, extent, live, deleted}
use Rattle.mm_records.specs.Constants.{is_name}
use Rattle.mm_check.specs.RecordChain.{rec_at}
use Rattle.mm_check.specs.ExtentChain.{ext_at}
use Rattle.mm_check.specs.ListChain.{del_at}
use Rattle.mm_check.specs.BlockQuestions.{block_len}
use Rattle.mm_check.specs.Findings.{Owner, name_of}

-- the list that stands beside a place, of as many as there are places
abbrev pub beside : List Place → List (List Place) → Place → List Place
beside [] pss e = []
beside (x ∷ xs) [] e = []
beside (x ∷ xs) (ps ∷ pss) e = if same x e then ps else beside xs pss e

-- the bytes behind a block's header, as long as it says
abbrev pub room_at : Image → Place → List ℕ
room_at image p = part (p.1 + 16) (block_len image p - 16) (bytes_at image p.0)

-- what stands at a place, where these are the extents, the live records and the deleted blocks
abbrev pub found_heap : Image → List Place → List Place → List Place → Heap
found_heap image all records blocks p =
    if has all p then Some (extent (ext_at image p))
    else (if has records p then Some (live (rec_at image p) (room_at image p))
    else (if has blocks p then Some (deleted (del_at image p) (room_at image p)) else None))

-- the extents of the node with a name
abbrev pub chain_named : Image → List Owner → List ℕ → List Place
chain_named image [] name = []
chain_named image (o ∷ os) name = if is_name (name_of image o.node) name then o.extents else chain_named image os name
