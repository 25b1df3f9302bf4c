-- What the calls leave of a draft.
use Rattle.std.specs.Prelude.{ℕ, ◌++◌, false, List, length}
use Rattle.mm_base.specs.Bytes.{padded}
use Rattle.mm_base.specs.declared.name.TheConstants.{NAME_FIELD_LEN}
use Rattle.mm_ranges.specs.Limits.{ns_file}
use Rattle.mm_ranges.specs.Places.{inserted}
use Rattle.mm_ranges.specs.Overlay.{bytes_at, laid}
use Rattle.mm_views.specs.State.{Drafting}
use Rattle.mm_frames.specs.NodeHead.{node_head_bytes}
use Rattle.mm_frames.specs.Details.{details_bytes}
use Rattle.mm_frames.specs.declared.details.Details.{Details}
use Rattle.mm_nstable.specs.Hash.{hash_of}

-- the bytes of the draft's `.ns` file
abbrev pub ns_of : Drafting → List ℕ
ns_of draft = bytes_at draft.image ns_file

-- Bytes at a place of `.ns`, declared and written: nothing else of the draft changes.
abbrev pub written_at : ℕ → List ℕ → Drafting → Drafting
written_at at bytes draft = record draft { image = laid ns_file at bytes draft.image; declared = inserted (ns_file, at, length bytes) draft.declared; is_reserved = false }

-- the bytes of a used node
abbrev pub node_bytes : List ℕ → Details → List ℕ
node_bytes name details = node_head_bytes (record { hash = hash_of name; name = padded NAME_FIELD_LEN name }) ++ details_bytes details
