-- A live record of a node in hand, as the files have it.
use Rattle.std.proofs.Common.{◌≡◌, ℕ, pos, ◌+◌, ◌≤◌, List, length, Option, Some, ◌∙◌, ap}
use Rattle.std.specs.Option.{option_map}
use Rattle.mm_base.specs.Bytes.{part}
use Rattle.mm_ranges.specs.Overlay.{Image, bytes_at}
use Rattle.mm_frames.specs.RecHeader.{rec_header_of}
use Rattle.mm_frames.specs.declared.rec_header.RecHeader.{RecHeader}
use Rattle.mm_frames.specs.declared.details.Details.{Details}
use Rattle.mm_links.specs.Links.{Place}
use Rattle.mm_extents.specs.Heap.{Cell, live}
use Rattle.mm_extents.specs.Tiling.{outline}
use Rattle.mm_records.specs.Shape.{Shape}
use Rattle.mm_records.specs.Map.{live_at, name_at}
use Rattle.mm_records.specs.InHand.{StandsWith}
use Rattle.mm_records.proofs.Owning.{Lives, lives}

module _ (image : Image) (free : List ℕ) (s : Shape) (node : ℕ) (d : Details) (st : StandsWith image free s node d) (p : Place) (room : List ℕ) (lv : live_at s (name_at image node) p ≡ Some room) where
  pub record_at : Lives s (name_at image node) p room
  record_at = lives s (name_at image node) p room lv

  pub record_inside : p.1 + (16 + length room) ≤ length (bytes_at image p.0)
  record_inside = st.heap.inside p (live record_at.h room) record_at.here

  pub record_len : record_at.h.length_with_headers ≡ pos (16 + length room)
  record_len = (st.tiled.blocks p.0 p.1 (16 + length room) record_at.h.extent_ofs record_at.h.length_with_headers (ap (λ (o : Option Cell). option_map outline o) record_at.here)).1.1.long

  pub head_len : (h : RecHeader) → h ≡ rec_header_of (part p.1 16 (bytes_at image p.0)) → h.length_with_headers ≡ pos (16 + length room)
  head_len h e = ap (λ (x : RecHeader). x.length_with_headers) (e ∙ (st.heap.shown p (live record_at.h room) record_at.here).0) ∙ record_len
