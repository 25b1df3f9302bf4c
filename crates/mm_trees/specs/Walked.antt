-- The records of a node, read from the files alone: its extents are followed from its details, and the records of each from its header.
use Rattle.std.specs.Prelude.{ℕ, ℤ, zero, suc, pos, negsuc, List, [], ◌∷◌, Option, Some, None, flat_map}
use Rattle.mm_base.specs.Bytes.{part}
use Rattle.mm_base.specs.declared.place.DiskLoc.{DiskLoc}
use Rattle.mm_ranges.specs.Overlay.{Image, bytes_at}
use Rattle.mm_frames.specs.ExtentHeader.{extent_header_of}
use Rattle.mm_frames.specs.RecHeader.{rec_header_of}
use Rattle.mm_frames.specs.declared.extent_header.ExtentHeader.{ExtentHeader}
use Rattle.mm_frames.specs.declared.rec_header.RecHeader.{RecHeader}
use Rattle.mm_links.specs.Links.{Place}
use Rattle.mm_nstable.specs.Nodes.{node_at, details_in}
use Rattle.mm_records.specs.Stands.{ns_in}

-- a chain from a link on, as far as so many steps lead
abbrev pub follow : ℕ → (Place → Option Place) → Option Place → List Place
follow zero next o = []
follow (suc n) next None = []
follow (suc n) next (Some p) = p ∷ follow n next (next p)

-- more steps than a chain has places
unfoldable pub most_steps : ℕ
most_steps = 536870912

-- the place that a file's number and an offset name, where neither is negative
abbrev pub spot_of : ℤ → ℤ → Option Place
spot_of (pos file) (pos ofs) = Some (file, ofs)
spot_of (pos file) (negsuc n) = None
spot_of (negsuc n) ofs = None

abbrev pub spot_in : DiskLoc → Option Place
spot_in at = spot_of at.file at.ofs

-- the place in a file that an offset names
abbrev pub spot_inside : ℕ → ℤ → Option Place
spot_inside file (pos ofs) = Some (file, ofs)
spot_inside file (negsuc n) = None

abbrev pub header_at : Image → Place → ExtentHeader
header_at image e = extent_header_of (part e.1 176 (bytes_at image e.0))

abbrev pub head_at : Image → Place → RecHeader
head_at image p = rec_header_of (part p.1 16 (bytes_at image p.0))

abbrev pub next_extent : Image → Place → Option Place
next_extent image e = spot_in (header_at image e).xnext

abbrev pub next_record : Image → Place → Option Place
next_record image p = spot_inside p.0 (head_at image p).next_ofs

abbrev pub extents_in : Image → ℕ → List Place
extents_in image node = follow most_steps (next_extent image) (spot_in (details_in (node_at (ns_in image) node)).first_extent)

abbrev pub records_in : Image → Place → List Place
records_in image e = follow most_steps (next_record image) (spot_in (header_at image e).first_record)

-- all records of a node
unfoldable pub walk_in : Image → ℕ → List Place
walk_in image node = flat_map (records_in image) (extents_in image node)
