-- A namespace's records as a map from places to payloads.
use Rattle.std.specs.Prelude.{◌≡◌, ℕ, ℤ, false, pos, negsuc, ◌&&◌, ◌==◌, if◌then◌else◌, List, [], ◌∷◌, Option, Some, None}
use Rattle.std.specs.Option.{option_map}
use Rattle.mm_base.specs.declared.place.DiskLoc.{DiskLoc}
use Rattle.mm_ranges.specs.Overlay.{Image}
use Rattle.mm_nstable.specs.Nodes.{name_in, node_at}
use Rattle.mm_links.specs.Links.{Place, same, without}
use Rattle.mm_extents.specs.Heap.{Cell, extent, live, deleted}
use Rattle.mm_frames.specs.Texts.{text_in}
use Rattle.mm_records.specs.Constants.{is_name}
use Rattle.mm_extents.specs.Changes.{loc}
use Rattle.mm_extents.specs.Tiling.{ground}
use Rattle.mm_records.specs.Shape.{Shape, list_for}
use Rattle.mm_records.specs.Stands.{Stands, IsNode, ns_in}

abbrev pub ofs_of : ℤ → ℕ
ofs_of (pos n) = n
ofs_of (negsuc n) = 0

-- where the extent of a live record begins
abbrev pub extent_of : Place → Option Cell → Place
extent_of p None = p
extent_of p (Some (extent h)) = p
extent_of p (Some (live h room)) = (p.0, ofs_of h.extent_ofs)
extent_of p (Some (deleted h rest)) = p

-- the name that an extent has
abbrev pub owner : Option Cell → List ℕ
owner None = []
owner (Some (extent h)) = text_in h.namespace
owner (Some (live h room)) = []
owner (Some (deleted h rest)) = []

abbrev pub live_room : Option Cell → Option (List ℕ)
live_room None = None
live_room (Some (extent h)) = None
live_room (Some (live h room)) = Some room
live_room (Some (deleted h rest)) = None

-- the map: the room of a live record of the namespace
abbrev pub live_at : Shape → List ℕ → Place → Option (List ℕ)
live_at s name p = if is_name (owner (s.heap (extent_of p (s.heap p)))) name then live_room (s.heap p) else None

-- the name that a node has
abbrev pub name_at : Image → ℕ → List ℕ
name_at image node = name_in (node_at (ns_in image) node)

-- The files stand, and the namespace of a node has a live record with this room at a place, which a frame names so.
pub record HasRecord (image : Image) (free : List ℕ) (s : Shape) (node : ℕ) (p : Place) (at : DiskLoc) (room : List ℕ) : Type 0 where
  pub stands : Stands image free s
  pub is_node : IsNode image free node
  pub named : at ≡ loc p
  pub live : live_at s (name_at image node) p ≡ Some room

-- Every extent and every block, live or deleted, stays where it is, with its length.
abbrev pub SameLayout : Shape → Shape → Type 0
SameLayout s t = (q : Place) → ground t.heap q ≡ ground s.heap q

-- One place is taken out of the maps of all namespaces, and every other stays.
pub record IsTakenOut (s t : Shape) (p : Place) : Type 0 where
  pub gone : (m : List ℕ) → live_at t m p ≡ None
  pub others : (m : List ℕ) (q : Place) → same p q ≡ false → live_at t m q ≡ live_at s m q

-- A record of this length with its header is freed: it is taken out of the map and of its extent's chain, and heads the list of its length.
pub record IsFreed (s t : Shape) (name : List ℕ) (p : Place) (len : ℕ) : Type 0 where
  pub map : IsTakenOut s t p
  pub extents : (m : List ℕ) → t.extents m ≡ s.extents m
  pub records : (e : Place) → t.records e ≡ without p (s.records e)
  pub lists : (m : List ℕ) (i : ℕ) → t.lists m i ≡ (if is_name m name && i == list_for len then p ∷ s.lists m i else s.lists m i)
  pub layout : SameLayout s t

-- A record has another room, and every other of all namespaces stays; no chain and no list changes.
pub record IsRewritten (s t : Shape) (p : Place) (room : List ℕ) : Type 0 where
  pub here : (m : List ℕ) → live_at t m p ≡ option_map (λ _. room) (live_at s m p)
  pub others : (m : List ℕ) (q : Place) → same p q ≡ false → live_at t m q ≡ live_at s m q
  pub extents : (m : List ℕ) → t.extents m ≡ s.extents m
  pub records : (e : Place) → t.records e ≡ s.records e
  pub lists : (m : List ℕ) (i : ℕ) → t.lists m i ≡ s.lists m i
  pub layout : SameLayout s t
