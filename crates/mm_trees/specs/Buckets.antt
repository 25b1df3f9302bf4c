-- The buckets of a node: its records, the first 8192 bytes of whose rooms are the bytes of a bucket.
use Rattle.std.specs.Prelude.{◌≡◌, ℕ, ◌+◌, ◌*◌, ◌≤◌, true, false, if◌then◌else◌, List, length, Option, Some, None}
use Rattle.std.specs.Option.{option_map}
use Rattle.mm_base.specs.Bytes.{part}
use Rattle.mm_base.specs.declared.place.DiskLoc.{DiskLoc}
use Rattle.mm_ranges.specs.Overlay.{Image, bytes_at}
use Rattle.mm_frames.specs.BucketHeader.{bucket_header_of}
use Rattle.mm_frames.specs.declared.bucket_header.BucketHeader.{BucketHeader}
use Rattle.mm_links.specs.Links.{Place, has}
use Rattle.mm_nstable.specs.Nodes.{SameNames, node_at, details_in, is_used}
use Rattle.mm_records.specs.Constants.{is_name, constants_of}
use Rattle.mm_records.specs.Asking.{NoFit}
use Rattle.mm_records.specs.Shape.{Shape}
use Rattle.mm_records.specs.Stands.{Stands, IsNode, ns_in}
use Rattle.mm_records.specs.Map.{ofs_of, live_at, name_at}
use Rattle.mm_records.specs.Serving.{HasBlock}
use Rattle.mm_bucket.specs.Pairs.{Contents}
use Rattle.mm_bucket.specs.Layout.{Spells, pairs_in}
use Rattle.mm_bucket.specs.Rules.{children, AreAlike}
use Rattle.mm_btree.specs.Nodes.{Node, Buckets, node_of}
use Rattle.mm_trees.specs.Walked.{spot_in, walk_in}

abbrev pub contents_by : List ℕ → BucketHeader → Contents
contents_by bytes h = record { parent = h.parent; pairs = pairs_in bytes 40 (ofs_of h.n); next = h.next_child }

-- what bytes hold that are a bucket
unfoldable pub contents_in : List ℕ → Contents
contents_in bytes = contents_by bytes (bucket_header_of (part 0 40 bytes))

-- the first bytes of a room
abbrev pub bucket_bytes : Image → Place → List ℕ
bucket_bytes image p = part (p.1 + 16) 8192 (bytes_at image p.0)

abbrev pub bucket_there : Image → ℕ → Option Place → Option Node
bucket_there image node None = None
bucket_there image node (Some p) = if has (walk_in image node) p then Some (node_of (contents_in (bucket_bytes image p))) else None

-- the bucket at a place, read from the files alone
unfoldable pub bucket_in : Image → ℕ → Buckets
bucket_in image node at = bucket_there image node (spot_in at)

-- ---- the same of a shape

abbrev pub node_in : List ℕ → Node
node_in room = node_of (contents_in (part 0 8192 room))

-- the buckets of a map from places to rooms
abbrev pub shown_there : (Place → Option (List ℕ)) → Option Place → Option Node
shown_there rooms None = None
shown_there rooms (Some p) = option_map node_in (rooms p)

abbrev pub shown : Shape → List ℕ → Buckets
shown s name at = shown_there (live_at s name) (spot_in at)

-- The room of a bucket. It may be longer.
pub record IsRoom (room : List ℕ) : Type 0 where
  pub long : 8192 ≤ length room
  pub b : Contents
  pub spelled : Spells (part 0 8192 room) b
  pub alike : AreAlike (children b)

abbrev pub AreRooms : Shape → List ℕ → Type 0
AreRooms s name = (p : Place) (room : List ℕ) → live_at s name p ≡ Some room → IsRoom room

-- The files stand, and each record of the node is a bucket.
pub record Holds (image : Image) (free : List ℕ) (s : Shape) (node : ℕ) : Type 0 where
  pub stands : Stands image free s
  pub is_node : IsNode image free node
  pub rooms : AreRooms s (name_at image node)

-- The blocks of so many buckets are asked for: a deleted block of the namespace that has room for them and for a block besides leaves one that has room for that.
abbrev pub Serves : Shape → Shape → List ℕ → ℕ → Type 0
Serves s t name places = (k : ℕ) → 32 ≤ k → HasBlock s name (8208 * places + k) → HasBlock t name k

-- What a change of a node's buckets leaves that asks for so many places: the records of all other namespaces, the names, all of details but what records, extents
-- and deleted lists change, and deleted blocks for what is asked for later.
pub record Keeps (old new : Image) (s t : Shape) (node places : ℕ) : Type 0 where
  pub others : (m : List ℕ) (q : Place) → is_name (name_at old node) m ≡ false → live_at t m q ≡ live_at s m q
  pub names : SameNames (ns_in old) (ns_in new)
  pub constants : (k : ℕ) → is_used (ns_in old) k ≡ true → constants_of (details_in (node_at (ns_in new) k)) ≡ constants_of (details_in (node_at (ns_in old) k))
  pub serves : Serves s t (name_at old node) places

-- Wherever the old files held buckets, the new ones do, for which so many places were asked for.
abbrev pub Goes : Image → Image → ℕ → ℕ → Type 0
Goes old new node places = (free : List ℕ) (s : Shape) → Holds old free s node → (t : Shape) × (Holds new free t node × Keeps old new s t node places)

-- The buckets of a node have become these, and all else has stayed.
pub record IsStep (old new : Image) (node places : ℕ) (map : Buckets) : Type 0 where
  pub buckets : (at : DiskLoc) → bucket_in new node at ≡ map at
  pub goes : Goes old new node places

-- the old files held buckets, and the new ones do, too
pub record Reached (old new : Image) (node places : ℕ) : Type 0 where
  pub free : List ℕ
  pub s : Shape
  pub held : Holds old free s node
  pub goes : Goes old new node places

-- no block of the node has room for a bucket, and there is no room for an extent
abbrev pub IsFull : Image → Image → ℕ → Type 0
IsFull old new node = (free : List ℕ) (s : Shape) → Holds old free s node → (t : Shape) × (Stands new free t × NoFit new t free (name_at old node) 8208)

-- no deleted block of the node has room for so many buckets
abbrev pub IsScarce : Image → ℕ → ℕ → Type 0
IsScarce old node places = (free : List ℕ) (s : Shape) → Holds old free s node → HasBlock s (name_at old node) (8208 * places) → ⊥
