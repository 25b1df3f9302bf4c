-- The namespaces of a database in its files: points 1 and 3 to 5 of what stands (MongoDB 2.6, MMAPv1).
use Rattle.std.specs.Prelude.{◌≡◌, ◌≢◌, ℕ, ℤ, pos, ◌+◌, ◌<◌, true, List, length, sum_by, Option, Some, None, slice_index_or, flat_map}
use Rattle.std.specs.FinMap.{get}
use Rattle.mm_base.specs.Places.{null}
use Rattle.mm_ranges.specs.declared.limits.TheConstants.{NS_FILE}
use Rattle.mm_ranges.specs.Overlay.{Image, bytes_at}
use Rattle.mm_frames.specs.Texts.{text_in}
use Rattle.mm_frames.specs.declared.extent_header.ExtentHeader.{ExtentHeader}
use Rattle.mm_frames.specs.declared.rec_header.RecHeader.{RecHeader}
use Rattle.mm_frames.specs.declared.deleted_header.DeletedHeader.{DeletedHeader}
use Rattle.mm_frames.specs.declared.details.Details.{Details}
use Rattle.mm_nstable.specs.Nodes.{name_in, node_at, is_used, IsTable}
use Rattle.mm_nstable.specs.Table.{Held, table_of}
use Rattle.mm_nstable.specs.FreeChain.{HasFreeChain}
use Rattle.mm_links.specs.Links.{Place, has, once, first_of, last_of, next_in, IsLinked}
use Rattle.mm_extents.specs.Heap.{Cell, extent, live, deleted, Heap, IsHeap}
use Rattle.mm_extents.specs.Changes.{loc_or, ofs_or}
use Rattle.mm_extents.specs.Files.{FilesStand, unused_in}
use Rattle.mm_extents.specs.Tiling.{ground, IsTiled}
use Rattle.mm_extents.specs.Chains.{ExtentsStand}
use Rattle.mm_records.specs.Shape.{Shape, list_for, rec_next, rec_prev}
use Rattle.mm_records.specs.Constants.{HasConstants}

-- ---- live records

-- a live record of the extent at e
pub record IsRecord (heap : Heap) (e p : Place) : Type 0 where
  pub h : RecHeader
  pub room : List ℕ
  pub there : heap p ≡ Some (live h room)
  pub file : p.0 ≡ e.0
  pub of_extent : h.extent_ofs ≡ pos e.1

-- the ends of a chain that an extent's header names
pub record NamesEnds (h : ExtentHeader) (xs : List Place) : Type 0 where
  pub first : h.first_record ≡ loc_or (first_of xs)
  pub last : h.last_record ≡ loc_or (last_of xs)

-- Each live record is once on the chain of its extent, and a chain holds nothing else. The extents of a namespace name the ends of their chains; what free extents name is any.
pub record RecordsStand (free : List ℕ) (s : Shape) : Type 0 where
  pub linked : (e : Place) → IsLinked ofs_or (s.records e) (λ p. rec_next (s.heap p)) (λ p. rec_prev (s.heap p))
  pub on_chain : (e p : Place) → has (s.records e) p ≡ true → IsRecord s.heap e p
  pub all : (p : Place) (h : RecHeader) (room : List ℕ) (a : ℕ) → s.heap p ≡ Some (live h room) → h.extent_ofs ≡ pos a → has (s.records (p.0, a)) p ≡ true
  pub ends : (e : Place) (h : ExtentHeader) → s.heap e ≡ Some (extent h) → text_in h.namespace ≢ free → NamesEnds h (s.records e)

-- ---- deleted blocks

-- a deleted block of the namespace, which belongs into list i and names the next
pub record IsDeleted (heap : Heap) (name : List ℕ) (i : ℕ) (next : Option Place) (p : Place) : Type 0 where
  pub h : DeletedHeader
  pub rest : List ℕ
  pub there : heap p ≡ Some (deleted h rest)
  pub names_next : h.next_deleted ≡ loc_or next
  pub right_list : list_for (16 + length rest) ≡ i
  pub of_extent : (a : ℕ) × (hh : ExtentHeader) × (h.extent_ofs ≡ pos a) × (heap (p.0, a) ≡ Some (extent hh)) × (text_in hh.namespace ≡ name)

-- Each deleted block is once on the list that its length names, and a list holds nothing else.
pub record ListsStand (s : Shape) : Type 0 where
  pub no_twice : (name : List ℕ) (i : ℕ) → once (s.lists name i) ≡ true
  pub on_list : (name : List ℕ) (i : ℕ) (p : Place) → has (s.lists name i) p ≡ true → IsDeleted s.heap name i (next_in (s.lists name i) p) p
  pub all : (p : Place) (h : DeletedHeader) (rest : List ℕ) (a : ℕ) (hh : ExtentHeader) → s.heap p ≡ Some (deleted h rest) → h.extent_ofs ≡ pos a → s.heap (p.0, a) ≡ Some (extent hh)
      → has (s.lists (text_in hh.namespace) (list_for (16 + length rest))) p ≡ true

-- ---- details

-- the live records of a namespace, extent by extent
abbrev pub walk : Shape → List ℕ → List Place
walk s name = flat_map s.records (s.extents name)

-- what a record counts in datasize
abbrev pub room_of : Option Cell → ℕ
room_of None = 0
room_of (Some (extent h)) = 0
room_of (Some (live h room)) = length room
room_of (Some (deleted h rest)) = 0

-- the heads of the lists are right
abbrev pub NamesHeads : Shape → List ℕ → Details → Type 0
NamesHeads s name d = (i : ℕ) → i < 19 → slice_index_or d.deleted i null ≡ loc_or (first_of (s.lists name i))

abbrev pub ext_len : Option Cell → ℤ
ext_len None = pos 0
ext_len (Some (extent h)) = h.len
ext_len (Some (live h room)) = pos 0
ext_len (Some (deleted h rest)) = pos 0

-- how long the extent at a place is; 0 for none
abbrev pub len_at : Heap → Option Place → ℤ
len_at heap None = pos 0
len_at heap (Some p) = ext_len (heap p)

-- the ends, the heads, the counts and the constant fields of a namespace are right
pub record DetailsStand (s : Shape) (name : List ℕ) (d : Details) : Type 0 where
  pub first : d.first_extent ≡ loc_or (first_of (s.extents name))
  pub last : d.last_extent ≡ loc_or (last_of (s.extents name))
  pub heads : NamesHeads s name d
  pub nrecords : d.nrecords ≡ pos (length (walk s name))
  pub datasize : d.datasize ≡ pos (sum_by (λ p. room_of (s.heap p)) (walk s name))
  pub last_size : d.last_extent_size ≡ len_at s.heap (last_of (s.extents name))
  pub constants : HasConstants name d

-- Under its name, which no other has in that form, the node of the free chain names the chain's ends.
pub record FreeStands (image : Image) (free : List ℕ) (s : Shape) (held : Held) : Type 0 where
  pub node : HasFreeChain (bytes_at image NS_FILE) free held
  pub first : held.details.first_extent ≡ loc_or (first_of (s.extents free))
  pub last : held.details.last_extent ≡ loc_or (last_of (s.extents free))

-- the bytes of the `.ns` file
abbrev pub ns_in : Image → List ℕ
ns_in image = bytes_at image NS_FILE

-- a node has the name
abbrev pub HasNode : Image → List ℕ → Type 0
HasNode image name = (held : Held) × (get (table_of (ns_in image)) name ≡ Some held)

-- Points 1 and 3 to 5 hold of the files, which have this shape. `free` is the name of the node of the free chain, which points 4 and 5 leave out.
pub record Stands (image : Image) (free : List ℕ) (s : Shape) : Type 0 where
  pub files : FilesStand image
  pub table : IsTable (ns_in image)
  pub heap : IsHeap image s.heap
  pub tiled : IsTiled (ground s.heap) (unused_in image) free
  pub extents : ExtentsStand s.heap s.extents
  pub owners : (p : Place) (h : ExtentHeader) → s.heap p ≡ Some (extent h) → HasNode image (text_in h.namespace)
  pub records : RecordsStand free s
  pub lists : ListsStand s
  pub counts : (name : List ℕ) (held : Held) → get (table_of (ns_in image)) name ≡ Some held → name ≢ free → DetailsStand s name held.details
  pub free_chain : (held : Held) × FreeStands image free s held

-- the node is used, and isn't that of the free chain
pub record IsNode (image : Image) (free : List ℕ) (node : ℕ) : Type 0 where
  pub used : is_used (ns_in image) node ≡ true
  pub isnt_free : name_in (node_at (ns_in image) node) ≢ free

-- a live record of the namespace of a node
pub record IsOwn (image : Image) (free : List ℕ) (s : Shape) (node : ℕ) (p : Place) : Type 0 where
  pub stands : Stands image free s
  pub used : is_used (ns_in image) node ≡ true
  pub isnt_free : name_in (node_at (ns_in image) node) ≢ free
  pub h : RecHeader
  pub room : List ℕ
  pub a : ℕ
  pub hh : ExtentHeader
  pub here : s.heap p ≡ Some (live h room)
  pub ext : h.extent_ofs ≡ pos a
  pub there : s.heap (p.0, a) ≡ Some (extent hh)
  pub named : text_in hh.namespace ≡ name_in (node_at (ns_in image) node)
