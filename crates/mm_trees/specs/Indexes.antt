-- An index: a tree of the buckets of its node, whose root a pair of its collection's details names.
use Rattle.std.specs.Prelude.{◌≡◌, ◌≢◌, ℕ, pos, ◌<◌, ◌<ℤ◌, true, false, List, None}
use Rattle.mm_base.specs.Places.{null}
use Rattle.mm_base.specs.declared.place.DiskLoc.{DiskLoc}
use Rattle.mm_bson.specs.Tree.{Elements}
use Rattle.mm_ranges.specs.Overlay.{Image}
use Rattle.mm_nstable.specs.Nodes.{SameNames, node_at, details_in, is_used}
use Rattle.mm_records.specs.Shape.{Shape}
use Rattle.mm_records.specs.Stands.{IsNode, ns_in}
use Rattle.mm_links.specs.Links.{Place}
use Rattle.mm_btree.specs.Nodes.{Item, Buckets}
use Rattle.mm_btree.specs.Lists.{has, Distinct}
use Rattle.mm_btree.specs.Trees.{Sub, Stands}
use Rattle.mm_btree.specs.Order.{item_lt}
use Rattle.mm_btree.specs.Changes.{IsTree, least_at}
use Rattle.mm_records.specs.Constants.{is_name, constants_of}
use Rattle.mm_records.specs.Map.{live_at, name_at}
use Rattle.mm_trees.specs.Roots.{root_in, with_root}
use Rattle.mm_trees.specs.Buckets.{Holds, Serves, bucket_in}

-- a tree of this height at a root, whatever the order of its pairs
pub record IsRooted (m : Buckets) (root : DiskLoc) (h : ℕ) (s : Sub) : Type 0 where
  pub here : s.at ≡ root
  pub stands : Stands m null (least_at h) h s
  pub apart : Distinct s.places

-- The index at a position of the node `owner` lists these pairs in order: the details count that position, the files hold
-- buckets for the index's node, they are a tree from the root that the pair names, and each of them is one of the tree.
pub record HasIndex (image : Image) (node owner position : ℕ) (spec : Elements) (pairs : List Item) : Type 0 where
  pub free : List ℕ
  pub shape : Shape
  pub holds : Holds image free shape node
  pub owner_is : IsNode image free owner
  pub inside : position < 10
  pub counted : pos position <ℤ (details_in (node_at (ns_in image) owner)).n_indexes
  pub height : ℕ
  pub s : Sub
  pub tree : IsTree (item_lt spec) (bucket_in image node) (root_in image owner position) height s
  pub listed : s.pairs ≡ pairs
  pub whole : (at : DiskLoc) → has at s.places ≡ false → bucket_in image node at ≡ None

-- What a change of an index leaves that asks for so many places: the records of all other namespaces, the names, all of details but what records, extents and
-- deleted lists change and the root that the index's pair names, and deleted blocks for what is asked for later.
pub record LeavesOthers (old new : Image) (s t : Shape) (node owner position places : ℕ) : Type 0 where
  pub others : (m : List ℕ) (q : Place) → is_name (name_at old node) m ≡ false → live_at t m q ≡ live_at s m q
  pub names : SameNames (ns_in old) (ns_in new)
  pub constants : (k : ℕ) → is_used (ns_in old) k ≡ true → k ≢ owner → constants_of (details_in (node_at (ns_in new) k)) ≡ constants_of (details_in (node_at (ns_in old) k))
  pub owner_constants : (root : DiskLoc) × (constants_of (details_in (node_at (ns_in new) owner)) ≡ constants_of (with_root (details_in (node_at (ns_in old) owner)) position root))
  pub serves : Serves s t (name_at old node) places

-- wherever the old files held buckets for the node, the new ones do, for which so many places were asked for
abbrev pub GoesBeside : Image → Image → ℕ → ℕ → ℕ → ℕ → Type 0
GoesBeside old new node owner position places = (free : List ℕ) (s : Shape) → Holds old free s node → IsNode old free owner → pos position <ℤ (details_in (node_at (ns_in old) owner)).n_indexes
    → (t : Shape) × (Holds new free t node × LeavesOthers old new s t node owner position places)

-- The details of the node `owner` count the position, and the index's node has no bucket yet.
pub record IsUnmade (image : Image) (node owner position : ℕ) : Type 0 where
  pub free : List ℕ
  pub shape : Shape
  pub holds : Holds image free shape node
  pub owner_is : IsNode image free owner
  pub inside : position < 10
  pub counted : pos position <ℤ (details_in (node_at (ns_in image) owner)).n_indexes
  pub none : (at : DiskLoc) → bucket_in image node at ≡ None
