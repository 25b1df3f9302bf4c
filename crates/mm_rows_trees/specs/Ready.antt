-- What holds of a draft between two calls of a test.
use Rattle.std.specs.Prelude.{◌≡◌, ℕ, pos, true, List}
use Rattle.mm_bson.specs.Tree.{Elements}
use Rattle.mm_ranges.specs.Overlay.{Image}
use Rattle.mm_nstable.specs.Nodes.{SameNames, is_used, details_in, node_at}
use Rattle.mm_nstable.specs.FreeChain.{IsFreeName}
use Rattle.mm_records.specs.Shape.{Shape}
use Rattle.mm_records.specs.Stands.{Stands, IsNode, ns_in}
use Rattle.mm_records.specs.Map.{name_at}
use Rattle.mm_namespaces.specs.Fresh.{IsNew}
use Rattle.mm_btree.specs.Nodes.{Item}
use Rattle.mm_trees.specs.Indexes.{HasIndex}

-- the files stand, and nothing stands in the data files
abbrev pub IsBare : Image → Type 0
IsBare image = (free : List ℕ) × IsNew image free

-- the node is used, and its name isn't one of a chain of free extents
pub record IsOfRecords (image : Image) (node : ℕ) : Type 0 where
  pub used : is_used (ns_in image) node ≡ true
  pub named : IsFreeName (name_at image node) → ⊥

-- and has this name
pub record IsNodeOf (image : Image) (node : ℕ) (name : List ℕ) : Type 0 where
  pub of_records : IsOfRecords image node
  pub is : name_at image node ≡ name

-- the details of a node count one index, and the files stand as they did
pub record IsCounted (old new : Image) (owner : ℕ) : Type 0 where
  pub one : (details_in (node_at (ns_in new) owner)).n_indexes ≡ pos 1
  pub names : SameNames (ns_in old) (ns_in new)
  pub stands : (free : List ℕ) (s : Shape) → Stands old free s → IsNode old free owner → Stands new free s

-- an index may be made at the first position of the collection's node
pub record AreReady (image : Image) (node owner : ℕ) : Type 0 where
  pub bare : IsBare image
  pub index : IsOfRecords image node
  pub collection : IsOfRecords image owner
  pub one : (details_in (node_at (ns_in image) owner)).n_indexes ≡ pos 1

-- the index lists some pairs
abbrev pub HasSome : Image → ℕ → ℕ → ℕ → Elements → Type 0
HasSome image node owner position spec = (pairs : List Item) × HasIndex image node owner position spec pairs
