-- The root of an index, as a pair of details names it.
use Rattle.std.specs.Prelude.{◌≡◌, ◌≢◌, ℕ, pos, ◌<◌, ◌<ℤ◌, true, List, set, slice_index_or}
use Rattle.mm_base.specs.declared.place.DiskLoc.{DiskLoc}
use Rattle.mm_ranges.specs.Overlay.{Image, bytes_at}
use Rattle.mm_frames.specs.declared.details.Details.{Details}
use Rattle.mm_frames.specs.declared.index_pair.IndexPair.{IndexPair}
use Rattle.mm_nstable.specs.Nodes.{SameNames, node_at, details_in, is_used}
use Rattle.mm_records.specs.Constants.{no_pair}
use Rattle.mm_records.specs.Shape.{Shape}
use Rattle.mm_records.specs.Stands.{Stands, IsNode, ns_in}

abbrev pub pair_of : Details → ℕ → IndexPair
pair_of d position = slice_index_or d.indexes position no_pair

-- the root that the pair at a position of a node's details names
abbrev pub root_in : Image → ℕ → ℕ → DiskLoc
root_in image owner position = (pair_of (details_in (node_at (ns_in image) owner)) position).head

-- details in which a pair names another root
abbrev pub with_root : Details → ℕ → DiskLoc → Details
with_root d position root = record d { indexes = set d.indexes position (record (pair_of d position) { head = root }) }

-- The pair at a position of a node's details names this root; all other details and the data files stay. Where the files stood, and the position
-- is one that the details count, they stand, with the same shape.
pub record IsRootPut (old new : Image) (owner position : ℕ) (root : DiskLoc) : Type 0 where
  pub here : details_in (node_at (ns_in new) owner) ≡ with_root (details_in (node_at (ns_in old) owner)) position root
  pub others : (k : ℕ) → is_used (ns_in old) k ≡ true → k ≢ owner → details_in (node_at (ns_in new) k) ≡ details_in (node_at (ns_in old) k)
  pub names : SameNames (ns_in old) (ns_in new)
  pub files : (f : ℕ) → f < 8 → bytes_at new f ≡ bytes_at old f
  pub stands : (free : List ℕ) (s : Shape) → Stands old free s → IsNode old free owner → pos position <ℤ (details_in (node_at (ns_in old) owner)).n_indexes → Stands new free s
