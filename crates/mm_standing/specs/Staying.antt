-- What stays where a change leaves a namespace: its records, and the pairs of indexes in a node's details.
use Rattle.std.specs.Prelude.{◌≡◌, ◌≢◌, ℕ, ◌<◌, true, ◌⊎◌, List, length}
use Rattle.mm_links.specs.Links.{Place}
use Rattle.mm_ranges.specs.Overlay.{Image}
use Rattle.mm_nstable.specs.Nodes.{SameNames, node_at, details_in, is_used}
use Rattle.mm_records.specs.Constants.{constants_of}
use Rattle.mm_records.specs.Shape.{Shape}
use Rattle.mm_records.specs.Stands.{Stands, ns_in}
use Rattle.mm_records.specs.Map.{live_at, name_at}
use Rattle.mm_trees.specs.Roots.{pair_of}
use Rattle.mm_model.specs.Database.{Collection}
use Rattle.mm_model.specs.Keyed.{namespace, full_name}
use Rattle.mm_check.specs.NodeQuestions.{indexes_name}
use Rattle.mm_standing.specs.Database.{index_at}

-- the records of a namespace stay
abbrev pub SameRecords : Shape → Shape → List ℕ → Type 0
SameRecords s t name = (p : Place) → live_at t name p ≡ live_at s name p

-- Files stand before and after a change, with the same name of free extents, and each node keeps its name.
pub record BothStand (old new : Image) (free : List ℕ) (s t : Shape) : Type 0 where
  pub before : Stands old free s
  pub after : Stands new free t
  pub names : SameNames (ns_in old) (ns_in new)

-- the details of a node keep the pair of an index, and how many indexes there are
pub record SamePair (old new : Image) (node position : ℕ) : Type 0 where
  pub pair : pair_of (details_in (node_at (ns_in new) node)) position ≡ pair_of (details_in (node_at (ns_in old) node)) position
  pub number : (details_in (node_at (ns_in new) node)).n_indexes ≡ (details_in (node_at (ns_in old) node)).n_indexes

-- the records of a collection stay, those of its indexes, and those of the namespace that has a record for each index
pub record SameCollection (d : List ℕ) (s t : Shape) (coll : List ℕ) (c : Collection) : Type 0 where
  pub documents : SameRecords s t (namespace d coll)
  pub indexes : (i : ℕ) → i < length c.indexes → SameRecords s t (full_name (namespace d coll) (index_at c i))
  pub listed : SameRecords s t (indexes_name d)

-- the namespace is that of the collection, or of an index of it
abbrev pub IsOf : List ℕ → List ℕ → Collection → List ℕ → Type 0
IsOf d coll c name = (name ≡ namespace d coll) ⊎ ((i : ℕ) × (i < length c.indexes) × (name ≡ full_name (namespace d coll) (index_at c i)))

-- All namespaces but those of one collection and of its indexes keep their records, also the one that has a record for each index; and all nodes but the collection's keep
-- what records, extents and deleted lists don't change of details.
pub record LeavesAllBut (d : List ℕ) (old new : Image) (s t : Shape) (coll : List ℕ) (c : Collection) : Type 0 where
  pub records : (name : List ℕ) → (IsOf d coll c name → ⊥) → SameRecords s t name
  pub listed : SameRecords s t (indexes_name d)
  pub constants : (k : ℕ) → is_used (ns_in old) k ≡ true → name_at old k ≢ namespace d coll
      → constants_of (details_in (node_at (ns_in new) k)) ≡ constants_of (details_in (node_at (ns_in old) k))
