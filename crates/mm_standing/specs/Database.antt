-- When the files of a database stand for it (MongoDB 2.6, MMAPv1).
use Rattle.std.specs.Prelude.{◌≡◌, ℕ, pos, true, ◌<◌, ◌⊎◌, List, length, slice_index_or, Some}
use Rattle.std.specs.List.{AllByRecursion}
use Rattle.std.specs.FinMap.{get, empty}
use Rattle.mm_links.specs.Links.{Place}
use Rattle.mm_ranges.specs.Overlay.{Image}
use Rattle.mm_extents.specs.Changes.{loc}
use Rattle.mm_nstable.specs.Nodes.{node_at, details_in, is_used}
use Rattle.mm_records.specs.Shape.{Shape}
use Rattle.mm_records.specs.Stands.{ns_in}
use Rattle.mm_records.specs.Map.{live_at, name_at}
use Rattle.mm_trees.specs.Roots.{pair_of}
use Rattle.mm_model.specs.Database.{Index, Collection, Database, id_index}
use Rattle.mm_model.specs.Keyed.{namespace, full_name}
use Rattle.mm_model.specs.Laws.{IsDatabase}
use Rattle.mm_model.specs.WellFormed.{begins_with_id}
use Rattle.mm_check.specs.NodeQuestions.{free_name, indexes_name}
use Rattle.mm_check.specs.Standing.{HasShape}
use Rattle.mm_check.specs.Reports.{no_file}
use Rattle.mm_standing.specs.Documents.{Laid, Holds, documents}
use Rattle.mm_standing.specs.Indexes.{IsNodeOf, HasIndexAt}

abbrev pub index_at : Collection → ℕ → Index
index_at c i = slice_index_or c.indexes i id_index

-- The node of a collection has its documents, and each of its indexes lists them.
pub record HasCollection (d : List ℕ) (image : Image) (s : Shape) (coll : List ℕ) (c : Collection) : Type 0 where
  pub node : ℕ
  pub is_node : IsNodeOf image node (namespace d coll)
  pub laid : List Laid
  pub holds : Holds s (namespace d coll) laid
  pub documents : documents laid ≡ c.documents
  pub id_first : AllByRecursion (λ document. begins_with_id document ≡ true) c.documents
  pub count : (details_in (node_at (ns_in image) node)).n_indexes ≡ pos (length c.indexes)
  pub indexes : (i : ℕ) → i < length c.indexes → HasIndexAt image s (indexes_name d) (namespace d coll) node i (index_at c i) laid

-- the name of a node belongs to the database: the two of its own, one for each collection, one for each index
abbrev pub IsNodeName : List ℕ → Database → List ℕ → Type 0
IsNodeName d db name = (name ≡ free_name d) ⊎ ((name ≡ indexes_name d) ⊎ ((coll : List ℕ) × (c : Collection) × (get db coll ≡ Some c)
    × ((name ≡ namespace d coll) ⊎ ((i : ℕ) × (i < length c.indexes) × (name ≡ full_name (namespace d coll) (index_at c i))))))

-- a collection's pair names the record there
abbrev pub IsNamedBy : List ℕ → Database → Image → Place → Type 0
IsNamedBy d db image p = (coll : List ℕ) × (c : Collection) × (node : ℕ) × (i : ℕ) × (get db coll ≡ Some c) × IsNodeOf image node (namespace d coll) × (i < length c.indexes)
    × ((pair_of (details_in (node_at (ns_in image) node)) i).info ≡ loc p)

-- The files of the database d have this database.
pub record HasDatabase (d : List ℕ) (image : Image) (db : Database) : Type 0 where
  pub shape : Shape
  pub points : HasShape d image shape
  pub is_database : IsDatabase db
  pub collections : (coll : List ℕ) (c : Collection) → get db coll ≡ Some c → HasCollection d image shape coll c
  pub nodes : (k : ℕ) → is_used (ns_in image) k ≡ true → IsNodeName d db (name_at image k)
  pub records : (p : Place) (room : List ℕ) → live_at shape (indexes_name d) p ≡ Some room → IsNamedBy d db image p

-- no file is there, and no collection; or the files have the database
abbrev pub Stands : Image → List ℕ → Database → Type 0
Stands image d db = ((no_file image ≡ true) × (db ≡ empty)) ⊎ HasDatabase d image db
