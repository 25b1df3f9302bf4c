-- What a database is to its users (MongoDB 2.6: databases, collections, documents and indexes). It has no records, places, buckets or files.
use Rattle.std.specs.Prelude.{ℕ, ◌+◌, Bool, true, List, [], ◌∷◌, Option, Some, None, length, codes, sum_by, pos, filter}
use Rattle.std.specs.FinMap.{FinMap, values}
use Rattle.std.specs.Ordering.{nat_cmp, is_eq}
use Rattle.std.specs.Cmp.Lexicographic.{slice_cmp}
use Rattle.mm_bson.specs.Tree.{Tree, int32, Elements, no_elements, element}
use Rattle.mm_bson.specs.Path.{find}
use Rattle.mm_bson.specs.Order.{compare}
use Rattle.mm_keys.specs.Key.{or_null}
use Rattle.mm_query.specs.Selection.{selects}

-- an index of a collection: its name, the paths that it keys with their signs, and whether no two documents may have one key
pub record Index : Type 0 where
  pub name : List ℕ
  pub spec : Elements
  pub unique : Bool

-- a collection: its documents in rising order of _id, and its indexes by position
pub record Collection : Type 0 where
  pub documents : List Elements
  pub indexes : List Index

abbrev pub Database : Type 0
Database = FinMap (slice_cmp nat_cmp) Collection

abbrev pub id_name : List ℕ
id_name = codes "_id"

-- a document's _id
abbrev pub id_of : Elements → Tree
id_of d = or_null (find id_name d)

-- values that are equal by the order of values are one _id
abbrev pub has_id : Tree → Elements → Bool
has_id id d = is_eq (compare (id_of d) id)

-- the index that each collection has at position 0
abbrev pub id_index : Index
id_index = record { name = codes "_id_"; spec = element id_name (int32 (pos 1)) no_elements; unique = true }

-- a collection as it is made
abbrev pub new_collection : Collection
new_collection = record { documents = []; indexes = id_index ∷ [] }

abbrev pub or_new : Option Collection → Collection
or_new None = new_collection
or_new (Some c) = c

-- how many nodes of a `.ns` file the database takes: two that each has, one for each collection, and one for each index
abbrev pub nodes_in : Database → ℕ
nodes_in db = 2 + sum_by (λ c. 1 + length c.indexes) (values db)

-- the documents that match a filter, in their order
abbrev pub selected : Elements → List Elements → List Elements
selected f ds = filter (selects f) ds
