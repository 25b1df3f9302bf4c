-- The indexes of a collection in its files (MongoDB 2.6, MMAPv1): each has a node of its own, a record in the namespace `system.indexes`, and a pair in the
-- details of its collection, which names that record and the root of its tree.
use Rattle.std.specs.Prelude.{◌≡◌, ℕ, pos, true, if◌then◌else◌, ◌&&◌, not, List, [], ◌∷◌, codes}
use Rattle.std.specs.Str.{bytes_eq}
use Rattle.mm_bson.specs.Tree.{int32, string, boolean, document, Elements, no_elements, element}
use Rattle.mm_bson.specs.Spelling.{spelling}
use Rattle.mm_keys.specs.Key.{key}
use Rattle.mm_keys.specs.Specification.{IsSpecification}
use Rattle.mm_links.specs.Links.{Place}
use Rattle.mm_ranges.specs.Overlay.{Image}
use Rattle.mm_extents.specs.Changes.{loc}
use Rattle.mm_nstable.specs.Nodes.{node_at, details_in, is_used}
use Rattle.mm_records.specs.Shape.{Shape}
use Rattle.mm_records.specs.Stands.{ns_in}
use Rattle.mm_records.specs.Map.{name_at}
use Rattle.mm_btree.specs.Nodes.{Item}
use Rattle.mm_btree.specs.Lists.{ins}
use Rattle.mm_btree.specs.Order.{item_lt}
use Rattle.mm_trees.specs.Roots.{pair_of}
use Rattle.mm_trees.specs.Indexes.{HasIndex}
use Rattle.mm_model.specs.Database.{Index, id_index}
use Rattle.mm_model.specs.Keyed.{full_name}
use Rattle.mm_standing.specs.Documents.{Laid, IsLaid}

-- ---- the record of an index

abbrev pub says_unique : Index → Elements → Elements
says_unique index behind = if index.unique && not (bytes_eq index.name id_index.name) then element (codes "unique") (boolean true) behind else behind

-- {"v": 0, "key": SPECIFICATION, "unique": true, "ns": "d.C", "name": "I"}, without `unique` where it isn't, and for `_id_`
abbrev pub record_of : List ℕ → Index → Elements
record_of ns index =
    element (codes "v") (int32 (pos 0))
    (element (codes "key") (document index.spec)
    (says_unique index
    (element (codes "ns") (string ns)
    (element (codes "name") (string index.name) no_elements))))

-- ---- the pairs of an index

-- the key of a document, and its place
abbrev pub item_of : Elements → Laid → Item
item_of spec l = record { key = spelling (key l.document spec); rec = loc l.at }

-- one pair for each document, in the order of the index
abbrev pub items : Elements → List Laid → List Item
items spec [] = []
items spec (l ∷ ls) = ins (item_lt spec) (item_of spec l) (items spec ls)

-- ---- an index at its position

-- a used node has the name
pub record IsNodeOf (image : Image) (node : ℕ) (name : List ℕ) : Type 0 where
  pub used : is_used (ns_in image) node ≡ true
  pub named : name_at image node ≡ name

-- The pair at a position of the node `owner` names the record of the index, and its tree lists the documents. `indexes` is the name of the namespace of
-- these records, `ns` that of the collection.
pub record HasIndexAt (image : Image) (s : Shape) (indexes ns : List ℕ) (owner position : ℕ) (index : Index) (ls : List Laid) : Type 0 where
  pub specified : IsSpecification index.spec
  pub node : ℕ
  pub is_node : IsNodeOf image node (full_name ns index)
  pub at : Place
  pub recorded : IsLaid s indexes (record { at = at; document = record_of ns index })
  pub info : (pair_of (details_in (node_at (ns_in image) owner)) position).info ≡ loc at
  pub lists : HasIndex image node owner position index.spec (items index.spec ls)
