-- The pairs of the index `_id_` are the documents in their order, so a walk over its tree is the scan of the collection.
use Rattle.std.specs.Prelude.{◌≡◌, ℕ, List, map}
use Rattle.std.specs.declared.cmp.Ordering.TheVariants.{Less}
use Rattle.std.specs.List.{AllByRecursion}
use Rattle.mm_bson.specs.Spelling.{IsDocument}
use Rattle.mm_bson.specs.Order.{compare}
use Rattle.mm_ranges.specs.Overlay.{Image}
use Rattle.mm_extents.specs.Changes.{loc}
use Rattle.mm_records.specs.Shape.{Shape}
use Rattle.mm_btree.specs.Listed.{rec_of}
use Rattle.mm_btree.specs.Order.{item_compare}
use Rattle.mm_trees.specs.Indexes.{HasIndex}
use Rattle.mm_model.specs.Database.{Collection, id_of, id_index}
use Rattle.mm_model.specs.Keyed.{namespace}
use Rattle.mm_model.specs.Laws.{AreRising, IsCollection}
use Rattle.mm_check.specs.NodeQuestions.{indexes_name}
use Rattle.mm_standing.specs.Documents.{Laid, places, documents}
use Rattle.mm_standing.specs.Indexes.{item_of, items, HasIndexAt}
use Rattle.mm_standing.specs.Database.{HasCollection}

abbrev pub AreDocuments : List Laid → Type 0
AreDocuments ls = AllByRecursion (λ l. IsDocument l.document) ls

-- Of two documents the one with the lesser _id has the lesser pair, wherever their records lie.
abbrev pub IdsOrderPairs : Type 0
IdsOrderPairs = (l m : Laid) → IsDocument l.document → IsDocument m.document → compare (id_of l.document) (id_of m.document) ≡ Less
    → item_compare id_index.spec (item_of id_index.spec l) (item_of id_index.spec m) ≡ Less

-- So the pairs of documents in rising order of _id stand as these do.
abbrev pub IdsAreInOrder : Type 0
IdsAreInOrder = (ls : List Laid) → AreDocuments ls → AreRising (documents ls) → items id_index.spec ls ≡ map (item_of id_index.spec) ls

-- And their records, in the order of the pairs, are those of the documents.
abbrev pub WalkIsScan : Type 0
WalkIsScan = (ls : List Laid) → AreDocuments ls → AreRising (documents ls) → map rec_of (items id_index.spec ls) ≡ map loc (places ls)

-- What a collection has in its files is documents.
abbrev pub HeldAreDocuments : Type 0
HeldAreDocuments = (d : List ℕ) (image : Image) (s : Shape) (coll : List ℕ) (c : Collection) (h : HasCollection d image s coll c) → AreDocuments h.laid

-- Its index at position 0 is `_id_`.
abbrev pub IdIsFirst : Type 0
IdIsFirst = (d : List ℕ) (image : Image) (s : Shape) (coll : List ℕ) (c : Collection) (h : HasCollection d image s coll c) → IsCollection c
    → HasIndexAt image s (indexes_name d) (namespace d coll) h.node 0 id_index h.laid

-- The tree there lists the documents as they stand in the collection.
abbrev pub HeldInOrder : Type 0
HeldInOrder = (d : List ℕ) (image : Image) (s : Shape) (coll : List ℕ) (c : Collection) (h : HasCollection d image s coll c) → IsCollection c
    → (index : HasIndexAt image s (indexes_name d) (namespace d coll) h.node 0 id_index h.laid)
    → HasIndex image index.node h.node 0 id_index.spec (map (item_of id_index.spec) h.laid)

-- And the records of what it lists are those of the documents, in their order.
abbrev pub HeldWalkIsScan : Type 0
HeldWalkIsScan = (d : List ℕ) (image : Image) (s : Shape) (coll : List ℕ) (c : Collection) (h : HasCollection d image s coll c) → IsCollection c
    → map rec_of (items id_index.spec h.laid) ≡ map loc (places h.laid)
