-- The index `_id_` lists the documents in their order: its keys are their ids, and so ordered.
use Rattle.std.proofs.Common.{◌≡◌, ℕ, pos, ◌<◌, ◌≤◌, Bool, true, false, cond, List, [], ◌∷◌, length, map, Option, Some, None, refl, sym, ap, subst, ◌∙◌, arith}
use Rattle.std.specs.Prelude.{slice_index_or}
use Rattle.std.specs.Str.{bytes_eq}
use Rattle.std.specs.List.{AllByRecursion}
use Rattle.std.specs.declared.cmp.Ordering.{Ordering}
use Rattle.std.specs.declared.cmp.Ordering.TheVariants.{Less, Equal, Greater}
use Rattle.std.specs.Ordering.{ordering_then, is_lt}
use Rattle.std.proofs.lemmas.Str.{is_utf8-from_IsUtf8, IsUtf8-nil}
use Rattle.mm_bson.specs.Tree.{Tree, int32, Elements, no_elements, element, tree_depth}
use Rattle.mm_bson.specs.Path.{find}
use Rattle.mm_bson.specs.Spelling.{IsDocument, IsValue, AreElements, spelling, value_spelling}
use Rattle.mm_bson.specs.Walk.{document_in, SpellsDocument}
use Rattle.mm_bson.specs.Order.{compare}
use Rattle.mm_bson.proofs.Paths.{find-shallow, ends}
use Rattle.mm_bson.proofs.Walks.{document_in-again}
use Rattle.mm_ranges.specs.Overlay.{Image}
use Rattle.mm_keys.specs.Key.{or_null, keyed, key}
use Rattle.mm_keys.specs.KeyOrder.{key_compare}
use Rattle.mm_keys.proofs.Lengths.{value-within, key_len-none, key_len-first}
use Rattle.mm_extents.specs.Changes.{loc}
use Rattle.mm_records.specs.Shape.{Shape}
use Rattle.mm_bucket.specs.Order.{place_compare}
use Rattle.mm_btree.specs.Nodes.{Item}
use Rattle.mm_btree.specs.Lists.{ins}
use Rattle.mm_btree.specs.Listed.{rec_of}
use Rattle.mm_btree.specs.Order.{item_lt}
use Rattle.mm_trees.specs.Indexes.{HasIndex}
use Rattle.mm_model.specs.Database.{Index, Collection, id_name, id_of, id_index}
use Rattle.mm_model.specs.Keyed.{namespace}
use Rattle.mm_model.specs.Laws.{AllAbove, AreRising, IsCollection}
use Rattle.mm_model.proofs.Documents.{keyed_id}
use Rattle.mm_check.specs.NodeQuestions.{indexes_name}
use Rattle.mm_standing.specs.Documents.{Laid, IsLaid, places, documents}
use Rattle.mm_standing.specs.Indexes.{item_of, HasIndexAt}
use Rattle.mm_standing.specs.Database.{HasCollection, index_at}
use Rattle.mm_standing.specs.Ids.{AreDocuments, IdsOrderPairs, IdsAreInOrder, WalkIsScan, HeldAreDocuments, IdIsFirst, HeldInOrder, HeldWalkIsScan}

-- ---- the _id of a document has a spelling

found_value : (name : List ℕ) (es : Elements) (t : Tree) → AreElements es → find name es ≡ Some t → IsValue t
found_value name no_elements t are found = absurd cc
found_value name (element n u es) t are found = by (bytes_eq n name) found (λ later. found_value name es t are.2 later)
  where
    by : (b : Bool) → cond b (Some u) (find name es) ≡ Some t → (find name es ≡ Some t → IsValue t) → IsValue t
    by true here later =
        let same : u ≡ t = cc in
        subst IsValue same are.1
    by false there later = later there

record IsShort (t : Tree) : Type 0 where
  value : IsValue t
  levels : tree_depth t < 100
  short : length (value_spelling t) ≤ 0x100_0000

id_short : (d : Elements) → IsDocument d → IsShort (id_of d)
id_short d is = by (find id_name d) refl
  where
    by : (o : Option Tree) → find id_name d ≡ o → IsShort (or_null o)
    by None e = record { value = tt; levels = omega arith; short = omega arith }
    by (Some t) e = record {
      value = found_value id_name d t is.elements e;
      levels = omega (arith, find-shallow id_name d t e, is.levels);
      short = omega (arith, value-within id_name d t (ends id_name d refl ∙ e), is.short);
    }

-- ---- the key of the index is the _id

id_spells : (d : Elements) → IsDocument d → SpellsDocument (spelling (key d id_index.spec)) (key d id_index.spec)
id_spells d is =
    let f : IsShort (keyed id_name d) = subst IsShort (sym (keyed_id d)) (id_short d is) in
    record {
      spelled = refl;
      elements = ((is_utf8-from_IsUtf8 [] IsUtf8-nil, tt), f.value, tt);
      levels = omega (arith, f.levels);
      fits = omega (arith, f.short, key_len-first d id_name (int32 (pos 1)) no_elements, key_len-none d);
    }

id_again : (d : Elements) → IsDocument d → document_in (spelling (key d id_index.spec)) ≡ key d id_index.spec
id_again d is = document_in-again (spelling (key d id_index.spec)) (key d id_index.spec) (id_spells d is)

then_equal : (o : Ordering) → ordering_then o Equal ≡ o
then_equal Less = refl
then_equal Equal = refl
then_equal Greater = refl

-- so the order of two keys is that of the ids
ids_compared : (a b : Elements) → key_compare id_index.spec (key a id_index.spec) (key b id_index.spec) ≡ compare (id_of a) (id_of b)
ids_compared a b =
    then_equal (compare (keyed id_name a) (keyed id_name b))
    ∙ ap (λ t. compare t (keyed id_name b)) (keyed_id a) ∙ ap (λ t. compare (id_of a) t) (keyed_id b)

keys_compared : (a b : Elements) → IsDocument a → IsDocument b
    → key_compare id_index.spec (document_in (spelling (key a id_index.spec))) (document_in (spelling (key b id_index.spec))) ≡ compare (id_of a) (id_of b)
keys_compared a b is js =
    ap (λ k. key_compare id_index.spec k (document_in (spelling (key b id_index.spec)))) (id_again a is)
    ∙ ap (key_compare id_index.spec (key a id_index.spec)) (id_again b js)
    ∙ ids_compared a b

pub ids_order_pairs : IdsOrderPairs
ids_order_pairs l m is js less =
    ap (λ o. ordering_then o (place_compare (loc l.at) (loc m.at))) (keys_compared l.document m.document is js ∙ less)

-- ---- the first stands before the others

-- a pair below the first of others is put before them
front_put : (lt : Item → Item → Bool) (x y : Item) (ys : List Item) → lt x y ≡ true → ins lt x (y ∷ ys) ≡ x ∷ y ∷ ys
front_put lt x y ys less = ap (λ b. cond b (x ∷ y ∷ ys) (y ∷ ins lt x ys)) less

put_first : (l : Laid) (ls : List Laid) → IsDocument l.document → AreDocuments ls → AllAbove (id_of l.document) (documents ls)
    → ins (item_lt id_index.spec) (item_of id_index.spec l) (map (item_of id_index.spec) ls) ≡ item_of id_index.spec l ∷ map (item_of id_index.spec) ls
put_first l [] is are above = refl
put_first l (m ∷ ms) is are above =
    front_put (item_lt id_index.spec) (item_of id_index.spec l) (item_of id_index.spec m) (map (item_of id_index.spec) ms)
    (ap is_lt (ids_order_pairs l m is are.0 above.0))

pub ids_are_in_order : IdsAreInOrder
ids_are_in_order [] are rising = refl
ids_are_in_order (l ∷ ls) are rising =
    ap (ins (item_lt id_index.spec) (item_of id_index.spec l)) (ids_are_in_order ls are.1 rising.1)
    ∙ put_first l ls are.0 are.1 rising.0

-- ---- the records of the pairs

records_are : (ls : List Laid) → map rec_of (map (item_of id_index.spec) ls) ≡ map loc (places ls)
records_are [] = refl
records_are (l ∷ ls) = ap (λ rs. loc l.at ∷ rs) (records_are ls)

pub walk_is_scan : WalkIsScan
walk_is_scan ls are rising = ap (map rec_of) (ids_are_in_order ls are rising) ∙ records_are ls

-- ---- a collection in its files

laid_documents : (s : Shape) (name : List ℕ) (ls : List Laid) → AllByRecursion (IsLaid s name) ls → AreDocuments ls
laid_documents s name [] laid = tt
laid_documents s name (l ∷ ls) laid = (laid.0.begins.is_document, laid_documents s name ls laid.1)

pub held_are_documents : HeldAreDocuments
held_are_documents d image s coll c h = laid_documents s (namespace d coll) h.laid h.holds.laid

first_at : (c : Collection) → IsCollection c → index_at c 0 ≡ id_index
first_at c is = ap (λ (xs : List Index). slice_index_or xs 0 id_index) is.first

pub id_is_first : IdIsFirst
id_is_first d image s coll c h is =
    subst (λ (i : Index). HasIndexAt image s (indexes_name d) (namespace d coll) h.node 0 i h.laid) (first_at c is) (h.indexes 0 (some c is))
  where
    some : (c : Collection) → IsCollection c → 0 < length c.indexes
    some c is = omega (arith, ap length is.first)

rising_held : (d : List ℕ) (image : Image) (s : Shape) (coll : List ℕ) (c : Collection) (h : HasCollection d image s coll c) → IsCollection c → AreRising (documents h.laid)
rising_held d image s coll c h is = subst AreRising (sym h.documents) is.rising

pub held_in_order : HeldInOrder
held_in_order d image s coll c h is index =
    subst (HasIndex image index.node h.node 0 id_index.spec) (ids_are_in_order h.laid (held_are_documents d image s coll c h) (rising_held d image s coll c h is)) index.lists

pub held_walk_is_scan : HeldWalkIsScan
held_walk_is_scan d image s coll c h is = walk_is_scan h.laid (held_are_documents d image s coll c h) (rising_held d image s coll c h is)
