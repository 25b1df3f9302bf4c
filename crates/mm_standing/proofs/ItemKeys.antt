-- The keys of documents are documents, so that they are read from pairs as they were; and whether a pair has a document's key.
use Rattle.std.proofs.Common.{◌≡◌, ℕ, ◌≤◌, Bool, true, false, List, [], ◌∷◌, cond, Option, Some, None, refl, sym, ◌∙◌, ap, subst, arith, length}
use Rattle.std.specs.Prelude.{◌||◌, option_and_then, is_some}
use Rattle.std.specs.Ordering.{is_eq}
use Rattle.std.specs.Str.{bytes_eq}
use Rattle.std.specs.Str as str
use Rattle.std.specs.List.{AllByRecursion, list_any}
use Rattle.std.proofs.lemmas.Bool.{ltb-false}
use Rattle.mm_bson.specs.Tree.{Tree, document, tree_depth, Elements, no_elements, element, depth}
use Rattle.mm_bson.specs.Path.{names, find, onward, value_at}
use Rattle.mm_bson.specs.Spelling.{IsDocument, spelling, IsValue, AreElements}
use Rattle.mm_bson.specs.Walk.{document_in}
use Rattle.mm_bson.proofs.Paths.{value_at-shallow}
use Rattle.mm_bson.proofs.Walks.{document_in-again}
use Rattle.mm_keys.specs.Key.{or_null, keyed, key, key_len, AreNameless}
use Rattle.mm_keys.specs.KeyOrder.{key_compare}
use Rattle.mm_btree.specs.Nodes.{Item}
use Rattle.mm_btree.specs.Lists.{ins}
use Rattle.mm_btree.specs.Order.{item_lt, first_with}
use Rattle.mm_model.specs.Database.{Index}
use Rattle.mm_model.specs.Keyed.{same_key}
use Rattle.mm_model.specs.Laws.{HasKeyFor, AllKeyed}
use Rattle.mm_standing.specs.Documents.{Laid, documents}
use Rattle.mm_standing.specs.Indexes.{item_of, items}
use Rattle.mm_standing.specs.Items.{KeysAreKeys, KeysAreTaken}

-- ---- a key is a document

find-value : (name : List ℕ) (es : Elements) (t : Tree) → AreElements es → find name es ≡ Some t → IsValue t
find-value name no_elements t is found = absurd cc
find-value name (element n u es) t is found = by (bytes_eq n name) found (λ later. find-value name es t is.2 later)
  where
    by : (b : Bool) → cond b (Some u) (find name es) ≡ Some t → (find name es ≡ Some t → IsValue t) → IsValue t
    by true here later = let same : u ≡ t = cc in subst IsValue same is.1
    by false there later = later there

value_at-value : (ns : List (List ℕ)) (es : Elements) (t : Tree) → AreElements es → value_at ns es ≡ Some t → IsValue t
value_at-value [] es t is found = absurd cc
value_at-value (name ∷ others) es t is found = by others (find name es) refl found (λ inner of later. value_at-value others inner t of later)
  where
    by : (ns : List (List ℕ)) (o : Option Tree) → find name es ≡ o → option_and_then (onward ns (value_at others)) o ≡ Some t
        → ((inner : Elements) → AreElements inner → value_at others inner ≡ Some t → IsValue t) → IsValue t
    by ns None at wrong later = absurd cc
    by [] (Some u) at here later = let same : u ≡ t = cc in subst IsValue same (find-value name es u is at)
    by (next ∷ ns) (Some (document inner)) at there later = later inner (find-value name es (document inner) is at) there
    by (next ∷ ns) (Some _) at wrong later = absurd cc

keyed-value : (path : List ℕ) (d : Elements) → AreElements d → IsValue (keyed path d)
keyed-value path d is = by (value_at (names path) d) refl
  where
    by : (o : Option Tree) → value_at (names path) d ≡ o → IsValue (or_null o)
    by None e = tt
    by (Some t) e = value_at-value (names path) d t is e

keyed-shallow : (path : List ℕ) (d : Elements) → tree_depth (keyed path d) ≤ depth d
keyed-shallow path d = by (value_at (names path) d) refl
  where
    by : (o : Option Tree) → value_at (names path) d ≡ o → tree_depth (or_null o) ≤ depth d
    by None e = omega arith
    by (Some t) e = value_at-shallow (names path) d t e

no_name : str.is_utf8 [] ≡ true
unfolding str.is_utf8 str.chars
no_name = refl

key_elements : (d spec : Elements) → AreElements d → AreElements (key d spec)
key_elements d no_elements is = tt
key_elements d (element path t spec) is = ((no_name, tt), keyed-value path d is, key_elements d spec is)

key_shallow : (d spec : Elements) → depth (key d spec) ≤ depth d
key_shallow d no_elements = omega arith
key_shallow d (element path t spec) = omega (arith, keyed-shallow path d, key_shallow d spec)

key_nameless : (d spec : Elements) → AreNameless (key d spec)
key_nameless d no_elements = tt
key_nameless d (element path t spec) = (refl, key_nameless d spec)

key_short : (index : Index) (d : Elements) → HasKeyFor index d → length (spelling (key d index.spec)) ≤ 1024
key_short index d h = ltb-false 1024 (key_len d index.spec) h.short

key_document : (index : Index) (d : Elements) → IsDocument d → HasKeyFor index d → IsDocument (key d index.spec)
key_document index d is h = record {
  elements = key_elements d index.spec is.elements;
  levels = omega (arith, key_shallow d index.spec, is.levels);
  short = omega (arith, key_short index d h);
}

pub keys_are_keys : KeysAreKeys
keys_are_keys index d is h = record { document = (key d index.spec, key_document index d is h, refl, key_nameless d index.spec); short = key_short index d h }

-- it is read from its bytes
key_again : (index : Index) (d : Elements) → IsDocument d → HasKeyFor index d → document_in (spelling (key d index.spec)) ≡ key d index.spec
key_again index d is h =
    let k = key_document index d is h in
    document_in-again (spelling (key d index.spec)) (key d index.spec) (record { spelled = refl; elements = k.elements; levels = k.levels; fits = omega (arith, k.short) })

-- ---- whether a pair has a key

abbrev has_key : Elements → Elements → Item → Bool
has_key spec k p = is_eq (key_compare spec (document_in p.key) k)

first_any : (spec k : Elements) (ps : List Item) → is_some (first_with spec k ps) ≡ list_any (has_key spec k) ps
first_any spec k [] = refl
first_any spec k (p ∷ ps) = by (has_key spec k p) (first_any spec k ps)
  where
    by : (b : Bool) → is_some (first_with spec k ps) ≡ list_any (has_key spec k) ps → is_some (cond b (Some p.rec) (first_with spec k ps)) ≡ (b || list_any (has_key spec k) ps)
    by true e = refl
    by false e = e

one_before : (a b c : Bool) → (a || (b || c)) ≡ (b || (a || c))
one_before true true c = refl
one_before true false c = refl
one_before false b c = refl

any_ins : {P : Type 0} (lt : P → P → Bool) (test : P → Bool) (x : P) (ps : List P) → list_any test (ins lt x ps) ≡ (test x || list_any test ps)
any_ins lt test x [] = refl
any_ins {P} lt test x (p ∷ ps) = by (lt x p) (any_ins lt test x ps)
  where
    by : (b : Bool) → list_any test (ins lt x ps) ≡ (test x || list_any test ps) → list_any test (cond b (x ∷ p ∷ ps) (p ∷ ins lt x ps)) ≡ (test x || (test p || list_any test ps))
    by true e = refl
    by false e = ap (λ (b : Bool). test p || b) e ∙ one_before (test p) (test x) (list_any test ps)

module _ (index : Index) (d : Elements) (is : IsDocument d) (h : HasKeyFor index d) where
  abbrev sought : Elements
  sought = document_in (spelling (key d index.spec))

  one_key : (l : Laid) → IsDocument l.document → HasKeyFor index l.document → has_key index.spec sought (item_of index.spec l) ≡ same_key index.spec l.document d
  one_key l of g = λ i. is_eq (key_compare index.spec (key_again index l.document of g i) (key_again index d is h i))

  any_key : (ls : List Laid) → AllByRecursion IsDocument (documents ls) → AllKeyed index (documents ls)
      → list_any (has_key index.spec sought) (items index.spec ls) ≡ list_any (λ o. same_key index.spec o d) (documents ls)
  any_key [] of g = refl
  any_key (l ∷ ls) of g =
      any_ins (item_lt index.spec) (has_key index.spec sought) (item_of index.spec l) (items index.spec ls)
      ∙ (λ i. one_key l of.0 g.0 i || any_key ls of.1 g.1 i)

pub keys_are_taken : KeysAreTaken
keys_are_taken index d ls is h of g =
    let same = first_any index.spec (document_in (spelling (key d index.spec))) (items index.spec ls) ∙ any_key index d is h ls of g in
    (λ e. sym same ∙ e, λ e. same ∙ e)
