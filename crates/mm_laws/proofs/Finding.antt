-- A find gives each document that matches, in the order that was asked for.
use Rattle.std.proofs.Common.{◌≡◌, inl, inr, ℕ, ◌+◌, Bool, true, false, cond, List, [], ◌∷◌, Option, Some, None, refl, sym, ap, subst, ◌∙◌, arith}
use Rattle.std.specs.Prelude.{if◌then◌else◌, count_by, option_map, filter}
use Rattle.std.specs.declared.cmp.Ordering.{Ordering}
use Rattle.std.specs.declared.cmp.Ordering.TheVariants.{Less, Equal, Greater}
use Rattle.std.specs.Ordering.{is_lt, ordering_reverse}
use Rattle.std.specs.FinMap.{get}
use Rattle.std.proofs.lemmas.List.Sums.{sum_by-cons}
use Rattle.mm_bson.specs.Tree.{Tree, Elements}
use Rattle.mm_bson.specs.Order.{compare}
use Rattle.mm_keys.specs.Key.{key}
use Rattle.mm_keys.specs.KeyOrder.{key_compare}
use Rattle.mm_keys.proofs.Totals.{key_compare_total}
use Rattle.mm_query.specs.Form.{wrong_filter}
use Rattle.mm_query.specs.Selection.{selects}
use Rattle.mm_model.specs.declared.reply.Reply.{Reply}
use Rattle.mm_model.specs.declared.reply.Reply.TheVariants.{Found, NsFull, BadOperator}
use Rattle.mm_model.specs.Database.{Index, Collection, Database, id_of, selected}
use Rattle.mm_model.specs.Commands.{Outcome, unless, placed_by_key, by_key_onto, by_key, index_named, filter_refusal, found_in, found_by}
use Rattle.mm_model.specs.Laws.{IsDatabase, AreRising, AllAbove, documents_in}
use Rattle.mm_laws.specs.Finding.{FindsWhatMatches, FindsById, FindsByKey, Precedes, LeadsOn, AreInOrder}
use Rattle.mm_model.specs.After.{settled}
use Rattle.mm_laws.proofs.Replies.{ReplyHas, reply-has, Each, unless-has}

-- ---- none is lost, and none comes twice

count_cons : (test : Elements → Bool) (d : Elements) (ds : List Elements) → count_by test (d ∷ ds) ≡ cond (test d) 1 0 + count_by test ds
count_cons test d ds = sum_by-cons (λ x. cond (test x) 1 0) d ds

placed_counts : (test : Elements → Bool) (spec d : Elements) (ds : List Elements) → count_by test (placed_by_key spec d ds) ≡ cond (test d) 1 0 + count_by test ds
placed_counts test spec d [] = count_cons test d []
placed_counts test spec d (e ∷ es) = by (is_lt (key_compare spec (key d spec) (key e spec))) (placed_counts test spec d es)
  where
    by : (b : Bool) → count_by test (placed_by_key spec d es) ≡ cond (test d) 1 0 + count_by test es
        → count_by test (if b then d ∷ e ∷ es else e ∷ placed_by_key spec d es) ≡ cond (test d) 1 0 + count_by test (e ∷ es)
    by true h = count_cons test d (e ∷ es)
    by false h = omega (arith, count_cons test e (placed_by_key spec d es), count_cons test e es, h)

onto_counts : (test : Elements → Bool) (spec : Elements) (sorted ds : List Elements) → count_by test (by_key_onto spec sorted ds) ≡ count_by test sorted + count_by test ds
onto_counts test spec sorted [] = omega arith
onto_counts test spec sorted (d ∷ ds) = omega (arith, onto_counts test spec (placed_by_key spec d sorted) ds, placed_counts test spec d sorted, count_cons test d ds)

by_key_counts : (test : Elements → Bool) (spec : Elements) (ds : List Elements) → count_by test (by_key spec ds) ≡ count_by test ds
by_key_counts test spec ds = omega (arith, onto_counts test spec [] ds)

abbrev Counts : (Elements → Bool) → List Elements → Reply → Type 0
Counts test all r = (ds : List Elements) → r ≡ Found ds → count_by test ds ≡ count_by test all

counts : (test : Elements → Bool) (all found : List Elements) → count_by test found ≡ count_by test all → Counts test all (Found found)
counts test all found h ds e = let same : found ≡ ds = cc in ap (count_by test) (sym same) ∙ h

found_by-counts : (test : Elements → Bool) (name : List ℕ) (f : Elements) (c : Collection) (o : Option Index) → ReplyHas (Counts test (selected f c.documents)) (found_by name f c o)
found_by-counts test name f c None = λ ds e. absurd cc
found_by-counts test name f c (Some index) = counts test (selected f c.documents) (by_key index.spec (selected f c.documents)) (by_key_counts test index.spec (selected f c.documents))

found-counts : (test : Elements → Bool) (f : Elements) (index : Option (List ℕ)) (was : Option Collection) → ReplyHas (Counts test (selected f (documents_in was))) (found_in f index was)
found-counts test f None None = counts test [] [] refl
found-counts test f None (Some c) = counts test (selected f c.documents) (selected f c.documents) refl
found-counts test f (Some name) None = λ ds e. absurd cc
found-counts test f (Some name) (Some c) = found_by-counts test name f c (index_named name c.indexes)

filter-each : (P : Reply → Type 0) (f : Elements) → ((name : List ℕ) → P (BadOperator name)) → Each P (filter_refusal f)
filter-each P f h = by (wrong_filter f)
  where
    by : (o : Option (List ℕ)) → Each P (option_map (λ name. BadOperator name) o)
    by None = tt
    by (Some name) = h name

-- a fact of what a find answers holds where it holds of what it found
find-has : (P : Reply → Type 0) (nodes : ℕ) (coll : List ℕ) (db : Database) (f : Elements) (o : Outcome) → P NsFull → ((name : List ℕ) → P (BadOperator name)) → ReplyHas P o
    → P (settled nodes coll db (unless (filter_refusal f) o)).0
find-has P nodes coll db f o full bad h = reply-has P nodes coll db (unless (filter_refusal f) o) full (unless-has P (filter_refusal f) o (filter-each P f bad) h)

pub what_matches : FindsWhatMatches
what_matches name nodes db coll f index ds test =
    find-has (Counts test (selected f (documents_in (get db coll)))) nodes coll db f (found_in f index (get db coll)) (λ ds e. absurd cc) (λ name ds e. absurd cc) (found-counts test f index (get db coll)) ds

-- ---- by _id

above_selected : (test : Elements → Bool) (id : Tree) (ds : List Elements) → AllAbove id ds → AllAbove id (filter test ds)
above_selected test id [] h = tt
above_selected test id (d ∷ ds) h = by (test d) (above_selected test id ds h.1)
  where
    by : (b : Bool) → AllAbove id (filter test ds) → AllAbove id (cond b (d ∷ filter test ds) (filter test ds))
    by true rest = (h.0, rest)
    by false rest = rest

rising_selected : (test : Elements → Bool) (ds : List Elements) → AreRising ds → AreRising (filter test ds)
rising_selected test [] h = tt
rising_selected test (d ∷ ds) h = by (test d) (above_selected test (id_of d) ds h.0) (rising_selected test ds h.1)
  where
    by : (b : Bool) → AllAbove (id_of d) (filter test ds) → AreRising (filter test ds) → AreRising (cond b (d ∷ filter test ds) (filter test ds))
    by true above rest = (above, rest)
    by false above rest = rest

abbrev Rises : Reply → Type 0
Rises r = (ds : List Elements) → r ≡ Found ds → AreRising ds

rises : (found : List Elements) → AreRising found → Rises (Found found)
rises found h ds e = let same : found ≡ ds = cc in subst AreRising same h

found-rises : (f : Elements) (was : Option Collection) → AreRising (documents_in was) → ReplyHas Rises (found_in f None was)
found-rises f None h = rises [] tt
found-rises f (Some c) h = rises (selected f c.documents) (rising_selected (selects f) c.documents h)

rising_in : (coll : List ℕ) (db : Database) (was : Option Collection) → get db coll ≡ was → IsDatabase db → AreRising (documents_in was)
rising_in coll db None e is = tt
rising_in coll db (Some c) e is = (is coll c e).rising

pub by_id_rising : FindsById
by_id_rising name nodes db coll f ds is =
    find-has Rises nodes coll db f (found_in f None (get db coll)) (λ ds e. absurd cc) (λ name ds e. absurd cc) (found-rises f (get db coll) (rising_in coll db (get db coll) refl is)) ds

-- ---- by the keys of an index

-- all of these have an _id below
abbrev AllUnder : Tree → List Elements → Type 0
AllUnder id [] = Unit {0}
AllUnder id (e ∷ es) = (compare (id_of e) id ≡ Less) × AllUnder id es

-- each of the second has an _id above all of the first
abbrev Apart : List Elements → List Elements → Type 0
Apart sorted [] = Unit {0}
Apart sorted (d ∷ ds) = AllUnder (id_of d) sorted × Apart sorted ds

under_placed : (spec d : Elements) (id : Tree) (es : List Elements) → compare (id_of d) id ≡ Less → AllUnder id es → AllUnder id (placed_by_key spec d es)
under_placed spec d id [] h under = (h, tt)
under_placed spec d id (e ∷ es) h under = by (is_lt (key_compare spec (key d spec) (key e spec))) (under_placed spec d id es h under.1)
  where
    by : (b : Bool) → AllUnder id (placed_by_key spec d es) → AllUnder id (if b then d ∷ e ∷ es else e ∷ placed_by_key spec d es)
    by true rest = (h, under)
    by false rest = (under.0, rest)

apart_placed : (spec d : Elements) (sorted ds : List Elements) → AllAbove (id_of d) ds → Apart sorted ds → Apart (placed_by_key spec d sorted) ds
apart_placed spec d sorted [] above apart = tt
apart_placed spec d sorted (e ∷ es) above apart = (under_placed spec d (id_of e) sorted above.0 apart.0, apart_placed spec d sorted es above.1 apart.1)

nothing_apart : (ds : List Elements) → Apart [] ds
nothing_apart [] = tt
nothing_apart (d ∷ ds) = (tt, nothing_apart ds)

is_less : (o : Ordering) → is_lt o ≡ true → o ≡ Less
is_less Less e = refl
is_less Equal e = absurd cc
is_less Greater e = absurd cc

-- a document of no lesser key, and of a greater _id, stands behind
behind : (spec d e : Elements) → is_lt (key_compare spec (key d spec) (key e spec)) ≡ false → compare (id_of e) (id_of d) ≡ Less → Precedes spec e d
behind spec d e h under = by (key_compare spec (key d spec) (key e spec)) h ((key_compare_total spec).antisymm (key e spec) (key d spec))
  where
    by : (o : Ordering) → is_lt o ≡ false → key_compare spec (key e spec) (key d spec) ≡ ordering_reverse o → Precedes spec e d
    by Less f turned = absurd cc
    by Equal f turned = inr (turned, under)
    by Greater f turned = inl turned

leads_placed : (spec d e : Elements) (es : List Elements) → Precedes spec e d → LeadsOn spec e es → LeadsOn spec e (placed_by_key spec d es)
leads_placed spec d e [] h lead = h
leads_placed spec d e (g ∷ gs) h lead = by (is_lt (key_compare spec (key d spec) (key g spec)))
  where
    by : (b : Bool) → LeadsOn spec e (if b then d ∷ g ∷ gs else g ∷ placed_by_key spec d gs)
    by true = h
    by false = lead

placed_in_order : (spec d : Elements) (es : List Elements) → AllUnder (id_of d) es → AreInOrder spec es → AreInOrder spec (placed_by_key spec d es)
placed_in_order spec d [] under order = (tt, tt)
placed_in_order spec d (e ∷ es) under order = by (is_lt (key_compare spec (key d spec) (key e spec))) refl (placed_in_order spec d es under.1 order.1)
  where
    by : (b : Bool) → is_lt (key_compare spec (key d spec) (key e spec)) ≡ b → AreInOrder spec (placed_by_key spec d es)
        → AreInOrder spec (if b then d ∷ e ∷ es else e ∷ placed_by_key spec d es)
    by true h rest = (inl (is_less (key_compare spec (key d spec) (key e spec)) h), order)
    by false h rest = (leads_placed spec d e es (behind spec d e h under.0) order.0, rest)

onto_in_order : (spec : Elements) (sorted ds : List Elements) → AreInOrder spec sorted → AreRising ds → Apart sorted ds → AreInOrder spec (by_key_onto spec sorted ds)
onto_in_order spec sorted [] order rising apart = order
onto_in_order spec sorted (d ∷ ds) order rising apart =
    onto_in_order spec (placed_by_key spec d sorted) ds (placed_in_order spec d sorted apart.0 order) rising.1 (apart_placed spec d sorted ds rising.0 apart.1)

by_key_in_order : (spec : Elements) (ds : List Elements) → AreRising ds → AreInOrder spec (by_key spec ds)
by_key_in_order spec ds rising = onto_in_order spec [] ds tt rising (nothing_apart ds)

abbrev Ordered : Elements → Reply → Type 0
Ordered spec r = (ds : List Elements) → r ≡ Found ds → AreInOrder spec ds

ordered : (spec : Elements) (found : List Elements) → AreInOrder spec found → Ordered spec (Found found)
ordered spec found h ds e = let same : found ≡ ds = cc in subst (AreInOrder spec) same h

found_by-ordered : (name : List ℕ) (f : Elements) (c : Collection) (i : Index) (o : Option Index) → o ≡ Some i → AreRising c.documents → ReplyHas (Ordered i.spec) (found_by name f c o)
found_by-ordered name f c i None e h = absurd cc
found_by-ordered name f c i (Some index) e h =
    let same : i ≡ index = cc in
    let found = by_key index.spec (selected f c.documents) in
    subst (λ (j : Index). Ordered j.spec (Found found)) (sym same) (ordered index.spec found (by_key_in_order index.spec (selected f c.documents) (rising_selected (selects f) c.documents h)))

found-ordered : (f : Elements) (index : List ℕ) (c : Collection) (i : Index) (was : Option Collection) → was ≡ Some c → index_named index c.indexes ≡ Some i → AreRising (documents_in was)
    → ReplyHas (Ordered i.spec) (found_in f (Some index) was)
found-ordered f index c i None e named h = absurd cc
found-ordered f index c i (Some x) e named h =
    let same : c ≡ x = cc in
    found_by-ordered index f x i (index_named index x.indexes) (ap (λ (y : Collection). index_named index y.indexes) (sym same) ∙ named) h

pub by_key_ordered : FindsByKey
by_key_ordered name nodes db coll f c index i ds is there named =
    find-has (Ordered i.spec) nodes coll db f (found_in f (Some index) (get db coll)) (λ ds e. absurd cc) (λ name ds e. absurd cc)
    (found-ordered f index c i (get db coll) there named (rising_in coll db (get db coll) refl is)) ds
