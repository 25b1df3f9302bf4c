-- How documents come, go and change among others without a loss of their order and of what indexes keep.
use Rattle.std.proofs.Common.{◌≡◌, Bool, true, false, List, [], ◌∷◌, Option, Some, None, refl, sym, ap, ◌∙◌, ◌||◌}
use Rattle.std.specs.Prelude.{if◌then◌else◌, option_and_then}
use Rattle.std.specs.List.{list_any}
use Rattle.std.specs.declared.cmp.Ordering.{Ordering}
use Rattle.std.specs.declared.cmp.Ordering.TheVariants.{Less, Equal, Greater}
use Rattle.std.specs.Ordering.{is_eq, is_lt, ordering_then, ordering_reverse}
use Rattle.std.specs.Cmp.{alike_right, eq_by_cmp_equiv}
use Rattle.mm_bson.specs.Tree.{Tree, Elements}
use Rattle.mm_bson.specs.Path.{find, value_at, onward}
use Rattle.mm_bson.specs.Order.{compare}
use Rattle.mm_bson.proofs.Orders.{compare_total}
use Rattle.mm_keys.specs.Key.{or_null, key, keyed}
use Rattle.mm_keys.proofs.Totals.{key_compare_total}
use Rattle.mm_model.specs.Database.{Index, id_name, id_of, has_id, id_index}
use Rattle.mm_model.specs.Keyed.{same_key, without_id}
use Rattle.mm_model.specs.Commands.{placed, replaced, without_all}
use Rattle.mm_model.specs.Laws.{AllAbove, AreRising, AllApart, AreApart, HasKeyFor, AllKeyed, Indexes, AllIndex}

pub or_false : (a b : Bool) → (a || b) ≡ false → (a ≡ false) × (b ≡ false)
or_false true b e = absurd cc
or_false false b e = (refl, e)

-- ---- the order of values

abbrev Below : Tree → Tree → Type 0
Below a b = compare a b ≡ Less

below_back : (a b : Tree) → compare a b ≡ Greater → Below b a
below_back a b e = compare_total.antisymm b a ∙ ap ordering_reverse e

above_back : (a b : Tree) → Below a b → compare b a ≡ Greater
above_back a b e = compare_total.antisymm b a ∙ ap ordering_reverse e

above_more : (a b : Tree) (ds : List Elements) → Below a b → AllAbove b ds → AllAbove a ds
above_more a b [] h above = tt
above_more a b (d ∷ ds) h above = (compare_total.trans a b (id_of d) h above.0, above_more a b ds h above.1)

above_tied : (a b : Tree) (ds : List Elements) → compare a b ≡ Equal → AllAbove a ds → AllAbove b ds
above_tied a b [] h above = tt
above_tied a b (d ∷ ds) h above = (sym (compare_total.congr a b (id_of d) h) ∙ above.0, above_tied a b ds h above.1)

below_tied : (id a b : Tree) → compare a b ≡ Equal → Below id a → Below id b
below_tied id a b h below = sym (alike_right compare_total a b id h) ∙ below

is_tied : (o : Ordering) → is_eq o ≡ true → o ≡ Equal
is_tied Equal e = refl
is_tied Less e = absurd cc
is_tied Greater e = absurd cc

has_tied : (id : Tree) (d : Elements) → has_id id d ≡ true → compare (id_of d) id ≡ Equal
has_tied id d e = is_tied (compare (id_of d) id) e

-- ---- the key of the index _id_ is the _id

pub keyed_id : (d : Elements) → keyed id_name d ≡ id_of d
keyed_id d = by (find id_name d)
  where
    by : (o : Option Tree) → or_null (option_and_then (onward [] (value_at [])) o) ≡ or_null o
    by None = refl
    by (Some t) = refl

then_equal : (o : Ordering) → is_eq (ordering_then o Equal) ≡ is_eq o
then_equal Less = refl
then_equal Equal = refl
then_equal Greater = refl

pub id_key : (o d : Elements) → same_key id_index.spec o d ≡ has_id (id_of d) o
id_key o d =
    then_equal (compare (keyed id_name o) (keyed id_name d))
    ∙ ap (λ t. is_eq (compare t (keyed id_name d))) (keyed_id o) ∙ ap (λ t. is_eq (compare (id_of o) t)) (keyed_id d)

pub none_has_id : (d : Elements) (ds : List Elements) → list_any (λ o. same_key id_index.spec o d) ds ≡ false → list_any (has_id (id_of d)) ds ≡ false
none_has_id d [] e = refl
none_has_id d (o ∷ os) e =
    let parts = or_false (same_key id_index.spec o d) (list_any (λ x. same_key id_index.spec x d) os) e in
    rw (sym (id_key o d) ∙ parts.0) (none_has_id d os parts.1)

-- ---- a document comes

above_placed : (id : Tree) (d : Elements) (ds : List Elements) → Below id (id_of d) → AllAbove id ds → AllAbove id (placed d ds)
above_placed id d [] h above = (h, tt)
above_placed id d (e ∷ es) h above = by (is_lt (compare (id_of e) (id_of d))) (above_placed id d es h above.1)
  where
    by : (b : Bool) → AllAbove id (placed d es) → AllAbove id (if b then e ∷ placed d es else d ∷ e ∷ es)
    by true rest = (above.0, rest)
    by false rest = (h, above)

pub rising_placed : (d : Elements) (ds : List Elements) → list_any (has_id (id_of d)) ds ≡ false → AreRising ds → AreRising (placed d ds)
rising_placed d [] none rising = (tt, tt)
rising_placed d (e ∷ es) none rising =
    let parts = or_false (has_id (id_of d) e) (list_any (has_id (id_of d)) es) none in
    by (compare (id_of e) (id_of d)) refl parts.0 (rising_placed d es parts.1 rising.1)
  where
    by : (o : Ordering) → compare (id_of e) (id_of d) ≡ o → has_id (id_of d) e ≡ false → AreRising (placed d es) → AreRising (if is_lt o then e ∷ placed d es else d ∷ e ∷ es)
    by Less q other rest = (above_placed (id_of e) d es q rising.0, rest)
    by Equal q other rest = absurd (let tied : is_eq Equal ≡ false = ap is_eq (sym q) ∙ other in cc)
    by Greater q other rest =
        let below = below_back (id_of e) (id_of d) q in
        ((below, above_more (id_of d) (id_of e) es below rising.0), rising)

keyed_placed : (i : Index) (d : Elements) (ds : List Elements) → HasKeyFor i d → AllKeyed i ds → AllKeyed i (placed d ds)
keyed_placed i d [] h keyed = (h, tt)
keyed_placed i d (e ∷ es) h keyed = by (is_lt (compare (id_of e) (id_of d))) (keyed_placed i d es h keyed.1)
  where
    by : (b : Bool) → AllKeyed i (placed d es) → AllKeyed i (if b then e ∷ placed d es else d ∷ e ∷ es)
    by true rest = (keyed.0, rest)
    by false rest = (h, keyed)

same_key_back : (spec a b : Elements) → same_key spec a b ≡ same_key spec b a
same_key_back spec a b = (eq_by_cmp_equiv (key_compare_total spec)).symm (key a spec) (key b spec)

-- a document whose key none of these has
pub apart_from : (spec d : Elements) (ds : List Elements) → list_any (λ o. same_key spec o d) ds ≡ false → AllApart spec d ds
apart_from spec d [] none = tt
apart_from spec d (e ∷ es) none =
    let parts = or_false (same_key spec e d) (list_any (λ o. same_key spec o d) es) none in
    (same_key_back spec d e ∙ parts.0, apart_from spec d es parts.1)

apart_placed : (spec x d : Elements) (ds : List Elements) → same_key spec x d ≡ false → AllApart spec x ds → AllApart spec x (placed d ds)
apart_placed spec x d [] h apart = (h, tt)
apart_placed spec x d (e ∷ es) h apart = by (is_lt (compare (id_of e) (id_of d))) (apart_placed spec x d es h apart.1)
  where
    by : (b : Bool) → AllApart spec x (placed d es) → AllApart spec x (if b then e ∷ placed d es else d ∷ e ∷ es)
    by true rest = (apart.0, rest)
    by false rest = (h, apart)

all_apart_placed : (spec d : Elements) (ds : List Elements) → list_any (λ o. same_key spec o d) ds ≡ false → AreApart spec ds → AreApart spec (placed d ds)
all_apart_placed spec d [] none apart = (tt, tt)
all_apart_placed spec d (e ∷ es) none apart =
    let parts = or_false (same_key spec e d) (list_any (λ o. same_key spec o d) es) none in
    by (is_lt (compare (id_of e) (id_of d))) (apart_placed spec e d es parts.0 apart.0) (all_apart_placed spec d es parts.1 apart.1)
  where
    by : (b : Bool) → AllApart spec e (placed d es) → AreApart spec (placed d es) → AreApart spec (if b then e ∷ placed d es else d ∷ e ∷ es)
    by true first rest = (first, rest)
    by false first rest = (apart_from spec d (e ∷ es) none, apart)

pub index_placed : (i : Index) (d : Elements) (ds : List Elements) → HasKeyFor i d → (i.unique ≡ true → list_any (λ o. same_key i.spec o d) ds ≡ false) → Indexes ds i → Indexes (placed d ds) i
index_placed i d ds key none old = record {
  keyed = keyed_placed i d ds key old.keyed;
  apart = λ unique. all_apart_placed i.spec d ds (none unique) (old.apart unique);
}

-- ---- documents go

above_without : (id x : Tree) (ds : List Elements) → AllAbove id ds → AllAbove id (without_id x ds)
above_without id x [] above = tt
above_without id x (d ∷ ds) above = by (has_id x d) (above_without id x ds above.1)
  where
    by : (b : Bool) → AllAbove id (without_id x ds) → AllAbove id (if b then without_id x ds else d ∷ without_id x ds)
    by true rest = rest
    by false rest = (above.0, rest)

rising_without : (x : Tree) (ds : List Elements) → AreRising ds → AreRising (without_id x ds)
rising_without x [] rising = tt
rising_without x (d ∷ ds) rising = by (has_id x d) (rising_without x ds rising.1)
  where
    by : (b : Bool) → AreRising (without_id x ds) → AreRising (if b then without_id x ds else d ∷ without_id x ds)
    by true rest = rest
    by false rest = (above_without (id_of d) x ds rising.0, rest)

keyed_without : (i : Index) (x : Tree) (ds : List Elements) → AllKeyed i ds → AllKeyed i (without_id x ds)
keyed_without i x [] keyed = tt
keyed_without i x (d ∷ ds) keyed = by (has_id x d) (keyed_without i x ds keyed.1)
  where
    by : (b : Bool) → AllKeyed i (without_id x ds) → AllKeyed i (if b then without_id x ds else d ∷ without_id x ds)
    by true rest = rest
    by false rest = (keyed.0, rest)

apart_without : (spec e : Elements) (x : Tree) (ds : List Elements) → AllApart spec e ds → AllApart spec e (without_id x ds)
apart_without spec e x [] apart = tt
apart_without spec e x (d ∷ ds) apart = by (has_id x d) (apart_without spec e x ds apart.1)
  where
    by : (b : Bool) → AllApart spec e (without_id x ds) → AllApart spec e (if b then without_id x ds else d ∷ without_id x ds)
    by true rest = rest
    by false rest = (apart.0, rest)

all_apart_without : (spec : Elements) (x : Tree) (ds : List Elements) → AreApart spec ds → AreApart spec (without_id x ds)
all_apart_without spec x [] apart = tt
all_apart_without spec x (d ∷ ds) apart = by (has_id x d) (all_apart_without spec x ds apart.1)
  where
    by : (b : Bool) → AreApart spec (without_id x ds) → AreApart spec (if b then without_id x ds else d ∷ without_id x ds)
    by true rest = rest
    by false rest = (apart_without spec d x ds apart.0, rest)

index_without : (i : Index) (x : Tree) (ds : List Elements) → Indexes ds i → Indexes (without_id x ds) i
index_without i x ds old = record {
  keyed = keyed_without i x ds old.keyed;
  apart = λ unique. all_apart_without i.spec x ds (old.apart unique);
}

indexes_without : (is : List Index) (x : Tree) (ds : List Elements) → AllIndex ds is → AllIndex (without_id x ds) is
indexes_without [] x ds old = tt
indexes_without (i ∷ is) x ds old = (index_without i x ds old.0, indexes_without is x ds old.1)

pub rising_without_all : (gone ds : List Elements) → AreRising ds → AreRising (without_all gone ds)
rising_without_all [] ds rising = rising
rising_without_all (g ∷ gone) ds rising = rising_without_all gone (without_id (id_of g) ds) (rising_without (id_of g) ds rising)

pub indexes_without_all : (is : List Index) (gone ds : List Elements) → AllIndex ds is → AllIndex (without_all gone ds) is
indexes_without_all is [] ds old = old
indexes_without_all is (g ∷ gone) ds old = indexes_without_all is gone (without_id (id_of g) ds) (indexes_without is (id_of g) ds old)

-- ---- a document changes in its place

above_replaced : (id : Tree) (new : Elements) (ds : List Elements) → AllAbove id ds → AllAbove id (replaced new ds)
above_replaced id new [] above = tt
above_replaced id new (e ∷ es) above = (by (has_id (id_of new) e) refl, above_replaced id new es above.1)
  where
    by : (b : Bool) → has_id (id_of new) e ≡ b → Below id (id_of (if b then new else e))
    by true h = below_tied id (id_of e) (id_of new) (has_tied (id_of new) e h) above.0
    by false h = above.0

pub rising_replaced : (new : Elements) (ds : List Elements) → AreRising ds → AreRising (replaced new ds)
rising_replaced new [] rising = tt
rising_replaced new (e ∷ es) rising = (by (has_id (id_of new) e) refl, rising_replaced new es rising.1)
  where
    rest : AllAbove (id_of e) (replaced new es)
    rest = above_replaced (id_of e) new es rising.0

    by : (b : Bool) → has_id (id_of new) e ≡ b → AllAbove (id_of (if b then new else e)) (replaced new es)
    by true h = above_tied (id_of e) (id_of new) (replaced new es) (has_tied (id_of new) e h) rest
    by false h = rest

keyed_replaced : (i : Index) (new : Elements) (ds : List Elements) → HasKeyFor i new → AllKeyed i ds → AllKeyed i (replaced new ds)
keyed_replaced i new [] h keyed = tt
keyed_replaced i new (e ∷ es) h keyed = (by (has_id (id_of new) e), keyed_replaced i new es h keyed.1)
  where
    by : (b : Bool) → HasKeyFor i (if b then new else e)
    by true = h
    by false = keyed.0

apart_replaced : (spec x new : Elements) (ds : List Elements) → same_key spec x new ≡ false → AllApart spec x ds → AllApart spec x (replaced new ds)
apart_replaced spec x new [] h apart = tt
apart_replaced spec x new (e ∷ es) h apart = (by (has_id (id_of new) e), apart_replaced spec x new es h apart.1)
  where
    by : (b : Bool) → same_key spec x (if b then new else e) ≡ false
    by true = h
    by false = apart.0

-- documents above an _id don't have it
not_above : (new e : Elements) → Below (id_of new) (id_of e) → has_id (id_of new) e ≡ false
not_above new e below = ap is_eq (above_back (id_of new) (id_of e) below)

apart_unreplaced : (spec new : Elements) (ds : List Elements) → AllAbove (id_of new) ds → list_any (λ o. same_key spec o new) (without_id (id_of new) ds) ≡ false → AllApart spec new (replaced new ds)
apart_unreplaced spec new [] above none = tt
apart_unreplaced spec new (e ∷ es) above none = by (has_id (id_of new) e) (not_above new e above.0) none (apart_unreplaced spec new es above.1)
  where
    by : (b : Bool) → b ≡ false → list_any (λ o. same_key spec o new) (if b then without_id (id_of new) es else e ∷ without_id (id_of new) es) ≡ false
        → (list_any (λ o. same_key spec o new) (without_id (id_of new) es) ≡ false → AllApart spec new (replaced new es))
        → AllApart spec new ((if b then new else e) ∷ replaced new es)
    by true h free rest = absurd cc
    by false h free rest =
        let parts = or_false (same_key spec e new) (list_any (λ o. same_key spec o new) (without_id (id_of new) es)) free in
        (same_key_back spec new e ∙ parts.0, rest parts.1)

all_apart_replaced : (spec new : Elements) (ds : List Elements) → AreRising ds → list_any (λ o. same_key spec o new) (without_id (id_of new) ds) ≡ false → AreApart spec ds → AreApart spec (replaced new ds)
all_apart_replaced spec new [] rising none apart = tt
all_apart_replaced spec new (e ∷ es) rising none apart = by (has_id (id_of new) e) refl none (λ free. all_apart_replaced spec new es rising.1 free apart.1)
  where
    by : (b : Bool) → has_id (id_of new) e ≡ b → list_any (λ o. same_key spec o new) (if b then without_id (id_of new) es else e ∷ without_id (id_of new) es) ≡ false
        → (list_any (λ o. same_key spec o new) (without_id (id_of new) es) ≡ false → AreApart spec (replaced new es))
        → AreApart spec ((if b then new else e) ∷ replaced new es)
    by true h free rest =
        (apart_unreplaced spec new es (above_tied (id_of e) (id_of new) es (has_tied (id_of new) e h) rising.0) free, rest free)
    by false h free rest =
        let parts = or_false (same_key spec e new) (list_any (λ o. same_key spec o new) (without_id (id_of new) es)) free in
        (apart_replaced spec e new es parts.0 apart.0, rest parts.1)

pub index_replaced : (i : Index) (new : Elements) (ds : List Elements) → AreRising ds → HasKeyFor i new
    → (i.unique ≡ true → list_any (λ o. same_key i.spec o new) (without_id (id_of new) ds) ≡ false) → Indexes ds i → Indexes (replaced new ds) i
index_replaced i new ds rising key none old = record {
  keyed = keyed_replaced i new ds key old.keyed;
  apart = λ unique. all_apart_replaced i.spec new ds rising (none unique) (old.apart unique);
}
