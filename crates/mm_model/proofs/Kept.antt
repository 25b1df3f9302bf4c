-- Every command keeps what a database keeps.
use Rattle.std.proofs.Common.{◌≡◌, ℕ, ◌≤◌, Bool, true, false, cond, not, List, [], ◌∷◌, ◌++◌, Option, Some, None, Result, Ok, Err, length, refl, sym, ap, ◌∙◌, subst, append_assoc, length-append, arith, ◌&&◌}
use Rattle.std.specs.Prelude.{if◌then◌else◌, nat_lt, codes, option_map}
use Rattle.std.specs.Str.{bytes_eq}
use Rattle.std.specs.List.{list_any}
use Rattle.std.specs.FinMap.{get}
use Rattle.std.specs.Ordering.{nat_cmp, eq_by_cmp}
use Rattle.std.specs.Cmp.Lexicographic.{slice_cmp, bytes_decides}
use Rattle.std.proofs.lemmas.Bool.Decides.{nat_tests}
use Rattle.std.proofs.lemmas.List.{append-nil}
use Rattle.mm_bson.specs.Tree.{Elements}
use Rattle.mm_keys.specs.Key.{or_null, key, key_len}
use Rattle.mm_update.specs.declared.fault.ChangeFault.{ChangeFault}
use Rattle.mm_update.specs.Form.{form}
use Rattle.mm_update.specs.Edit.{plan}
use Rattle.mm_update.specs.Changed.{changed}
use Rattle.mm_update.proofs.Whole.{keeps_the_id}
use Rattle.mm_model.specs.declared.command.Command.{Command}
use Rattle.mm_model.specs.declared.command.Command.TheVariants.{Insert, Find, Update, Remove, Create, Drop, EnsureIndex, DropIndex}
use Rattle.mm_model.specs.declared.reply.Reply.{Reply}
use Rattle.mm_model.specs.declared.reply.Reply.TheVariants.{Done, Duplicate, ArrayKey, KeyTooLong, IndexDiffers, TooManyIndexes, IdIndex}
use Rattle.mm_model.specs.Database.{selected}
use Rattle.mm_model.specs.Database.{Index, Collection, Database, id_of, has_id, id_index, new_collection, or_new, nodes_in}
use Rattle.mm_model.specs.Keyed.{namespace, full_name, or_else, first_refusal, has_array, no_key, same_key, taken_key, keys_refusal, too_large, array_id, without_id}
use Rattle.mm_model.specs.Commands.{Outcome, refused, answered, done, unless, placed, replaced, without_all, with_documents, with_indexes, first_or_all, index_named, without_index, filter_refusal, change_reply, change_refusal, found_in, found_by, put_back, made_of, one_changed, go_on, all_changed, counted, updated_in, removed_from, created, dropped, same_index, build_refusal, indexed, ensured, taken_out, index_dropped_from, collection_of, outcome}
use Rattle.mm_model.specs.After.{unless_full, with_collection, settled}
use Rattle.mm_model.specs.Laws.{AreRising, AllApart, AreApart, HasKeyFor, AllKeyed, Indexes, AllIndex, AreNamed, IsCollection, IsDatabase, DatabasesStay}
use Rattle.mm_model.proofs.Settled.{DoneHas, get-with}
use Rattle.mm_model.proofs.Documents.{or_false, none_has_id, rising_placed, index_placed, rising_without_all, indexes_without_all, rising_replaced, index_replaced}

-- ---- what no refusal says

pub none_of : (a b : Option Reply) → or_else a b ≡ None → (a ≡ None) × (b ≡ None)
none_of None b e = (refl, e)
none_of (Some r) b e = absurd cc

unchosen : (b c : Bool) (x y : Reply) → (if b then Some x else (if c then Some y else None)) ≡ None → (b ≡ false) × (c ≡ false)
unchosen true c x y e = absurd cc
unchosen false true x y e = absurd cc
unchosen false false x y e = (refl, refl)

has_key : (ns : List ℕ) (d : Elements) (i : Index) → no_key ns d i ≡ None → HasKeyFor i d
has_key ns d i e =
    let parts = unchosen (has_array d i.spec) (nat_lt 1024 (key_len d i.spec)) (ArrayKey (full_name ns i)) (KeyTooLong (full_name ns i) (key_len d i.spec)) e in
    record { no_array = parts.0; short = parts.1 }

untaken : (u b : Bool) (x : Reply) → (if u && b then Some x else None) ≡ None → u ≡ true → b ≡ false
untaken true true x e h = absurd cc
untaken true false x e h = refl
untaken false b x e h = absurd cc

not_taken : (ns : List ℕ) (others : List Elements) (d : Elements) (i : Index) → taken_key ns others d i ≡ None → i.unique ≡ true → list_any (λ o. same_key i.spec o d) others ≡ false
not_taken ns others d i e h = untaken i.unique (list_any (λ o. same_key i.spec o d) others) (Duplicate (full_name ns i) (key d i.spec)) e h

-- ---- documents come and change

placed_all : (ns : List ℕ) (is : List Index) (d : Elements) (ds : List Elements) → first_refusal (no_key ns d) is ≡ None → first_refusal (taken_key ns ds d) is ≡ None
    → AllIndex ds is → AllIndex (placed d ds) is
placed_all ns [] d ds keys taken old = tt
placed_all ns (i ∷ is) d ds keys taken old =
    let k = none_of (no_key ns d i) (first_refusal (no_key ns d) is) keys in
    let t = none_of (taken_key ns ds d i) (first_refusal (taken_key ns ds d) is) taken in
    (index_placed i d ds (has_key ns d i k.0) (not_taken ns ds d i t.0) old.0, placed_all ns is d ds k.1 t.1 old.1)

replaced_all : (ns : List ℕ) (is : List Index) (new : Elements) (ds : List Elements) → AreRising ds → first_refusal (no_key ns new) is ≡ None
    → first_refusal (taken_key ns (without_id (id_of new) ds) new) is ≡ None → AllIndex ds is → AllIndex (replaced new ds) is
replaced_all ns [] new ds rising keys taken old = tt
replaced_all ns (i ∷ is) new ds rising keys taken old =
    let k = none_of (no_key ns new i) (first_refusal (no_key ns new) is) keys in
    let t = none_of (taken_key ns (without_id (id_of new) ds) new i) (first_refusal (taken_key ns (without_id (id_of new) ds) new) is) taken in
    (index_replaced i new ds rising (has_key ns new i k.0) (not_taken ns (without_id (id_of new) ds) new i t.0) old.0, replaced_all ns is new ds rising k.1 t.1 old.1)

-- no document has the _id of one that the index _id_ takes
pub id_untaken : (ns : List ℕ) (ds : List Elements) (d : Elements) (is others : List Index) → is ≡ id_index ∷ others → first_refusal (taken_key ns ds d) is ≡ None
    → list_any (has_id (id_of d)) ds ≡ false
id_untaken ns ds d is others same e =
    let first : first_refusal (taken_key ns ds d) (id_index ∷ others) ≡ None = ap (first_refusal (taken_key ns ds d)) (sym same) ∙ e in
    let none = (none_of (taken_key ns ds d id_index) (first_refusal (taken_key ns ds d) others) first).0 in
    none_has_id d ds (not_taken ns ds d id_index none refl)

with_placed : (ns : List ℕ) (d : Elements) (c : Collection) → IsCollection c → keys_refusal ns c.indexes c.documents d ≡ None → IsCollection (with_documents c (placed d c.documents))
with_placed ns d c old e =
    let parts = none_of (first_refusal (no_key ns d) c.indexes) (first_refusal (taken_key ns c.documents d) c.indexes) e in
    record {
      rising = rising_placed d c.documents (id_untaken ns c.documents d c.indexes old.others old.first parts.1) old.rising;
      others = old.others;
      first = old.first;
      few = old.few;
      named = old.named;
      kept = placed_all ns c.indexes d c.documents parts.0 parts.1 old.kept;
    }

with_replaced : (ns : List ℕ) (new : Elements) (c : Collection) → IsCollection c → keys_refusal ns c.indexes (without_id (id_of new) c.documents) new ≡ None → IsCollection (with_documents c (replaced new c.documents))
with_replaced ns new c old e =
    let others = without_id (id_of new) c.documents in
    let parts = none_of (first_refusal (no_key ns new) c.indexes) (first_refusal (taken_key ns others new) c.indexes) e in
    record {
      rising = rising_replaced new c.documents old.rising;
      others = old.others;
      first = old.first;
      few = old.few;
      named = old.named;
      kept = replaced_all ns c.indexes new c.documents old.rising parts.0 parts.1 old.kept;
    }

-- ---- one command after the other

abbrev OkHas : Result Collection Reply → Type 0
OkHas (Ok c) = IsCollection c
OkHas (Err r) = Unit {0}

put_back-has : (ns : List ℕ) (c : Collection) (new : Elements) (r : Option Reply) → keys_refusal ns c.indexes (without_id (id_of new) c.documents) new ≡ r → IsCollection c → OkHas (put_back c new r)
put_back-has ns c new (Some r) e old = tt
put_back-has ns c new None e old = with_replaced ns new c old e

made-has : (ns : List ℕ) (change old : Elements) (c : Collection) (r : Result Elements ChangeFault) → changed (plan change) old ≡ r → form change ≡ None → IsCollection c → OkHas (made_of ns c old r)
made-has ns change old c (Err fault) e formed is = tt
made-has ns change old c (Ok new) e formed is =
    let same : id_of new ≡ id_of old = ap or_null (keeps_the_id change old new formed e) in
    put_back-has ns c new (keys_refusal ns c.indexes (without_id (id_of old) c.documents) new)
    (ap (λ id. keys_refusal ns c.indexes (without_id id c.documents) new) same) is

go_on-has : (ns : List ℕ) (change : Elements) (others : List Elements) (r : Result Collection Reply) → ((c : Collection) → IsCollection c → OkHas (all_changed ns change others c))
    → OkHas r → OkHas (go_on (all_changed ns change others) r)
go_on-has ns change others (Ok c) onward is = onward c is
go_on-has ns change others (Err r) onward is = tt

changed-has : (ns : List ℕ) (change : Elements) (ds : List Elements) → form change ≡ None → (c : Collection) → IsCollection c → OkHas (all_changed ns change ds c)
changed-has ns change [] formed c is = is
changed-has ns change (old ∷ others) formed c is =
    go_on-has ns change others (one_changed ns change old c) (changed-has ns change others formed) (made-has ns change old c (changed (plan change) old) refl formed is)

-- ---- outcomes

-- the collection that is there then
abbrev Stays : Reply → Option Collection → Type 0
Stays r x = (c : Collection) → x ≡ Some c → IsCollection c

abbrev Keeps : Outcome → Type 0
Keeps o = DoneHas Stays o

stays : (r : Reply) (c : Collection) → IsCollection c → Stays r (Some c)
stays r c is d e = let same : c ≡ d = cc in subst IsCollection same is

unless-keeps : (r : Option Reply) (o : Outcome) → (r ≡ None → Keeps o) → Keeps (unless r o)
unless-keeps None o h = h refl
unless-keeps (Some r) o h = tt

new_is : IsCollection new_collection
new_is = record {
  rising = tt;
  others = [];
  first = refl;
  few = omega arith;
  named = (refl, tt);
  kept = (record { keyed = tt; apart = λ unique. tt }, tt);
}

pub or_new_is : (was : Option Collection) → ((c : Collection) → was ≡ Some c → IsCollection c) → IsCollection (or_new was)
or_new_is None is = new_is
or_new_is (Some c) is = is c refl

inserted-keeps : (ns : List ℕ) (d : Elements) (c : Collection) → IsCollection c
    → Keeps (unless (or_else (too_large d) (or_else (array_id d) (keys_refusal ns c.indexes c.documents d))) (done (Done 1) (Some (with_documents c (placed d c.documents)))))
inserted-keeps ns d c is = unless-keeps _ _ (λ e.
    let parts = none_of (too_large d) (or_else (array_id d) (keys_refusal ns c.indexes c.documents d)) e in
    let keys = (none_of (array_id d) (keys_refusal ns c.indexes c.documents d) parts.1).1 in
    stays (Done 1) (with_documents c (placed d c.documents)) (with_placed ns d c is keys))

found-keeps : (f : Elements) (index : Option (List ℕ)) (was : Option Collection) → Keeps (found_in f index was)
found-keeps f None None = tt
found-keeps f None (Some c) = tt
found-keeps f (Some name) None = tt
found-keeps f (Some name) (Some c) = by (index_named name c.indexes)
  where
    by : (o : Option Index) → Keeps (found_by name f c o)
    by None = tt
    by (Some index) = tt

counted-keeps : (n : ℕ) (r : Result Collection Reply) → OkHas r → Keeps (counted n r)
counted-keeps n (Ok c) is = stays (Done n) c is
counted-keeps n (Err r) is = tt

updated-keeps : (ns : List ℕ) (f change : Elements) (multi : Bool) (was : Option Collection) → form change ≡ None → ((c : Collection) → was ≡ Some c → IsCollection c) → Keeps (updated_in ns f change multi was)
updated-keeps ns f change multi None formed is = tt
updated-keeps ns f change multi (Some c) formed is =
    let ds = first_or_all (not multi) (selected f c.documents) in counted-keeps (length ds) (all_changed ns change ds c) (changed-has ns change ds formed c (is c refl))

removed-keeps : (f : Elements) (one : Bool) (was : Option Collection) → ((c : Collection) → was ≡ Some c → IsCollection c) → Keeps (removed_from f one was)
removed-keeps f one None is = tt
removed-keeps f one (Some c) is =
    let gone = first_or_all one (selected f c.documents) in
    let old = is c refl in
    stays (Done (length gone)) (with_documents c (without_all gone c.documents)) (record {
      rising = rising_without_all gone c.documents old.rising;
      others = old.others;
      first = old.first;
      few = old.few;
      named = old.named;
      kept = indexes_without_all c.indexes gone c.documents old.kept;
    })

created-keeps : (was : Option Collection) → Keeps (created was)
created-keeps None = stays (Done 1) new_collection new_is
created-keeps (Some c) = tt

dropped-keeps : (coll : List ℕ) (was : Option Collection) → Keeps (dropped coll was)
dropped-keeps coll None = tt
dropped-keeps coll (Some c) = λ d e. absurd cc

-- ---- an index comes

built_keyed : (ns : List ℕ) (i : Index) (before ds : List Elements) → build_refusal ns i before ds ≡ None → AllKeyed i ds
built_keyed ns i before [] e = tt
built_keyed ns i before (d ∷ ds) e =
    let parts = none_of (keys_refusal ns (i ∷ []) before d) (build_refusal ns i (before ++ d ∷ []) ds) e in
    let key = (none_of (first_refusal (no_key ns d) (i ∷ [])) (first_refusal (taken_key ns before d) (i ∷ [])) parts.0).0 in
    (has_key ns d i (none_of (no_key ns d i) None key).0, built_keyed ns i (before ++ d ∷ []) ds parts.1)

apart_pushed : (spec e d : Elements) (ds : List Elements) → same_key spec e d ≡ false → AllApart spec e ds → AllApart spec e (ds ++ d ∷ [])
apart_pushed spec e d [] h apart = (h, tt)
apart_pushed spec e d (x ∷ xs) h apart = (apart.0, apart_pushed spec e d xs h apart.1)

all_apart_pushed : (spec d : Elements) (ds : List Elements) → list_any (λ o. same_key spec o d) ds ≡ false → AreApart spec ds → AreApart spec (ds ++ d ∷ [])
all_apart_pushed spec d [] none apart = (tt, tt)
all_apart_pushed spec d (x ∷ xs) none apart =
    let parts = or_false (same_key spec x d) (list_any (λ o. same_key spec o d) xs) none in
    (apart_pushed spec x d xs parts.0 apart.0, all_apart_pushed spec d xs parts.1 apart.1)

built_apart : (ns : List ℕ) (i : Index) (before ds : List Elements) → i.unique ≡ true → build_refusal ns i before ds ≡ None → AreApart i.spec before → AreApart i.spec (before ++ ds)
built_apart ns i before [] unique e apart = subst (AreApart i.spec) (sym (append-nil before)) apart
built_apart ns i before (d ∷ ds) unique e apart =
    let parts = none_of (keys_refusal ns (i ∷ []) before d) (build_refusal ns i (before ++ d ∷ []) ds) e in
    let taken = (none_of (first_refusal (no_key ns d) (i ∷ [])) (first_refusal (taken_key ns before d) (i ∷ [])) parts.0).1 in
    let none = not_taken ns before d i (none_of (taken_key ns before d i) None taken).0 unique in
    subst (AreApart i.spec) (append_assoc before (d ∷ []) ds) (built_apart ns i (before ++ d ∷ []) ds unique parts.1 (all_apart_pushed i.spec d before none apart))

index_built : (ns : List ℕ) (i : Index) (ds : List Elements) → build_refusal ns i [] ds ≡ None → Indexes ds i
index_built ns i ds e = record { keyed = built_keyed ns i [] ds e; apart = λ unique. built_apart ns i [] ds unique e tt }

kept_pushed : (ds : List Elements) (is : List Index) (i : Index) → AllIndex ds is → Indexes ds i → AllIndex ds (is ++ i ∷ [])
kept_pushed ds [] i old new = (new, tt)
kept_pushed ds (x ∷ xs) i old new = (old.0, kept_pushed ds xs i old.1 new)

same_name : (a b : List ℕ) → bytes_eq a b ≡ true → a ≡ b
same_name a b e = (bytes_decides a b).0 e

name_back : (a b : List ℕ) (x : Bool) → bytes_eq a b ≡ false → bytes_eq b a ≡ x → x ≡ false
name_back a b false other e = refl
name_back a b true other e = absurd (let one : bytes_eq a b ≡ true = (bytes_decides a b).1 (sym (same_name b a e)) in cc)

-- the name isn't among these
abbrev NotNamed : List ℕ → List Index → Type 0
NotNamed name is = index_named name is ≡ None

not_named : (name : List ℕ) (i : Index) (is : List Index) → NotNamed name (i ∷ is) → (bytes_eq i.name name ≡ false) × NotNamed name is
not_named name i is e = by (bytes_eq i.name name) e
  where
    by : (b : Bool) → (if b then Some i else index_named name is) ≡ None → (b ≡ false) × NotNamed name is
    by true h = absurd cc
    by false h = (refl, h)

named_pushed : (name : List ℕ) (is : List Index) (i : Index) → bytes_eq i.name name ≡ false → NotNamed name is → NotNamed name (is ++ i ∷ [])
named_pushed name [] i other none = rw other refl
named_pushed name (x ∷ xs) i other none =
    let parts = not_named name x xs none in rw parts.0 (named_pushed name xs i other parts.1)

all_named_pushed : (is : List Index) (i : Index) → NotNamed i.name is → AreNamed is → AreNamed (is ++ i ∷ [])
all_named_pushed [] i none named = (refl, tt)
all_named_pushed (x ∷ xs) i none named =
    let parts = not_named i.name x xs none in
    (named_pushed x.name xs i (name_back x.name i.name (bytes_eq i.name x.name) parts.0 refl) named.0, all_named_pushed xs i parts.1 named.1)

with_index : (ns : List ℕ) (i : Index) (c : Collection) → IsCollection c → NotNamed i.name c.indexes → nat_lt (length c.indexes) 10 ≡ true → build_refusal ns i [] c.documents ≡ None
    → IsCollection (with_indexes c (c.indexes ++ i ∷ []))
with_index ns i c is none few built = record {
  rising = is.rising;
  others = is.others ++ i ∷ [];
  first = ap (λ (l : List Index). l ++ i ∷ []) is.first;
  few = grind (arith, nat_tests, length-append, few);
  named = all_named_pushed c.indexes i none is.named;
  kept = kept_pushed c.documents c.indexes i is.kept (index_built ns i c.documents built);
}

indexed-keeps : (ns : List ℕ) (i : Index) (c : Collection) → IsCollection c → NotNamed i.name c.indexes → Keeps (indexed ns i c)
indexed-keeps ns i c is none = by (nat_lt (length c.indexes) 10) refl
  where
    made : Collection
    made = with_indexes c (c.indexes ++ i ∷ [])

    by : (b : Bool) → nat_lt (length c.indexes) 10 ≡ b → Keeps (if b then unless (build_refusal ns i [] c.documents) (done (Done 1) (Some (with_indexes c (c.indexes ++ i ∷ [])))) else refused TooManyIndexes)
    by true few = unless-keeps (build_refusal ns i [] c.documents) (done (Done 1) (Some (with_indexes c (c.indexes ++ i ∷ [])))) (λ built. stays (Done 1) _ (with_index ns i c is none few built))
    by false few = tt

ensured-keeps : (ns name : List ℕ) (spec : Elements) (unique : Bool) (c : Collection) (o : Option Index) → index_named name c.indexes ≡ o → IsCollection c → Keeps (ensured ns name spec unique c o)
ensured-keeps ns name spec unique c (Some index) e is = by (same_index spec unique index)
  where
    by : (b : Bool) → Keeps (if b then answered (Done 0) else refused (IndexDiffers name))
    by true = tt
    by false = tt
ensured-keeps ns name spec unique c None e is = indexed-keeps ns (record { name = name; spec = spec; unique = unique }) c is e

-- ---- an index goes

kept_less : (name : List ℕ) (ds : List Elements) (is : List Index) → AllIndex ds is → AllIndex ds (without_index name is)
kept_less name ds [] kept = tt
kept_less name ds (i ∷ is) kept = by (bytes_eq i.name name) (kept_less name ds is kept.1)
  where
    by : (b : Bool) → AllIndex ds (without_index name is) → AllIndex ds (if b then is else i ∷ without_index name is)
    by true rest = kept.1
    by false rest = (kept.0, rest)

not_named_less : (n name : List ℕ) (is : List Index) → NotNamed n is → NotNamed n (without_index name is)
not_named_less n name [] none = refl
not_named_less n name (i ∷ is) none =
    let parts = not_named n i is none in by parts.0 parts.1 (not_named_less n name is parts.1) (bytes_eq i.name name)
  where
    by : bytes_eq i.name n ≡ false → NotNamed n is → NotNamed n (without_index name is) → (b : Bool) → NotNamed n (if b then is else i ∷ without_index name is)
    by other all rest true = all
    by other all rest false = rw other rest

named_less : (name : List ℕ) (is : List Index) → AreNamed is → AreNamed (without_index name is)
named_less name [] named = tt
named_less name (i ∷ is) named = by (bytes_eq i.name name) (named_less name is named.1)
  where
    by : (b : Bool) → AreNamed (without_index name is) → AreNamed (if b then is else i ∷ without_index name is)
    by true rest = named.1
    by false rest = (not_named_less i.name name is named.0, rest)

fewer : (name : List ℕ) (is : List Index) → length (without_index name is) ≤ length is
fewer name [] = omega arith
fewer name (i ∷ is) = by (bytes_eq i.name name) (fewer name is)
  where
    by : (b : Bool) → length (without_index name is) ≤ length is → length (if b then is else i ∷ without_index name is) ≤ length (i ∷ is)
    by true h = omega arith
    by false h = omega (arith, h)

first_stays : (name : List ℕ) (is others : List Index) → bytes_eq name (codes "_id_") ≡ false → is ≡ id_index ∷ others → without_index name is ≡ id_index ∷ without_index name others
first_stays name is others other same =
    ap (without_index name) same ∙ rw (name_back name (codes "_id_") (bytes_eq (codes "_id_") name) other refl) refl

taken_out-keeps : (name : List ℕ) (c : Collection) (o : Option Index) → IsCollection c → Keeps (taken_out name c o)
taken_out-keeps name c None is = tt
taken_out-keeps name c (Some index) is = by (bytes_eq name (codes "_id_")) refl
  where
    by : (b : Bool) → bytes_eq name (codes "_id_") ≡ b → Keeps (if b then refused IdIndex else done (Done 1) (Some (with_indexes c (without_index name c.indexes))))
    by true e = tt
    by false e = stays (Done 1) (with_indexes c (without_index name c.indexes)) (record {
      rising = is.rising;
      others = without_index name is.others;
      first = first_stays name c.indexes is.others e is.first;
      few = omega (arith, fewer name c.indexes, is.few);
      named = named_less name c.indexes is.named;
      kept = kept_less name c.documents c.indexes is.kept;
    })

index_dropped-keeps : (coll name : List ℕ) (was : Option Collection) → ((c : Collection) → was ≡ Some c → IsCollection c) → Keeps (index_dropped_from coll name was)
index_dropped-keeps coll name None is = tt
index_dropped-keeps coll name (Some c) is = taken_out-keeps name c (index_named name c.indexes) (is c refl)

-- ---- all commands

no_fault : (change : Elements) (o : Option ChangeFault) → option_map change_reply o ≡ None → o ≡ None
no_fault change None e = refl
no_fault change (Some f) e = absurd cc

outcome-keeps : (ns : List ℕ) (c : Command) (was : Option Collection) → ((x : Collection) → was ≡ Some x → IsCollection x) → Keeps (outcome ns c was)
outcome-keeps ns (Insert coll doc) was is = inserted-keeps ns doc (or_new was) (or_new_is was is)
outcome-keeps ns (Find coll f index) was is = unless-keeps (filter_refusal f) (found_in f index was) (λ e. found-keeps f index was)
outcome-keeps ns (Update coll f change multi) was is = unless-keeps (or_else (filter_refusal f) (change_refusal change)) (updated_in ns f change multi was)
    (λ e. updated-keeps ns f change multi was (no_fault change (form change) (none_of (filter_refusal f) (change_refusal change) e).1) is)
outcome-keeps ns (Remove coll f one) was is = unless-keeps (filter_refusal f) (removed_from f one was) (λ e. removed-keeps f one was is)
outcome-keeps ns (Create coll) was is = created-keeps was
outcome-keeps ns (Drop coll) was is = dropped-keeps coll was
outcome-keeps ns (EnsureIndex coll name spec unique) was is = ensured-keeps ns name spec unique (or_new was) (index_named name (or_new was).indexes) refl (or_new_is was is)
outcome-keeps ns (DropIndex coll name) was is = index_dropped-keeps coll name was is

-- ---- the database

kept_with : (coll : List ℕ) (x : Option Collection) (db : Database) → IsDatabase db → ((c : Collection) → x ≡ Some c → IsCollection c) → IsDatabase (with_collection coll x db)
kept_with coll x db is new q c e = by (eq_by_cmp (slice_cmp nat_cmp) q coll) (sym (get-with coll x db q) ∙ e)
  where
    by : (b : Bool) → cond b x (get db q) ≡ Some c → IsCollection c
    by true h = new c h
    by false h = is q c h

kept_if : (b : Bool) (r : Reply) (old new : Database) → IsDatabase old → IsDatabase new → IsDatabase (unless_full b old r new).1
kept_if true r old new was is = was
kept_if false r old new was is = is

settled-is : (nodes : ℕ) (coll : List ℕ) (db : Database) (o : Outcome) → IsDatabase db → Keeps o → IsDatabase (settled nodes coll db o).1
settled-is nodes coll db (refused r) is keeps = is
settled-is nodes coll db (answered r) is keeps = is
settled-is nodes coll db (done r x) is keeps =
    kept_if (nat_lt nodes (nodes_in (with_collection coll x db))) r db (with_collection coll x db) is (kept_with coll x db is keeps)

pub databases_stay : DatabasesStay
databases_stay name nodes db c is =
    let coll = collection_of c in
    settled-is nodes coll db (outcome (namespace name coll) c (get db coll)) is (outcome-keeps (namespace name coll) c (get db coll) (is coll))
