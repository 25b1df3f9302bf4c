-- The number in a reply is that of the documents found.
use Rattle.std.proofs.Common.{◌≡◌, ℕ, ◌+◌, suc, Bool, true, false, not, List, [], ◌∷◌, Option, Some, None, Result, Ok, Err, length, refl, sym, ap, ◌∙◌, arith, ◌&&◌}
use Rattle.std.specs.Prelude.{if◌then◌else◌, count_by, nat_lt, option_map}
use Rattle.std.specs.List.{list_any}
use Rattle.std.specs.Ordering.{is_lt}
use Rattle.std.specs.FinMap.{get}
use Rattle.std.proofs.lemmas.List.Sums.{length-filter}
use Rattle.mm_bson.specs.Tree.{Elements}
use Rattle.mm_keys.specs.Key.{key, key_len}
use Rattle.mm_keys.specs.KeyOrder.{key_compare}
use Rattle.mm_query.specs.Form.{wrong_filter}
use Rattle.mm_update.specs.declared.fault.ChangeFault.{ChangeFault}
use Rattle.mm_update.specs.declared.fault.ChangeFault.TheVariants.{BadChange as WrongChange, ChangesId as ForId, NotNumber as NoNumber, IncOverflow as Overflow, TooLong, TooDeep, NoMemory}
use Rattle.mm_update.specs.Form.{form}
use Rattle.mm_update.specs.Edit.{plan}
use Rattle.mm_update.specs.Changed.{changed}
use Rattle.mm_model.specs.declared.reply.Reply.{Reply}
use Rattle.mm_model.specs.declared.reply.Reply.TheVariants.{Done, Found, NsFull, BadOperator, KeyTooLong, Duplicate}
use Rattle.mm_query.specs.Selection.{selects}
use Rattle.mm_model.specs.Database.{selected}
use Rattle.mm_model.specs.Database.{Index, Collection, Database, nodes_in, id_of}
use Rattle.mm_model.specs.Keyed.{namespace, full_name, or_else, first_refusal, has_array, no_key, same_key, taken_key, keys_refusal, without_id}
use Rattle.mm_model.specs.Commands.{Outcome, refused, answered, done, unless, placed_by_key, by_key_onto, by_key, first_or_all, index_named, filter_refusal, change_reply, change_refusal, found_in, found_by, put_back, made_of, one_changed, go_on, all_changed, counted, updated_in, removed_from}
use Rattle.mm_model.specs.After.{unless_full, with_collection, settled}
use Rattle.mm_model.specs.Laws.{is_ok, documents_in, matching, capped, FindCounts, RemoveCounts, UpdateCounts}

placed_count : (spec d : Elements) (ds : List Elements) → length (placed_by_key spec d ds) ≡ suc (length ds)
placed_count spec d [] = refl
placed_count spec d (e ∷ es) = by (is_lt (key_compare spec (key d spec) (key e spec))) (placed_count spec d es)
  where
    by : (b : Bool) → length (placed_by_key spec d es) ≡ suc (length es) → length (if b then d ∷ e ∷ es else e ∷ placed_by_key spec d es) ≡ suc (length (e ∷ es))
    by true h = refl
    by false h = ap suc h

sorted_count : (spec : Elements) (sorted ds : List Elements) → length (by_key_onto spec sorted ds) ≡ length sorted + length ds
sorted_count spec sorted [] = omega arith
sorted_count spec sorted (d ∷ ds) = omega (arith, sorted_count spec (placed_by_key spec d sorted) ds, placed_count spec d sorted)

by_key_count : (spec : Elements) (ds : List Elements) → length (by_key spec ds) ≡ length ds
by_key_count spec ds = omega (arith, sorted_count spec [] ds)

capped_count : (one : Bool) (ds : List Elements) → length (first_or_all one ds) ≡ capped one (length ds)
capped_count true [] = refl
capped_count true (d ∷ ds) = refl
capped_count false ds = refl

chosen_count : (one : Bool) (f : Elements) (ds : List Elements) → length (first_or_all one (selected f ds)) ≡ capped one (count_by (selects f) ds)
chosen_count one f ds = capped_count one (selected f ds) ∙ ap (capped one) (length-filter (selects f) ds)

-- ---- a fact of the reply

abbrev ReplyHas : (Reply → Type 0) → Outcome → Type 0
ReplyHas P (refused r) = P r
ReplyHas P (answered r) = P r
ReplyHas P (done r x) = P r

reply_if : (P : Reply → Type 0) (b : Bool) (r : Reply) (old new : Database) → P NsFull → P r → P (unless_full b old r new).0
reply_if P true r old new full h = full
reply_if P false r old new full h = h

reply-has : (P : Reply → Type 0) (nodes : ℕ) (coll : List ℕ) (db : Database) (o : Outcome) → P NsFull → ReplyHas P o → P (settled nodes coll db o).0
reply-has P nodes coll db (refused r) full h = h
reply-has P nodes coll db (answered r) full h = h
reply-has P nodes coll db (done r x) full h = reply_if P (nat_lt nodes (nodes_in (with_collection coll x db))) r db (with_collection coll x db) full h

abbrev Founds : ℕ → Reply → Type 0
Founds n r = (ds : List Elements) → r ≡ Found ds → length ds ≡ n

abbrev Counts : ℕ → Reply → Type 0
Counts n r = (m : ℕ) → r ≡ Done m → m ≡ n

founds : (n : ℕ) (found : List Elements) → length found ≡ n → Founds n (Found found)
founds n found h ds e = let same : found ≡ ds = cc in ap length (sym same) ∙ h

counts : (n m : ℕ) → m ≡ n → Counts n (Done m)
counts n m h k e = let same : m ≡ k = cc in sym same ∙ h

found_by-founds : (name : List ℕ) (f : Elements) (c : Collection) (o : Option Index) → ReplyHas (Founds (count_by (selects f) c.documents)) (found_by name f c o)
found_by-founds name f c None = λ ds e. absurd cc
found_by-founds name f c (Some index) =
    founds _ (by_key index.spec (selected f c.documents)) (by_key_count index.spec (selected f c.documents) ∙ length-filter (selects f) c.documents)

found-founds : (f : Elements) (index : Option (List ℕ)) (was : Option Collection) → ReplyHas (Founds (count_by (selects f) (documents_in was))) (found_in f index was)
found-founds f None None = founds 0 [] refl
found-founds f None (Some c) = founds _ (selected f c.documents) (length-filter (selects f) c.documents)
found-founds f (Some name) None = λ ds e. absurd cc
found-founds f (Some name) (Some c) = found_by-founds name f c (index_named name c.indexes)

-- ---- refusals aren't Ok

abbrev pub NotOk : Option Reply → Type 0
NotOk None = Unit {0}
NotOk (Some r) = is_ok r ≡ false

pub or_else-not : (a b : Option Reply) → NotOk a → NotOk b → NotOk (or_else a b)
or_else-not None b p q = q
or_else-not (Some r) b p q = p

first_refusal-not : {X : Type 0} (refuse : X → Option Reply) → ((x : X) → NotOk (refuse x)) → (xs : List X) → NotOk (first_refusal refuse xs)
first_refusal-not refuse each [] = tt
first_refusal-not refuse each (x ∷ xs) = or_else-not (refuse x) (first_refusal refuse xs) (each x) (first_refusal-not refuse each xs)

pub if-not : (b : Bool) (x y : Option Reply) → NotOk x → NotOk y → NotOk (if b then x else y)
if-not true x y p q = p
if-not false x y p q = q

no_key-not : (ns : List ℕ) (d : Elements) (i : Index) → NotOk (no_key ns d i)
no_key-not ns d i = if-not (has_array d i.spec) _ _ refl (if-not (nat_lt 1024 (key_len d i.spec)) (Some (KeyTooLong (full_name ns i) (key_len d i.spec))) None refl tt)

taken_key-not : (ns : List ℕ) (others : List Elements) (d : Elements) (i : Index) → NotOk (taken_key ns others d i)
taken_key-not ns others d i = if-not (i.unique && list_any (λ o. same_key i.spec o d) others) (Some (Duplicate (full_name ns i) (key d i.spec))) None refl tt

pub keys-not : (ns : List ℕ) (is : List Index) (others : List Elements) (d : Elements) → NotOk (keys_refusal ns is others d)
keys-not ns is others d =
    or_else-not (first_refusal (no_key ns d) is) (first_refusal (taken_key ns others d) is) (first_refusal-not (no_key ns d) (no_key-not ns d) is) (first_refusal-not (taken_key ns others d) (taken_key-not ns others d) is)

filter-not : (f : Elements) → NotOk (filter_refusal f)
filter-not f = by (wrong_filter f)
  where
    by : (o : Option (List ℕ)) → NotOk (option_map (λ name. BadOperator name) o)
    by None = tt
    by (Some name) = refl

pub fault-not : (fault : ChangeFault) → is_ok (change_reply fault) ≡ false
fault-not (WrongChange name) = refl
fault-not ForId = refl
fault-not (NoNumber path) = refl
fault-not (Overflow path) = refl
fault-not (TooLong len) = refl
fault-not TooDeep = refl
fault-not NoMemory = refl

change-not : (change : Elements) → NotOk (change_refusal change)
change-not change = by (form change)
  where
    by : (o : Option ChangeFault) → NotOk (option_map change_reply o)
    by None = tt
    by (Some fault) = fault-not fault

abbrev ErrNot : Result Collection Reply → Type 0
ErrNot (Ok c) = Unit {0}
ErrNot (Err r) = is_ok r ≡ false

put_back-not : (c : Collection) (new : Elements) (r : Option Reply) → NotOk r → ErrNot (put_back c new r)
put_back-not c new None h = tt
put_back-not c new (Some r) h = h

made-not : (ns : List ℕ) (c : Collection) (old : Elements) (r : Result Elements ChangeFault) → ErrNot (made_of ns c old r)
made-not ns c old (Err fault) = fault-not fault
made-not ns c old (Ok new) = put_back-not c new (keys_refusal ns c.indexes (without_id (id_of old) c.documents) new) (keys-not ns c.indexes (without_id (id_of old) c.documents) new)

go_on-not : (onward : Collection → Result Collection Reply) (r : Result Collection Reply) → ((c : Collection) → ErrNot (onward c)) → ErrNot r → ErrNot (go_on onward r)
go_on-not onward (Ok c) each h = each c
go_on-not onward (Err r) each h = h

all_changed-not : (ns : List ℕ) (change : Elements) (ds : List Elements) (c : Collection) → ErrNot (all_changed ns change ds c)
all_changed-not ns change [] c = tt
all_changed-not ns change (old ∷ others) c =
    go_on-not (all_changed ns change others) (one_changed ns change old c) (all_changed-not ns change others) (made-not ns c old (changed (plan change) old))

-- ---- what is counted

not_found : (n : ℕ) (r : Reply) → is_ok r ≡ false → Founds n r
not_found n r h ds e = absurd (let other : is_ok (Found ds) ≡ false = ap is_ok (sym e) ∙ h in cc)

not_done : (n : ℕ) (r : Reply) → is_ok r ≡ false → Counts n r
not_done n r h m e = absurd (let other : is_ok (Done m) ≡ false = ap is_ok (sym e) ∙ h in cc)

unless-reply : (P : Reply → Type 0) (o : Option Reply) (x : Outcome) → ((r : Reply) → is_ok r ≡ false → P r) → NotOk o → ReplyHas P x → ReplyHas P (unless o x)
unless-reply P None x refusal h p = p
unless-reply P (Some r) x refusal h p = refusal r h

counted-counts : (n m : ℕ) (r : Result Collection Reply) → ErrNot r → m ≡ n → ReplyHas (Counts n) (counted m r)
counted-counts n m (Ok c) h same = counts n m same
counted-counts n m (Err r) h same = not_done n r h

none_capped : (one : Bool) → 0 ≡ capped one 0
none_capped true = refl
none_capped false = refl

updated-counts : (ns : List ℕ) (f change : Elements) (multi : Bool) (was : Option Collection) → ReplyHas (Counts (capped (not multi) (count_by (selects f) (documents_in was)))) (updated_in ns f change multi was)
updated-counts ns f change multi None = counts _ 0 (none_capped (not multi))
updated-counts ns f change multi (Some c) =
    let ds = first_or_all (not multi) (selected f c.documents) in
    counted-counts _ (length ds) (all_changed ns change ds c) (all_changed-not ns change ds c) (chosen_count (not multi) f c.documents)

removed-counts : (f : Elements) (one : Bool) (was : Option Collection) → ReplyHas (Counts (capped one (count_by (selects f) (documents_in was)))) (removed_from f one was)
removed-counts f one None = counts _ 0 (none_capped one)
removed-counts f one (Some c) = counts _ (length (first_or_all one (selected f c.documents))) (chosen_count one f c.documents)

pub find_counts : FindCounts
find_counts name nodes db coll f index =
    let n = matching db coll f in
    reply-has (Founds n) nodes coll db (unless (filter_refusal f) (found_in f index (get db coll))) (not_found n NsFull refl)
    (unless-reply (Founds n) (filter_refusal f) (found_in f index (get db coll)) (not_found n) (filter-not f) (found-founds f index (get db coll)))

pub remove_counts : RemoveCounts
remove_counts name nodes db coll f one =
    let n = capped one (matching db coll f) in
    reply-has (Counts n) nodes coll db (unless (filter_refusal f) (removed_from f one (get db coll))) (not_done n NsFull refl)
    (unless-reply (Counts n) (filter_refusal f) (removed_from f one (get db coll)) (not_done n) (filter-not f) (removed-counts f one (get db coll)))

pub update_counts : UpdateCounts
update_counts name nodes db coll f change multi =
    let n = capped (not multi) (matching db coll f) in
    let o = updated_in (namespace name coll) f change multi (get db coll) in
    reply-has (Counts n) nodes coll db (unless (or_else (filter_refusal f) (change_refusal change)) o) (not_done n NsFull refl)
    (unless-reply (Counts n) (or_else (filter_refusal f) (change_refusal change)) o (not_done n) (or_else-not (filter_refusal f) (change_refusal change) (filter-not f) (change-not change)) (updated-counts (namespace name coll) f change multi (get db coll)))
