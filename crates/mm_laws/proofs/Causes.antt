-- What a command makes of its collection is refused for any cause but want of nodes.
use Rattle.std.proofs.Common.{◌≡◌, ℕ, Bool, true, false, not, List, [], ◌∷◌, ◌++◌, Option, Some, None, Result, Ok, Err, refl, length, ◌&&◌}
use Rattle.std.specs.Prelude.{if◌then◌else◌, nat_lt, codes, option_map}
use Rattle.std.specs.List.{list_any}
use Rattle.std.specs.Str.{bytes_eq}
use Rattle.mm_bson.specs.Tree.{Elements}
use Rattle.mm_bson.specs.Spelling.{spelling}
use Rattle.mm_keys.specs.Key.{key, key_len}
use Rattle.mm_query.specs.Form.{wrong_filter}
use Rattle.mm_update.specs.declared.fault.ChangeFault.{ChangeFault}
use Rattle.mm_update.specs.declared.fault.ChangeFault.TheVariants.{BadChange as WrongChange, ChangesId as ForId, NotNumber as NoNumber, IncOverflow as Overflow, TooLong, TooDeep, NoMemory}
use Rattle.mm_update.specs.Form.{form}
use Rattle.mm_update.specs.Edit.{plan}
use Rattle.mm_update.specs.Changed.{changed}
use Rattle.mm_model.specs.declared.command.Command.{Command}
use Rattle.mm_model.specs.declared.command.Command.TheVariants.{Insert, Find, Update, Remove, Create, Drop, EnsureIndex, DropIndex}
use Rattle.mm_model.specs.declared.reply.Reply.{Reply}
use Rattle.mm_model.specs.declared.reply.Reply.TheVariants.{Done, DocTooLarge, IdArray, BadOperator, IdIndex, IndexDiffers, TooManyIndexes, ArrayKey, KeyTooLong, Duplicate, NsFull}
use Rattle.mm_model.specs.Database.{Index, Collection, id_of, or_new, selected}
use Rattle.mm_model.specs.Keyed.{full_name, or_else, first_refusal, is_array, has_array, no_key, same_key, taken_key, keys_refusal, too_large, array_id, without_id}
use Rattle.mm_model.specs.Commands.{Outcome, refused, answered, done, unless, placed, with_documents, with_indexes, first_or_all, index_named, without_index, filter_refusal, change_reply, change_refusal, found_by, found_in, put_back, made_of, one_changed, go_on, all_changed, counted, updated_in, removed_from, created, dropped, same_index, build_refusal, ensured, taken_out, index_dropped_from, outcome}

abbrev pub is_full : Reply → Bool
is_full NsFull = true
is_full _ = false

-- no refusal, or one for another cause
abbrev Other : Option Reply → Type 0
Other None = Unit {0}
Other (Some r) = is_full r ≡ false

or_else-other : (a b : Option Reply) → Other a → Other b → Other (or_else a b)
or_else-other None b p q = q
or_else-other (Some r) b p q = p

if-other : (b : Bool) (x y : Option Reply) → Other x → Other y → Other (if b then x else y)
if-other true x y p q = p
if-other false x y p q = q

first-other : {X : Type 0} (refuse : X → Option Reply) → ((x : X) → Other (refuse x)) → (xs : List X) → Other (first_refusal refuse xs)
first-other refuse each [] = tt
first-other refuse each (x ∷ xs) = or_else-other (refuse x) (first_refusal refuse xs) (each x) (first-other refuse each xs)

-- ---- keys

no_key-other : (ns : List ℕ) (d : Elements) (i : Index) → Other (no_key ns d i)
no_key-other ns d i =
    if-other (has_array d i.spec) (Some (ArrayKey (full_name ns i))) _ refl (if-other (nat_lt 1024 (key_len d i.spec)) (Some (KeyTooLong (full_name ns i) (key_len d i.spec))) None refl tt)

taken_key-other : (ns : List ℕ) (others : List Elements) (d : Elements) (i : Index) → Other (taken_key ns others d i)
taken_key-other ns others d i = if-other (i.unique && list_any (λ o. same_key i.spec o d) others) (Some (Duplicate (full_name ns i) (key d i.spec))) None refl tt

keys-other : (ns : List ℕ) (is : List Index) (others : List Elements) (d : Elements) → Other (keys_refusal ns is others d)
keys-other ns is others d =
    or_else-other (first_refusal (no_key ns d) is) (first_refusal (taken_key ns others d) is) (first-other (no_key ns d) (no_key-other ns d) is) (first-other (taken_key ns others d) (taken_key-other ns others d) is)

build-other : (ns : List ℕ) (i : Index) (before ds : List Elements) → Other (build_refusal ns i before ds)
build-other ns i before [] = tt
build-other ns i before (d ∷ ds) =
    or_else-other (keys_refusal ns (i ∷ []) before d) (build_refusal ns i (before ++ d ∷ []) ds) (keys-other ns (i ∷ []) before d) (build-other ns i (before ++ d ∷ []) ds)

-- ---- filters and changes

filter-other : (f : Elements) → Other (filter_refusal f)
filter-other f = by (wrong_filter f)
  where
    by : (o : Option (List ℕ)) → Other (option_map (λ name. BadOperator name) o)
    by None = tt
    by (Some name) = refl

fault-other : (fault : ChangeFault) → is_full (change_reply fault) ≡ false
fault-other (WrongChange name) = refl
fault-other ForId = refl
fault-other (NoNumber path) = refl
fault-other (Overflow path) = refl
fault-other (TooLong len) = refl
fault-other TooDeep = refl
fault-other NoMemory = refl

change-other : (change : Elements) → Other (change_refusal change)
change-other change = by (form change)
  where
    by : (o : Option ChangeFault) → Other (option_map change_reply o)
    by None = tt
    by (Some fault) = fault-other fault

abbrev ErrOther : Result Collection Reply → Type 0
ErrOther (Ok c) = Unit {0}
ErrOther (Err r) = is_full r ≡ false

put_back-other : (c : Collection) (new : Elements) (r : Option Reply) → Other r → ErrOther (put_back c new r)
put_back-other c new None h = tt
put_back-other c new (Some r) h = h

made-other : (ns : List ℕ) (c : Collection) (old : Elements) (r : Result Elements ChangeFault) → ErrOther (made_of ns c old r)
made-other ns c old (Err fault) = fault-other fault
made-other ns c old (Ok new) = put_back-other c new (keys_refusal ns c.indexes (without_id (id_of old) c.documents) new) (keys-other ns c.indexes (without_id (id_of old) c.documents) new)

go_on-other : (onward : Collection → Result Collection Reply) (r : Result Collection Reply) → ((c : Collection) → ErrOther (onward c)) → ErrOther r → ErrOther (go_on onward r)
go_on-other onward (Ok c) each h = each c
go_on-other onward (Err r) each h = h

all_changed-other : (ns : List ℕ) (change : Elements) (ds : List Elements) (c : Collection) → ErrOther (all_changed ns change ds c)
all_changed-other ns change [] c = tt
all_changed-other ns change (old ∷ others) c =
    go_on-other (all_changed ns change others) (one_changed ns change old c) (all_changed-other ns change others) (made-other ns c old (changed (plan change) old))

-- ---- commands

-- the command is answered by something else than want of nodes
abbrev pub AnswersOther : Outcome → Type 0
AnswersOther (refused r) = is_full r ≡ false
AnswersOther (answered r) = is_full r ≡ false
AnswersOther (done r x) = is_full r ≡ false

unless-other : (r : Option Reply) (o : Outcome) → Other r → AnswersOther o → AnswersOther (unless r o)
unless-other None o h p = p
unless-other (Some r) o h p = h

found_by-other : (name : List ℕ) (f : Elements) (c : Collection) (o : Option Index) → AnswersOther (found_by name f c o)
found_by-other name f c None = refl
found_by-other name f c (Some index) = refl

found-other : (f : Elements) (index : Option (List ℕ)) (was : Option Collection) → AnswersOther (found_in f index was)
found-other f None None = refl
found-other f None (Some c) = refl
found-other f (Some name) None = refl
found-other f (Some name) (Some c) = found_by-other name f c (index_named name c.indexes)

counted-other : (n : ℕ) (c : Result Collection Reply) → ErrOther c → AnswersOther (counted n c)
counted-other n (Ok c) h = refl
counted-other n (Err r) h = h

updated-other : (ns : List ℕ) (f change : Elements) (multi : Bool) (was : Option Collection) → AnswersOther (updated_in ns f change multi was)
updated-other ns f change multi None = refl
updated-other ns f change multi (Some c) =
    let ds = first_or_all (not multi) (selected f c.documents) in counted-other (length ds) (all_changed ns change ds c) (all_changed-other ns change ds c)

removed-other : (f : Elements) (one : Bool) (was : Option Collection) → AnswersOther (removed_from f one was)
removed-other f one None = refl
removed-other f one (Some c) = refl

created-other : (was : Option Collection) → AnswersOther (created was)
created-other None = refl
created-other (Some c) = refl

dropped-other : (coll : List ℕ) (was : Option Collection) → AnswersOther (dropped coll was)
dropped-other coll None = refl
dropped-other coll (Some c) = refl

indexed-other : (ns : List ℕ) (index : Index) (c : Collection) (b : Bool)
    → AnswersOther (if b then unless (build_refusal ns index [] c.documents) (done (Done 1) (Some (with_indexes c (c.indexes ++ index ∷ [])))) else refused TooManyIndexes)
indexed-other ns index c true = unless-other (build_refusal ns index [] c.documents) (done (Done 1) (Some (with_indexes c (c.indexes ++ index ∷ [])))) (build-other ns index [] c.documents) refl
indexed-other ns index c false = refl

ensured-other : (ns name : List ℕ) (spec : Elements) (unique : Bool) (c : Collection) (o : Option Index) → AnswersOther (ensured ns name spec unique c o)
ensured-other ns name spec unique c (Some index) = either (same_index spec unique index)
  where
    either : (b : Bool) → AnswersOther (if b then answered (Done 0) else refused (IndexDiffers name))
    either true = refl
    either false = refl
ensured-other ns name spec unique c None = indexed-other ns (record { name = name; spec = spec; unique = unique }) c (nat_lt (length c.indexes) 10)

taken_out-other : (name : List ℕ) (c : Collection) (o : Option Index) → AnswersOther (taken_out name c o)
taken_out-other name c None = refl
taken_out-other name c (Some index) = either (bytes_eq name (codes "_id_"))
  where
    either : (b : Bool) → AnswersOther (if b then refused IdIndex else done (Done 1) (Some (with_indexes c (without_index name c.indexes))))
    either true = refl
    either false = refl

index_dropped-other : (coll name : List ℕ) (was : Option Collection) → AnswersOther (index_dropped_from coll name was)
index_dropped-other coll name None = refl
index_dropped-other coll name (Some c) = taken_out-other name c (index_named name c.indexes)

insert-other : (ns : List ℕ) (d : Elements) (c : Collection) → Other (or_else (too_large d) (or_else (array_id d) (keys_refusal ns c.indexes c.documents d)))
insert-other ns d c =
    or_else-other (too_large d) (or_else (array_id d) (keys_refusal ns c.indexes c.documents d)) (if-other (nat_lt 0x100_0000 (length (spelling d))) (Some (DocTooLarge (length (spelling d)))) None refl tt)
    (or_else-other (array_id d) (keys_refusal ns c.indexes c.documents d) (if-other (is_array (id_of d)) (Some IdArray) None refl tt) (keys-other ns c.indexes c.documents d))

pub outcome-other : (ns : List ℕ) (c : Command) (was : Option Collection) → AnswersOther (outcome ns c was)
outcome-other ns (Insert coll doc) was =
    unless-other (or_else (too_large doc) (or_else (array_id doc) (keys_refusal ns (or_new was).indexes (or_new was).documents doc))) (done (Done 1) (Some (with_documents (or_new was) (placed doc (or_new was).documents))))
    (insert-other ns doc (or_new was)) refl
outcome-other ns (Find coll f index) was = unless-other (filter_refusal f) (found_in f index was) (filter-other f) (found-other f index was)
outcome-other ns (Update coll f change multi) was =
    unless-other (or_else (filter_refusal f) (change_refusal change)) (updated_in ns f change multi was) (or_else-other (filter_refusal f) (change_refusal change) (filter-other f) (change-other change)) (updated-other ns f change multi was)
outcome-other ns (Remove coll f one) was = unless-other (filter_refusal f) (removed_from f one was) (filter-other f) (removed-other f one was)
outcome-other ns (Create coll) was = created-other was
outcome-other ns (Drop coll) was = dropped-other coll was
outcome-other ns (EnsureIndex coll name spec unique) was = ensured-other ns name spec unique (or_new was) (index_named name (or_new was).indexes)
outcome-other ns (DropIndex coll name) was = index_dropped-other coll name was
