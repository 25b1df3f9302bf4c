-- What commands leave alone.
use Rattle.std.proofs.Common.{◌≡◌, ℕ, Bool, true, false, not, List, [], ◌∷◌, ◌++◌, Option, Some, None, Result, Ok, Err, refl, length}
use Rattle.std.specs.Prelude.{if◌then◌else◌, nat_lt, codes}
use Rattle.std.specs.Str.{bytes_eq}
use Rattle.std.specs.FinMap.{get}
use Rattle.mm_bson.specs.Tree.{Elements}
use Rattle.mm_model.specs.declared.command.Command.{Command}
use Rattle.mm_model.specs.declared.command.Command.TheVariants.{Insert, Find, Update, Remove, Create, Drop, EnsureIndex, DropIndex}
use Rattle.mm_model.specs.declared.reply.Reply.{Reply}
use Rattle.mm_model.specs.declared.reply.Reply.TheVariants.{Done, IdIndex, TooManyIndexes, IndexDiffers}
use Rattle.mm_model.specs.Database.{selected}
use Rattle.mm_model.specs.Database.{Index, Collection, Database, or_new}
use Rattle.mm_model.specs.Keyed.{namespace, or_else, too_large, array_id, keys_refusal}
use Rattle.mm_model.specs.Commands.{Outcome, refused, answered, done, unless, with_indexes, first_or_all, index_named, without_index, filter_refusal, change_refusal, found_in, found_by, counted, all_changed, updated_in, removed_from, created, dropped, same_index, build_refusal, ensured, taken_out, index_dropped_from, collection_of, outcome}
use Rattle.mm_model.specs.After.{settled}
use Rattle.mm_model.specs.Laws.{is_ok, documents_in, RefusedKeeps, FindKeeps, OthersStay, IndexingKeepsDocuments}
use Rattle.mm_model.proofs.Settled.{DoneHas, refused_keeps, others_stay, documents_stay}

unless-has : (P : Reply → Option Collection → Type 0) (r : Option Reply) (o : Outcome) → DoneHas P o → DoneHas P (unless r o)
unless-has P None o h = h
unless-has P (Some r) o h = tt

-- ---- what is done is answered by ok

abbrev Ok_ : Outcome → Type 0
Ok_ o = DoneHas (λ r x. is_ok r ≡ true) o

found_by-ok : (name : List ℕ) (f : Elements) (c : Collection) (o : Option Index) → Ok_ (found_by name f c o)
found_by-ok name f c None = tt
found_by-ok name f c (Some index) = tt

found-ok : (f : Elements) (index : Option (List ℕ)) (was : Option Collection) → Ok_ (found_in f index was)
found-ok f None None = tt
found-ok f None (Some c) = tt
found-ok f (Some name) None = tt
found-ok f (Some name) (Some c) = found_by-ok name f c (index_named name c.indexes)

counted-ok : (n : ℕ) (c : Result Collection Reply) → Ok_ (counted n c)
counted-ok n (Ok c) = refl
counted-ok n (Err r) = tt

indexed-ok : (ns : List ℕ) (index : Index) (c : Collection) (b : Bool)
    → Ok_ (if b then unless (build_refusal ns index [] c.documents) (done (Done 1) (Some (with_indexes c (c.indexes ++ index ∷ [])))) else refused TooManyIndexes)
indexed-ok ns index c true = unless-has (λ r x. is_ok r ≡ true) (build_refusal ns index [] c.documents) (done (Done 1) (Some (with_indexes c (c.indexes ++ index ∷ [])))) refl
indexed-ok ns index c false = tt

ensured-ok : (ns name : List ℕ) (spec : Elements) (unique : Bool) (c : Collection) (o : Option Index) → Ok_ (ensured ns name spec unique c o)
ensured-ok ns name spec unique c (Some index) = either (same_index spec unique index)
  where
    either : (b : Bool) → Ok_ (if b then answered (Done 0) else refused (IndexDiffers name))
    either true = tt
    either false = tt
ensured-ok ns name spec unique c None = indexed-ok ns (record { name = name; spec = spec; unique = unique }) c (nat_lt (length c.indexes) 10)

taken_out-ok : (name : List ℕ) (c : Collection) (o : Option Index) → Ok_ (taken_out name c o)
taken_out-ok name c None = tt
taken_out-ok name c (Some index) = either (bytes_eq name (codes "_id_"))
  where
    either : (b : Bool) → Ok_ (if b then refused IdIndex else done (Done 1) (Some (with_indexes c (without_index name c.indexes))))
    either true = tt
    either false = refl

updated-ok : (ns : List ℕ) (f change : Elements) (multi : Bool) (was : Option Collection) → Ok_ (updated_in ns f change multi was)
updated-ok ns f change multi None = tt
updated-ok ns f change multi (Some c) =
    let ds = first_or_all (not multi) (selected f c.documents) in counted-ok (length ds) (all_changed ns change ds c)

removed-ok : (f : Elements) (one : Bool) (was : Option Collection) → Ok_ (removed_from f one was)
removed-ok f one None = tt
removed-ok f one (Some c) = refl

created-ok : (was : Option Collection) → Ok_ (created was)
created-ok None = refl
created-ok (Some c) = tt

dropped-ok : (coll : List ℕ) (was : Option Collection) → Ok_ (dropped coll was)
dropped-ok coll None = tt
dropped-ok coll (Some c) = refl

index_dropped_from-ok : (coll name : List ℕ) (was : Option Collection) → Ok_ (index_dropped_from coll name was)
index_dropped_from-ok coll name None = tt
index_dropped_from-ok coll name (Some c) = taken_out-ok name c (index_named name c.indexes)

outcome-ok : (ns : List ℕ) (c : Command) (was : Option Collection) → Ok_ (outcome ns c was)
outcome-ok ns (Insert coll doc) was = unless-has (λ r x. is_ok r ≡ true) (or_else (too_large doc) (or_else (array_id doc) (keys_refusal ns (or_new was).indexes (or_new was).documents doc))) _ refl
outcome-ok ns (Find coll f index) was = unless-has (λ r x. is_ok r ≡ true) (filter_refusal f) _ (found-ok f index was)
outcome-ok ns (Update coll f change multi) was = unless-has (λ r x. is_ok r ≡ true) (or_else (filter_refusal f) (change_refusal change)) _ (updated-ok ns f change multi was)
outcome-ok ns (Remove coll f one) was = unless-has (λ r x. is_ok r ≡ true) (filter_refusal f) _ (removed-ok f one was)
outcome-ok ns (Create coll) was = created-ok was
outcome-ok ns (Drop coll) was = dropped-ok coll was
outcome-ok ns (EnsureIndex coll name spec unique) was = ensured-ok ns name spec unique (or_new was) (index_named name (or_new was).indexes)
outcome-ok ns (DropIndex coll name) was = index_dropped_from-ok coll name was

pub refusals_keep : RefusedKeeps
refusals_keep name nodes db c =
    refused_keeps nodes (collection_of c) db (outcome (namespace name (collection_of c)) c (get db (collection_of c))) (outcome-ok (namespace name (collection_of c)) c (get db (collection_of c)))

-- ---- a find changes nothing

settled_find : (nodes : ℕ) (coll : List ℕ) (db : Database) (f : Elements) (index : Option (List ℕ)) (was : Option Collection) (r : Option Reply)
    → (settled nodes coll db (unless r (found_in f index was))).1 ≡ db
settled_find nodes coll db f index was (Some r) = refl
settled_find nodes coll db f None None None = refl
settled_find nodes coll db f None (Some c) None = refl
settled_find nodes coll db f (Some name) None None = refl
settled_find nodes coll db f (Some name) (Some c) None = by (index_named name c.indexes)
  where
    by : (o : Option Index) → (settled nodes coll db (found_by name f c o)).1 ≡ db
    by None = refl
    by (Some index) = refl

pub finds_keep : FindKeeps
finds_keep name nodes db coll f index = settled_find nodes coll db f index (get db coll) (filter_refusal f)

-- ---- other collections

pub others_are_kept : OthersStay
others_are_kept name nodes db c other ne =
    others_stay nodes (collection_of c) db (outcome (namespace name (collection_of c)) c (get db (collection_of c))) other ne

-- ---- indexes come and go without a change of the documents

abbrev Same : Option Collection → Outcome → Type 0
Same was o = DoneHas (λ r x. documents_in x ≡ documents_in was) o

new-same : (was : Option Collection) → (or_new was).documents ≡ documents_in was
new-same None = refl
new-same (Some c) = refl

ensured-same : (ns name : List ℕ) (spec : Elements) (unique : Bool) (was : Option Collection) (o : Option Index) → Same was (ensured ns name spec unique (or_new was) o)
ensured-same ns name spec unique was (Some index) = either (same_index spec unique index)
  where
    either : (b : Bool) → Same was (if b then answered (Done 0) else refused (IndexDiffers name))
    either true = tt
    either false = tt
ensured-same ns name spec unique was None = either (nat_lt (length (or_new was).indexes) 10)
  where
    index : Index
    index = record { name = name; spec = spec; unique = unique }

    made : Outcome
    made = done (Done 1) (Some (with_indexes (or_new was) ((or_new was).indexes ++ index ∷ [])))

    either : (b : Bool) → Same was (if b then unless (build_refusal ns index [] (or_new was).documents) made else refused TooManyIndexes)
    either true = unless-has (λ r x. documents_in x ≡ documents_in was) (build_refusal ns index [] (or_new was).documents) made (new-same was)
    either false = tt

taken_out-same : (name : List ℕ) (c : Collection) (o : Option Index) → Same (Some c) (taken_out name c o)
taken_out-same name c None = tt
taken_out-same name c (Some index) = either (bytes_eq name (codes "_id_"))
  where
    either : (b : Bool) → Same (Some c) (if b then refused IdIndex else done (Done 1) (Some (with_indexes c (without_index name c.indexes))))
    either true = tt
    either false = refl

index_dropped-same : (coll name : List ℕ) (was : Option Collection) → Same was (index_dropped_from coll name was)
index_dropped-same coll name None = tt
index_dropped-same coll name (Some c) = taken_out-same name c (index_named name c.indexes)

pub indexing_keeps : IndexingKeepsDocuments
indexing_keeps name nodes db coll index spec unique other = (
  documents_stay nodes coll db (outcome (namespace name coll) (EnsureIndex coll index spec unique) (get db coll))
      (ensured-same (namespace name coll) index spec unique (get db coll) (index_named index (or_new (get db coll)).indexes)) other,
  documents_stay nodes coll db (outcome (namespace name coll) (DropIndex coll index) (get db coll)) (index_dropped-same coll index (get db coll)) other,
)
