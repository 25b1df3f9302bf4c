-- What each command makes of its collection. The order of refusals is that of the tests in each definition.
use Rattle.std.specs.Prelude.{ℕ, Bool, true, false, List, [], ◌∷◌, ◌++◌, Option, Some, None, Result, Ok, Err, ◌&&◌, not, length, take, nat_lt, if◌then◌else◌, codes, option_map}
use Rattle.std.specs.Str.{bytes_eq}
use Rattle.std.specs.Ordering.{is_lt, is_eq}
use Rattle.mm_bson.specs.Tree.{Elements}
use Rattle.mm_bson.specs.Order.{compare, compare_elements}
use Rattle.mm_keys.specs.Key.{key}
use Rattle.mm_keys.specs.KeyOrder.{key_compare}
use Rattle.mm_query.specs.Form.{wrong_filter}
use Rattle.mm_update.specs.declared.fault.ChangeFault.{ChangeFault}
use Rattle.mm_update.specs.declared.fault.ChangeFault.TheVariants.{BadChange as WrongChange, ChangesId as ForId, NotNumber as NoNumber, IncOverflow as Overflow, TooLong, TooDeep, NoMemory}
use Rattle.mm_update.specs.Form.{form}
use Rattle.mm_update.specs.Edit.{plan}
use Rattle.mm_update.specs.Changed.{changed}
use Rattle.mm_model.specs.declared.command.Command.{Command}
use Rattle.mm_model.specs.declared.command.Command.TheVariants.{Insert, Find, Update, Remove, Create, Drop, EnsureIndex, DropIndex}
use Rattle.mm_model.specs.declared.reply.Reply.{Reply}
use Rattle.mm_model.specs.declared.reply.Reply.TheVariants.{Done, Found, DocTooLarge, DocTooDeep, BadOperator, BadChange, ChangesId, NotNumber, IncOverflow, NoCollection, NoIndex, IdIndex, IndexDiffers, TooManyIndexes}
use Rattle.mm_model.specs.Database.{selected}
use Rattle.mm_model.specs.Database.{Index, Collection, id_of, has_id, new_collection, or_new}
use Rattle.mm_model.specs.Keyed.{or_else, keys_refusal, too_large, array_id, without_id}

-- What becomes of a command and its collection: it is refused, or it is answered and changes nothing, or it is done and this is the collection then.
pub data Outcome : Type 0 where
  refused : Reply → Outcome
  answered : Reply → Outcome
  done : Reply → Option Collection → Outcome

-- the first refusal there is, or else what comes of it
abbrev pub unless : Option Reply → Outcome → Outcome
unless None o = o
unless (Some r) o = refused r

-- ---- the documents of a collection

-- a document among others in rising order of _id
abbrev pub placed : Elements → List Elements → List Elements
placed d [] = d ∷ []
placed d (e ∷ es) = if is_lt (compare (id_of e) (id_of d)) then e ∷ placed d es else d ∷ e ∷ es

-- a document in the place of the one with its _id
abbrev pub replaced : Elements → List Elements → List Elements
replaced d [] = []
replaced d (e ∷ es) = (if has_id (id_of d) e then d else e) ∷ replaced d es

-- the documents that aren't among those taken out
abbrev pub without_all : List Elements → List Elements → List Elements
without_all [] ds = ds
without_all (gone ∷ others) ds = without_all others (without_id (id_of gone) ds)

-- the first of them, or all
abbrev pub first_or_all : Bool → List Elements → List Elements
first_or_all true ds = take 1 ds
first_or_all false ds = ds

abbrev pub with_documents : Collection → List Elements → Collection
with_documents c ds = record c { documents = ds }

-- ---- indexes

abbrev pub index_named : List ℕ → List Index → Option Index
index_named name [] = None
index_named name (i ∷ is) = if bytes_eq i.name name then Some i else index_named name is

abbrev pub without_index : List ℕ → List Index → List Index
without_index name [] = []
without_index name (i ∷ is) = if bytes_eq i.name name then is else i ∷ without_index name is

abbrev pub with_indexes : Collection → List Index → Collection
with_indexes c is = record c { indexes = is }

-- a document among others in the order of an index's keys, behind those of an equal key
abbrev pub placed_by_key : Elements → Elements → List Elements → List Elements
placed_by_key spec d [] = d ∷ []
placed_by_key spec d (e ∷ es) = if is_lt (key_compare spec (key d spec) (key e spec)) then d ∷ e ∷ es else e ∷ placed_by_key spec d es

-- documents in the order of an index's keys; those of equal keys stay in their order
abbrev pub by_key_onto : Elements → List Elements → List Elements → List Elements
by_key_onto spec sorted [] = sorted
by_key_onto spec sorted (d ∷ ds) = by_key_onto spec (placed_by_key spec d sorted) ds

abbrev pub by_key : Elements → List Elements → List Elements
by_key spec ds = by_key_onto spec [] ds

-- ---- refusals by form

-- the first wrong operator of a filter
abbrev pub filter_refusal : Elements → Option Reply
filter_refusal f = option_map (λ name. BadOperator name) (wrong_filter f)

abbrev pub change_reply : ChangeFault → Reply
change_reply (WrongChange name) = BadChange name
change_reply ForId = ChangesId
change_reply (NoNumber path) = NotNumber path
change_reply (Overflow path) = IncOverflow path
change_reply (TooLong len) = DocTooLarge len
change_reply TooDeep = DocTooDeep
change_reply NoMemory = DocTooDeep

-- the first wrong place of a change
abbrev pub change_refusal : Elements → Option Reply
change_refusal change = option_map change_reply (form change)

-- ---- the commands, one by one. `ns` is the namespace of the collection, `was` the collection as it is, where it is there.

-- A document comes among the others, where it isn't too large, its _id is no array and every index takes its key.
abbrev pub inserted_into : List ℕ → Elements → Collection → Outcome
inserted_into ns d c =
    unless (or_else (too_large d) (or_else (array_id d) (keys_refusal ns c.indexes c.documents d)))
    (done (Done 1) (Some (with_documents c (placed d c.documents))))

-- The documents that match, by _id, or by an index's keys and then by _id.
abbrev pub found_by : List ℕ → Elements → Collection → Option Index → Outcome
found_by name f c None = refused (NoIndex name)
found_by name f c (Some index) = answered (Found (by_key index.spec (selected f c.documents)))

abbrev pub found_in : Elements → Option (List ℕ) → Option Collection → Outcome
found_in f None None = answered (Found [])
found_in f None (Some c) = answered (Found (selected f c.documents))
found_in f (Some name) None = refused (NoIndex name)
found_in f (Some name) (Some c) = found_by name f c (index_named name c.indexes)

-- A document is changed: the changed one comes in its place, where every index takes its key.
abbrev pub put_back : Collection → Elements → Option Reply → Result Collection Reply
put_back c new (Some r) = Err r
put_back c new None = Ok (with_documents c (replaced new c.documents))

abbrev pub made_of : List ℕ → Collection → Elements → Result Elements ChangeFault → Result Collection Reply
made_of ns c old (Err fault) = Err (change_reply fault)
made_of ns c old (Ok new) = put_back c new (keys_refusal ns c.indexes (without_id (id_of old) c.documents) new)

abbrev pub one_changed : List ℕ → Elements → Elements → Collection → Result Collection Reply
one_changed ns change old c = made_of ns c old (changed (plan change) old)

abbrev pub go_on : (Collection → Result Collection Reply) → Result Collection Reply → Result Collection Reply
go_on onward (Ok c) = onward c
go_on onward (Err r) = Err r

-- The documents are changed one after another; the first that is refused decides.
abbrev pub all_changed : List ℕ → Elements → List Elements → Collection → Result Collection Reply
all_changed ns change [] c = Ok c
all_changed ns change (old ∷ others) c = go_on (all_changed ns change others) (one_changed ns change old c)

abbrev pub counted : ℕ → Result Collection Reply → Outcome
counted n (Ok c) = done (Done n) (Some c)
counted n (Err r) = refused r

abbrev pub updated_in : List ℕ → Elements → Elements → Bool → Option Collection → Outcome
updated_in ns f change multi None = answered (Done 0)
updated_in ns f change multi (Some c) =
    let chosen = first_or_all (not multi) (selected f c.documents) in counted (length chosen) (all_changed ns change chosen c)

abbrev pub removed_from : Elements → Bool → Option Collection → Outcome
removed_from f one None = answered (Done 0)
removed_from f one (Some c) =
    let chosen = first_or_all one (selected f c.documents) in done (Done (length chosen)) (Some (with_documents c (without_all chosen c.documents)))

abbrev pub created : Option Collection → Outcome
created (Some c) = answered (Done 0)
created None = done (Done 1) (Some new_collection)

abbrev pub dropped : List ℕ → Option Collection → Outcome
dropped coll None = refused (NoCollection coll)
dropped coll (Some c) = done (Done 1) None

abbrev pub same_index : Elements → Bool → Index → Bool
same_index spec unique index = is_eq (compare_elements spec index.spec) && (if unique then index.unique else not index.unique)

-- The index takes the documents' keys one after another, beside those before it; the first that is refused decides.
abbrev pub build_refusal : List ℕ → Index → List Elements → List Elements → Option Reply
build_refusal ns index before [] = None
build_refusal ns index before (d ∷ ds) = or_else (keys_refusal ns (index ∷ []) before d) (build_refusal ns index (before ++ d ∷ []) ds)

abbrev pub indexed : List ℕ → Index → Collection → Outcome
indexed ns index c =
    if nat_lt (length c.indexes) 10 then unless (build_refusal ns index [] c.documents) (done (Done 1) (Some (with_indexes c (c.indexes ++ index ∷ []))))
    else refused TooManyIndexes

abbrev pub ensured : List ℕ → List ℕ → Elements → Bool → Collection → Option Index → Outcome
ensured ns name spec unique c (Some index) = if same_index spec unique index then answered (Done 0) else refused (IndexDiffers name)
ensured ns name spec unique c None = indexed ns (record { name = name; spec = spec; unique = unique }) c

abbrev pub index_ensured : List ℕ → List ℕ → Elements → Bool → Collection → Outcome
index_ensured ns name spec unique c = ensured ns name spec unique c (index_named name c.indexes)

abbrev pub taken_out : List ℕ → Collection → Option Index → Outcome
taken_out name c None = refused (NoIndex name)
taken_out name c (Some index) = if bytes_eq name (codes "_id_") then refused IdIndex else done (Done 1) (Some (with_indexes c (without_index name c.indexes)))

abbrev pub index_dropped : List ℕ → Collection → Outcome
index_dropped name c = taken_out name c (index_named name c.indexes)

abbrev pub index_dropped_from : List ℕ → List ℕ → Option Collection → Outcome
index_dropped_from coll name None = refused (NoCollection coll)
index_dropped_from coll name (Some c) = index_dropped name c

-- the collection that a command names
abbrev pub collection_of : Command → List ℕ
collection_of (Insert coll doc) = coll
collection_of (Find coll filter index) = coll
collection_of (Update coll filter change multi) = coll
collection_of (Remove coll filter one) = coll
collection_of (Create coll) = coll
collection_of (Drop coll) = coll
collection_of (EnsureIndex coll name spec unique) = coll
collection_of (DropIndex coll name) = coll

abbrev pub outcome : List ℕ → Command → Option Collection → Outcome
outcome ns (Insert coll doc) was = inserted_into ns doc (or_new was)
outcome ns (Find coll f index) was = unless (filter_refusal f) (found_in f index was)
outcome ns (Update coll f change multi) was = unless (or_else (filter_refusal f) (change_refusal change)) (updated_in ns f change multi was)
outcome ns (Remove coll f one) was = unless (filter_refusal f) (removed_from f one was)
outcome ns (Create coll) was = created was
outcome ns (Drop coll) was = dropped coll was
outcome ns (EnsureIndex coll name spec unique) was = index_ensured ns name spec unique (or_new was)
outcome ns (DropIndex coll name) was = index_dropped_from coll name was
