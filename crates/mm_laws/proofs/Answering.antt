-- What the number of an index's coming or going says, and which refusal of an insert comes first.
use Rattle.std.proofs.Common.{◌≡◌, ℕ, ◌+◌, Bool, true, false, cond, List, [], ◌∷◌, ◌++◌, Option, Some, None, refl, sym, ap, subst, ◌∙◌, arith, length}
use Rattle.std.specs.Prelude.{if◌then◌else◌, nat_lt, codes}
use Rattle.std.specs.Str.{bytes_eq}
use Rattle.std.specs.FinMap.{get}
use Rattle.std.specs.Ordering.{nat_cmp, is_eq, eq_by_cmp}
use Rattle.std.specs.Cmp.{tied_itself}
use Rattle.std.specs.Cmp.Lexicographic.{slice_cmp, nat_list_cmp_total}
use Rattle.std.proofs.lemmas.List.{length-append}
use Rattle.mm_bson.specs.Tree.{Elements}
use Rattle.mm_bson.specs.Spelling.{spelling}
use Rattle.mm_model.specs.declared.reply.Reply.{Reply}
use Rattle.mm_model.specs.declared.reply.Reply.TheVariants.{Done, DocTooLarge, NoCollection, NoIndex, IdIndex, IndexDiffers, TooManyIndexes}
use Rattle.mm_model.specs.Database.{Index, Collection, Database, nodes_in, or_new}
use Rattle.mm_model.specs.Keyed.{namespace, or_else, array_id, keys_refusal}
use Rattle.mm_model.specs.Commands.{Outcome, refused, answered, done, unless, placed, with_documents, with_indexes, index_named, without_index, same_index, build_refusal, ensured, index_ensured, taken_out, index_dropped_from}
use Rattle.mm_model.specs.After.{unless_full, with_collection, settled}
use Rattle.mm_model.specs.Laws.{is_ok}
use Rattle.mm_model.proofs.Settled.{get-with}
use Rattle.mm_model.proofs.Counts.{NotOk, or_else-not, keys-not}
use Rattle.mm_laws.specs.Answering.{index_count, EnsureCounts, DropCounts, TooLargeComesFirst}

-- how many indexes are there, where the outcome leaves this collection
abbrev indexes_of : Option Collection → ℕ
indexes_of x = length (or_new x).indexes

own_name : (coll : List ℕ) → eq_by_cmp (slice_cmp nat_cmp) coll coll ≡ true
own_name coll = ap is_eq (tied_itself nat_list_cmp_total coll)

there_then : (coll : List ℕ) (x : Option Collection) (db : Database) → get (with_collection coll x db) coll ≡ x
there_then coll x db = get-with coll x db coll ∙ ap (λ b. cond b x (get db coll)) (own_name coll)

-- A relation of the number and of the counts before and then holds of the whole command, where it holds of its outcome.
abbrev Counts : (ℕ → ℕ → ℕ → Type 0) → ℕ → Outcome → Type 0
Counts R before (refused r) = (n : ℕ) → r ≡ Done n → ⊥
Counts R before (answered r) = (n : ℕ) → r ≡ Done n → R n before before
Counts R before (done r x) = (n : ℕ) → r ≡ Done n → R n before (indexes_of x)

counted_if : (R : ℕ → ℕ → ℕ → Type 0) (coll : List ℕ) (db new : Database) (r : Reply) (n : ℕ) (b : Bool) → ((m : ℕ) → r ≡ Done m → R m (index_count db coll) (index_count new coll))
    → (unless_full b db r new).0 ≡ Done n → R n (index_count db coll) (index_count (unless_full b db r new).1 coll)
counted_if R coll db new r n true h e = absurd cc
counted_if R coll db new r n false h e = h n e

counted : (R : ℕ → ℕ → ℕ → Type 0) (nodes : ℕ) (coll : List ℕ) (db : Database) (o : Outcome) (n : ℕ) → Counts R (index_count db coll) o
    → (settled nodes coll db o).0 ≡ Done n → R n (index_count db coll) (index_count (settled nodes coll db o).1 coll)
counted R nodes coll db (refused r) n h e = absurd (h n e)
counted R nodes coll db (answered r) n h e = h n e
counted R nodes coll db (done r x) n h e =
    let new = with_collection coll x db in
    counted_if R coll db new r n (nat_lt nodes (nodes_in new)) (λ m f. subst (λ k. R m (index_count db coll) k) (sym (ap indexes_of (there_then coll x db))) (h m f)) e

abbrev Came : ℕ → ℕ → ℕ → Type 0
Came n before then_ = then_ ≡ before + n

abbrev Went : ℕ → ℕ → ℕ → Type 0
Went n before then_ = then_ + n ≡ before

-- ---- an index comes

one_more : (index : Index) (c : Collection) → length (c.indexes ++ index ∷ []) ≡ length c.indexes + 1
one_more index c = length-append c.indexes (index ∷ [])

build-not : (ns : List ℕ) (i : Index) (before ds : List Elements) → NotOk (build_refusal ns i before ds)
build-not ns i before [] = tt
build-not ns i before (d ∷ ds) =
    or_else-not (keys_refusal ns (i ∷ []) before d) (build_refusal ns i (before ++ d ∷ []) ds) (keys-not ns (i ∷ []) before d) (build-not ns i (before ++ d ∷ []) ds)

not_done : (r : Reply) → is_ok r ≡ false → (n : ℕ) → r ≡ Done n → ⊥
not_done r h n e = absurd (let other : is_ok (Done n) ≡ false = ap is_ok (sym e) ∙ h in cc)

built_counts : (index : Index) (c : Collection) (r : Option Reply) → NotOk r → Counts Came (length c.indexes) (unless r (done (Done 1) (Some (with_indexes c (c.indexes ++ index ∷ [])))))
built_counts index c None h = λ n e. let one : 1 ≡ n = cc in omega (arith, one_more index c, one)
built_counts index c (Some r) h = not_done r h

indexed_counts : (ns : List ℕ) (index : Index) (c : Collection) (b : Bool) → Counts Came (length c.indexes)
    (if b then unless (build_refusal ns index [] c.documents) (done (Done 1) (Some (with_indexes c (c.indexes ++ index ∷ [])))) else refused TooManyIndexes)
indexed_counts ns index c true = built_counts index c (build_refusal ns index [] c.documents) (build-not ns index [] c.documents)
indexed_counts ns index c false = not_done TooManyIndexes refl

ensured_counts : (ns name : List ℕ) (spec : Elements) (unique : Bool) (c : Collection) (o : Option Index) → Counts Came (length c.indexes) (ensured ns name spec unique c o)
ensured_counts ns name spec unique c (Some index) = either (same_index spec unique index)
  where
    either : (b : Bool) → Counts Came (length c.indexes) (if b then answered (Done 0) else refused (IndexDiffers name))
    either true = λ n e. let none : 0 ≡ n = cc in omega (arith, none)
    either false = not_done (IndexDiffers name) refl
ensured_counts ns name spec unique c None = indexed_counts ns (record { name = name; spec = spec; unique = unique }) c (nat_lt (length c.indexes) 10)

pub ensure_counts : EnsureCounts
ensure_counts name nodes db coll index spec unique n =
    let c = or_new (get db coll) in
    counted Came nodes coll db (index_ensured (namespace name coll) index spec unique c) n (ensured_counts (namespace name coll) index spec unique c (index_named index c.indexes))

-- ---- an index goes

one_less : (name : List ℕ) (is : List Index) (i : Index) → index_named name is ≡ Some i → length (without_index name is) + 1 ≡ length is
one_less name [] i e = absurd cc
one_less name (j ∷ is) i e = by (bytes_eq j.name name) e (one_less name is i)
  where
    by : (b : Bool) → (if b then Some j else index_named name is) ≡ Some i → (index_named name is ≡ Some i → length (without_index name is) + 1 ≡ length is)
        → length (if b then is else j ∷ without_index name is) + 1 ≡ length (j ∷ is)
    by true f rest = omega arith
    by false f rest = omega (arith, rest f)

taken_counts : (name : List ℕ) (c : Collection) (o : Option Index) → index_named name c.indexes ≡ o → Counts Went (length c.indexes) (taken_out name c o)
taken_counts name c None e = not_done (NoIndex name) refl
taken_counts name c (Some index) e = either (bytes_eq name (codes "_id_"))
  where
    either : (b : Bool) → Counts Went (length c.indexes) (if b then refused IdIndex else done (Done 1) (Some (with_indexes c (without_index name c.indexes))))
    either true = not_done IdIndex refl
    either false = λ n f. let one : 1 ≡ n = cc in omega (arith, one_less name c.indexes index e, one)

dropped_counts : (coll name : List ℕ) (was : Option Collection) → Counts Went (indexes_of was) (index_dropped_from coll name was)
dropped_counts coll name None = not_done (NoCollection coll) refl
dropped_counts coll name (Some c) = taken_counts name c (index_named name c.indexes) refl

pub drop_counts : DropCounts
drop_counts name nodes db coll index n = counted Went nodes coll db (index_dropped_from coll index (get db coll)) n (dropped_counts coll index (get db coll))

-- ---- a document that is too large

pub too_large_first : TooLargeComesFirst
too_large_first name nodes db coll d e =
    let ns = namespace name coll in
    let c = or_new (get db coll) in
    let len = length (spelling d) in
    let later = or_else (array_id d) (keys_refusal ns c.indexes c.documents d) in
    ap (λ b. (settled nodes coll db (unless (or_else (if b then Some (DocTooLarge len) else None) later) (done (Done 1) (Some (with_documents c (placed d c.documents)))))).0) e
