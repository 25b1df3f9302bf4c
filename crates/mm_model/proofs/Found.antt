-- What was put in is found; what was taken out is gone.
use Rattle.std.proofs.Common.{◌≡◌, ℕ, Bool, true, false, cond, List, [], ◌∷◌, Option, Some, None, refl, sym, ap, ◌∙◌, subst, ◌&&◌, ◌||◌}
use Rattle.std.specs.Prelude.{if◌then◌else◌, filter, nat_lt, length, is_some, option_map}
use Rattle.std.specs.List.{list_any}
use Rattle.std.specs.FinMap.{get}
use Rattle.std.specs.Ordering.{nat_cmp, is_eq, is_lt, eq_by_cmp}
use Rattle.std.specs.Cmp.{tied_itself, eq_by_cmp_equiv}
use Rattle.std.specs.Cmp.Lexicographic.{slice_cmp, nat_list_cmp_total}
use Rattle.mm_bson.specs.Tree.{Tree, min_key, null, int32, int64, string, document, array, binary, object_id, boolean, date, timestamp, max_key, Elements, no_elements}
use Rattle.mm_bson.specs.Path.{value_at_path}
use Rattle.mm_bson.specs.Order.{compare}
use Rattle.mm_bson.proofs.Orders.{compare_total}
use Rattle.mm_keys.specs.Key.{or_null, keyed}
use Rattle.mm_bson.specs.Spelling.{spelling}
use Rattle.mm_query.specs.Form.{wrong_operators, wrong_condition, or}
use Rattle.mm_model.specs.declared.command.Command.TheVariants.{Insert}
use Rattle.mm_model.specs.declared.reply.Reply.{Reply}
use Rattle.mm_model.specs.declared.reply.Reply.TheVariants.{Done, Found, BadOperator, DocTooLarge, IdArray}
use Rattle.mm_query.specs.Selection.{some_item, equals, all_hold, meets, selects}
use Rattle.mm_model.specs.Database.{selected}
use Rattle.mm_model.specs.Database.{Collection, Database, id_name, id_of, has_id, id_index, or_new, nodes_in}
use Rattle.mm_model.specs.Keyed.{namespace, or_else, is_array, has_array, array_id, too_large, first_refusal, no_key, taken_key, keys_refusal, without_id}
use Rattle.mm_model.specs.Commands.{done, unless, placed, with_documents, without_all, first_or_all, filter_refusal, found_in, removed_from}
use Rattle.mm_model.specs.After.{unless_full, with_collection, settled, after}
use Rattle.mm_model.specs.Laws.{is_ok, AllKeyed, AllIndex, IsCollection, IsPlain, by_id, documents_in, documents_at, InsertedIsFound, RemoveAllLeavesNone}
use Rattle.mm_model.proofs.Settled.{get-with}
use Rattle.mm_model.proofs.Documents.{or_false, keyed_id}
use Rattle.mm_model.proofs.Kept.{none_of, id_untaken, or_new_is, databases_stay}
use Rattle.mm_model.proofs.Counts.{NotOk, or_else-not, if-not, keys-not}

-- ---- a list emptied of its own members

-- each of these has the _id of some document of a list
abbrev AllAmong : List Elements → List Elements → Type 0
AllAmong ds [] = Unit {0}
AllAmong ds (e ∷ es) = (list_any (λ g. has_id (id_of g) e) ds ≡ true) × AllAmong ds es

among_more : (g : Elements) (ds es : List Elements) → AllAmong ds es → AllAmong (g ∷ ds) es
among_more g ds [] among = tt
among_more g ds (e ∷ es) among = (by (has_id (id_of g) e), among_more g ds es among.1)
  where
    by : (b : Bool) → (b || list_any (λ x. has_id (id_of x) e) ds) ≡ true
    by true = refl
    by false = among.0

has_own : (d : Elements) → has_id (id_of d) d ≡ true
has_own d = ap is_eq (tied_itself compare_total (id_of d))

among_own : (ds : List Elements) → AllAmong ds ds
among_own [] = tt
among_own (d ∷ ds) = (rw (has_own d) refl, among_more d ds ds (among_own ds))

among_left : (g : Elements) (gone es : List Elements) → AllAmong (g ∷ gone) es → AllAmong gone (without_id (id_of g) es)
among_left g gone [] among = tt
among_left g gone (e ∷ es) among = by (has_id (id_of g) e) among.0 (among_left g gone es among.1)
  where
    by : (b : Bool) → (b || list_any (λ x. has_id (id_of x) e) gone) ≡ true → AllAmong gone (without_id (id_of g) es) → AllAmong gone (if b then without_id (id_of g) es else e ∷ without_id (id_of g) es)
    by true h rest = rest
    by false h rest = (h, rest)

none_left : (gone es : List Elements) → AllAmong gone es → without_all gone es ≡ []
none_left [] [] among = refl
none_left [] (e ∷ es) among = absurd (let wrong : false ≡ true = among.0 in cc)
none_left (g ∷ gone) es among = none_left gone (without_id (id_of g) es) (among_left g gone es among)

all_selected : (ds : List Elements) → selected no_elements ds ≡ ds
all_selected [] = refl
all_selected (d ∷ ds) = ap (λ (l : List Elements). d ∷ l) (all_selected ds)

emptied : (ds : List Elements) → without_all (first_or_all false (selected no_elements ds)) ds ≡ []
emptied ds = ap (λ l. without_all l ds) (all_selected ds) ∙ none_left ds ds (among_own ds)

own_name : (coll : List ℕ) → eq_by_cmp (slice_cmp nat_cmp) coll coll ≡ true
own_name coll = (eq_by_cmp_equiv nat_list_cmp_total).refl coll

get_own : (coll : List ℕ) (x : Option Collection) (db : Database) → get (with_collection coll x db) coll ≡ x
get_own coll x db = get-with coll x db coll ∙ ap (λ b. cond b x (get db coll)) (own_name coll)

emptied_if : (b : Bool) (r : Reply) (n : ℕ) (coll : List ℕ) (old new : Database) → documents_at new coll ≡ [] → (unless_full b old r new).0 ≡ Done n → documents_at (unless_full b old r new).1 coll ≡ []
emptied_if true r n coll old new h e = absurd cc
emptied_if false r n coll old new h e = h

removed_is : (nodes : ℕ) (coll : List ℕ) (db : Database) (was : Option Collection) (n : ℕ) → get db coll ≡ was
    → (settled nodes coll db (removed_from no_elements false was)).0 ≡ Done n → documents_at (settled nodes coll db (removed_from no_elements false was)).1 coll ≡ []
removed_is nodes coll db None n same e = ap documents_in same
removed_is nodes coll db (Some c) n same e =
    let gone = first_or_all false (selected no_elements c.documents) in
    let left = Some (with_documents c (without_all gone c.documents)) in
    emptied_if (nat_lt nodes (nodes_in (with_collection coll left db))) (Done (length gone)) n coll db (with_collection coll left db)
    (ap documents_in (get_own coll left db) ∙ emptied c.documents) e

pub remove_all : RemoveAllLeavesNone
remove_all name nodes db coll n e = removed_is nodes coll db (get db coll) n refl e

-- ---- one document by its _id

no_item : (p : Tree → Bool) (t : Tree) → is_array t ≡ false → some_item p t ≡ false
no_item p (array vs) h = absurd cc
no_item p _ h = refl

or_nothing : (a b : Bool) → b ≡ false → (a || b) ≡ a
or_nothing true b h = refl
or_nothing false b h = h

and_always : (a : Bool) → (a && true) ≡ a
and_always true = refl
and_always false = refl

no_array_id : (d : Elements) → has_array d id_index.spec ≡ false → is_array (id_of d) ≡ false
no_array_id d h = ap is_array (sym (keyed_id d)) ∙ (or_false (is_array (keyed id_name d)) false h).0

meets_plain : (id : Tree) (o : Option Tree) → IsPlain id → meets id o ≡ equals id (or_null o)
meets_plain (document es) o h = ap (λ b. if b then all_hold es (or_null o) (is_some o) else equals (document es) (or_null o)) h
meets_plain min_key o h = refl
meets_plain null o h = refl
meets_plain (int32 z) o h = refl
meets_plain (int64 z) o h = refl
meets_plain (string s) o h = refl
meets_plain (array vs) o h = refl
meets_plain (binary k bytes) o h = refl
meets_plain (object_id bytes) o h = refl
meets_plain (boolean b) o h = refl
meets_plain (date z) o h = refl
meets_plain (timestamp s i) o h = refl
meets_plain max_key o h = refl

selects_id : (id : Tree) (x : Elements) → IsPlain id → is_array (id_of x) ≡ false → selects (by_id id) x ≡ has_id id x
selects_id id x plain h =
    and_always (meets id (value_at_path id_name x))
    ∙ meets_plain id (value_at_path id_name x) plain
    ∙ ap (equals id) (keyed_id x)
    ∙ or_nothing (has_id id x) (some_item (λ v. is_eq (compare v id)) (id_of x)) (no_item (λ v. is_eq (compare v id)) (id_of x) h)

selected_id : (id : Tree) (ds : List Elements) → IsPlain id → AllKeyed id_index ds → selected (by_id id) ds ≡ filter (has_id id) ds
selected_id id [] plain keyed = refl
selected_id id (x ∷ xs) plain keyed =
    ap (λ b. if b then x ∷ selected (by_id id) xs else selected (by_id id) xs) (selects_id id x plain (no_array_id x keyed.0.no_array))
    ∙ ap (λ l. if has_id id x then x ∷ l else l) (selected_id id xs plain keyed.1)

none_kept : (p : Elements → Bool) (ds : List Elements) → list_any p ds ≡ false → filter p ds ≡ []
none_kept p [] none = refl
none_kept p (d ∷ ds) none =
    let parts = or_false (p d) (list_any p ds) none in
    ap (λ b. if b then d ∷ filter p ds else filter p ds) parts.0 ∙ none_kept p ds parts.1

only_placed : (p : Elements → Bool) (d : Elements) (ds : List Elements) → p d ≡ true → list_any p ds ≡ false → filter p (placed d ds) ≡ d ∷ []
only_placed p d [] own none = ap (λ b. if b then d ∷ [] else []) own
only_placed p d (e ∷ es) own none =
    let parts = or_false (p e) (list_any p es) none in
    by (is_lt (compare (id_of e) (id_of d))) parts.0 (only_placed p d es own parts.1)
  where
    by : (b : Bool) → p e ≡ false → filter p (placed d es) ≡ d ∷ [] → filter p (if b then e ∷ placed d es else d ∷ e ∷ es) ≡ d ∷ []
    by true other rest = ap (λ b. if b then e ∷ filter p (placed d es) else filter p (placed d es)) other ∙ rest
    by false other rest = ap (λ b. if b then d ∷ filter p (e ∷ es) else filter p (e ∷ es)) own ∙ ap (λ (l : List Elements). d ∷ l) (none_kept p (e ∷ es) none)

plain_condition : (id : Tree) → IsPlain id → wrong_condition id ≡ None
plain_condition (document es) h = ap (λ b. if b then wrong_operators es else None) h
plain_condition min_key h = refl
plain_condition null h = refl
plain_condition (int32 z) h = refl
plain_condition (int64 z) h = refl
plain_condition (string s) h = refl
plain_condition (array vs) h = refl
plain_condition (binary k bytes) h = refl
plain_condition (object_id bytes) h = refl
plain_condition (boolean b) h = refl
plain_condition (date z) h = refl
plain_condition (timestamp s i) h = refl
plain_condition max_key h = refl

plain_filter : (id : Tree) → IsPlain id → filter_refusal (by_id id) ≡ None
plain_filter id h = ap (λ o. option_map (λ name. BadOperator name) (or o None)) (plain_condition id h)

-- the documents of a collection, where the index _id_ keys them
id_keyed : (c : Collection) → IsCollection c → AllKeyed id_index c.documents
id_keyed c is = (subst (AllIndex c.documents) is.first is.kept).0.keyed

found_again : (nodes : ℕ) (coll : List ℕ) (db : Database) (id : Tree) (c : Collection) → IsPlain id → IsCollection c → get db coll ≡ Some c
    → (settled nodes coll db (unless (filter_refusal (by_id id)) (found_in (by_id id) None (get db coll)))).0 ≡ Found (filter (has_id id) c.documents)
found_again nodes coll db id c plain is same =
    ap (λ r. (settled nodes coll db (unless r (found_in (by_id id) None (get db coll)))).0) (plain_filter id plain)
    ∙ ap (λ was. (settled nodes coll db (found_in (by_id id) None was)).0) same
    ∙ ap Found (selected_id id c.documents plain (id_keyed c is))

-- what an Ok of an insert says
pub record IsIn (nodes : ℕ) (coll : List ℕ) (db : Database) (r : Option Reply) (x : Option Collection) : Type 0 where
  pub none : r ≡ None
  pub new : (settled nodes coll db (unless r (done (Done 1) x))).1 ≡ with_collection coll x db

in_if : (b : Bool) (old new : Database) → (unless_full b old (Done 1) new).0 ≡ Done 1 → (unless_full b old (Done 1) new).1 ≡ new
in_if true old new e = absurd cc
in_if false old new e = refl

is_in : (nodes : ℕ) (coll : List ℕ) (db : Database) (r : Option Reply) (x : Option Collection) → NotOk r → (settled nodes coll db (unless r (done (Done 1) x))).0 ≡ Done 1 → IsIn nodes coll db r x
is_in nodes coll db None x h e = record { none = refl; new = in_if (nat_lt nodes (nodes_in (with_collection coll x db))) db (with_collection coll x db) e }
is_in nodes coll db (Some r) x h e = absurd (let wrong : is_ok (Done 1) ≡ false = ap is_ok (sym e) ∙ h in cc)

insert_refusal-not : (ns : List ℕ) (d : Elements) (c : Collection) → NotOk (or_else (too_large d) (or_else (array_id d) (keys_refusal ns c.indexes c.documents d)))
insert_refusal-not ns d c =
    or_else-not (too_large d) (or_else (array_id d) (keys_refusal ns c.indexes c.documents d)) (if-not (nat_lt 0x100_0000 (length (spelling d))) (Some (DocTooLarge (length (spelling d)))) None refl tt)
    (or_else-not (array_id d) (keys_refusal ns c.indexes c.documents d) (if-not (is_array (id_of d)) (Some IdArray) None refl tt) (keys-not ns c.indexes c.documents d))

pub inserted_is_found : InsertedIsFound
inserted_is_found name nodes db coll d is plain e =
    let ns = namespace name coll in
    let c = or_new (get db coll) in
    let refusal = or_else (too_large d) (or_else (array_id d) (keys_refusal ns c.indexes c.documents d)) in
    let new = with_documents c (placed d c.documents) in
    let done_in = is_in nodes coll db refusal (Some new) (insert_refusal-not ns d c) e in
    let keys = (none_of (array_id d) (keys_refusal ns c.indexes c.documents d) (none_of (too_large d) (or_else (array_id d) (keys_refusal ns c.indexes c.documents d)) done_in.none).1).1 in
    let old = or_new_is (get db coll) (is coll) in
    let taken = (none_of (first_refusal (no_key ns d) c.indexes) (first_refusal (taken_key ns c.documents d) c.indexes) keys).1 in
    let there : get (after name nodes db (Insert coll d)).1 coll ≡ Some new = ap (λ x. get x coll) done_in.new ∙ get_own coll (Some new) db in
    found_again nodes coll (after name nodes db (Insert coll d)).1 (id_of d) new plain (databases_stay name nodes db (Insert coll d) is coll new there) there
    ∙ ap Found (only_placed (has_id (id_of d)) d c.documents (has_own d) (id_untaken ns c.documents d c.indexes old.others old.first taken))
