-- When nodes run out, and when there is room again.
use Rattle.std.proofs.Common.{◌≡◌, ℕ, ◌+◌, ◌≤◌, ◌<◌, Bool, true, false, cond, List, [], ◌∷◌, Option, Some, None, refl, sym, ap, subst, ◌∙◌, arith, length}
use Rattle.std.specs.Prelude.{nat_lt, sum_by, map, ◌↔◌}
use Rattle.std.specs.declared.cmp.Ordering.{Ordering}
use Rattle.std.specs.declared.cmp.Ordering.TheVariants.{Less, Equal, Greater}
use Rattle.std.specs.Ordering.{nat_cmp, is_eq, eq_by_cmp}
use Rattle.std.specs.Cmp.{tied_itself}
use Rattle.std.specs.Cmp.Lexicographic.{slice_cmp, nat_list_cmp_total}
use Rattle.std.specs.FinMap.{get, insert, remove, entries, entries-insert, get-entries, get-insert, get-remove, find, same_map, nat_cmp-IsAntisymmetric, slice_cmp-IsAntisymmetric}
use Rattle.std.specs.FinMap.Entries.{put, by_order}
use Rattle.std.proofs.lemmas.Bool.Decides.{nat_tests}
use Rattle.std.proofs.lemmas.List.Sums.{sum_by-cons}
use Rattle.mm_model.specs.declared.reply.Reply.{Reply}
use Rattle.mm_model.specs.declared.reply.Reply.TheVariants.{Done, NsFull}
use Rattle.mm_model.specs.declared.command.Command.TheVariants.{Create}
use Rattle.mm_model.specs.Database.{Collection, Database, new_collection, nodes_in}
use Rattle.mm_model.specs.Keyed.{namespace}
use Rattle.mm_model.specs.Commands.{Outcome, refused, answered, done, created, dropped, outcome, collection_of}
use Rattle.mm_model.specs.After.{unless_full, with_collection, settled, after}
use Rattle.mm_model.specs.Laws.{IsCollection}
use Rattle.mm_model.proofs.Settled.{one_name}
use Rattle.mm_model.proofs.Nodes.{create_is_full}
use Rattle.mm_laws.specs.Nodes.{FullByCount, RoomComesBack}
use Rattle.mm_laws.proofs.Causes.{is_full, AnswersOther, outcome-other}

-- ---- want of nodes

abbrev Wants : ℕ → List ℕ → Database → Outcome → Type 0
Wants nodes coll db o = (more : ℕ) × (nodes < nodes_in (settled more coll db o).1)

not_want : (r : Reply) → is_full r ≡ false → r ≡ NsFull → ⊥
not_want r h e = absurd (let other : is_full NsFull ≡ false = ap is_full (sym e) ∙ h in cc)

-- with as many nodes as it takes the command is done
enough : (old new : Database) (r : Reply) (b : Bool) → nat_lt (nodes_in new) (nodes_in new) ≡ b → nodes_in (unless_full b old r new).1 ≡ nodes_in new
enough old new r true e = absurd (grind (arith, nat_tests, e))
enough old new r false e = refl

fits : (nodes : ℕ) (old new : Database) (r : Reply) (b : Bool) → nodes_in old ≤ nodes → nodes_in new ≤ nodes → nodes_in (unless_full b old r new).1 ≤ nodes
fits nodes old new r true h k = h
fits nodes old new r false h k = k

counted_done : (nodes : ℕ) (coll : List ℕ) (db new : Database) (r : Reply) (x : Option Collection) → with_collection coll x db ≡ new → is_full r ≡ false → nodes_in db ≤ nodes
    → (b : Bool) → nat_lt nodes (nodes_in new) ≡ b
    → ((unless_full b db r new).0 ≡ NsFull ↔ (more : ℕ) × (nodes < nodes_in (unless_full (nat_lt more (nodes_in new)) db r new).1))
counted_done nodes coll db new r x same other room true e =
    ((λ full. (nodes_in new, grind (arith, nat_tests, e, enough db new r (nat_lt (nodes_in new) (nodes_in new)) refl))), (λ wants. refl))
counted_done nodes coll db new r x same other room false e =
    ((λ full. absurd (not_want r other full)), (λ wants. absurd (grind (arith, nat_tests, e, wants.1, fits nodes db new r (nat_lt wants.0 (nodes_in new)) room (grind (arith, nat_tests, e))))))

counted : (nodes : ℕ) (coll : List ℕ) (db : Database) (o : Outcome) → AnswersOther o → nodes_in db ≤ nodes → ((settled nodes coll db o).0 ≡ NsFull ↔ Wants nodes coll db o)
counted nodes coll db (refused r) other room = ((λ full. absurd (not_want r other full)), (λ wants. absurd (omega (arith, wants.1, room))))
counted nodes coll db (answered r) other room = ((λ full. absurd (not_want r other full)), (λ wants. absurd (omega (arith, wants.1, room))))
counted nodes coll db (done r x) other room = counted_done nodes coll db (with_collection coll x db) r x refl other room (nat_lt nodes (nodes_in (with_collection coll x db))) refl

pub full_by_count : FullByCount
full_by_count name nodes db c =
    counted nodes (collection_of c) db (outcome (namespace name (collection_of c)) c (get db (collection_of c))) (outcome-other (namespace name (collection_of c)) c (get db (collection_of c)))

-- ---- a collection less

abbrev name_cmp : List ℕ → List ℕ → Ordering
name_cmp = slice_cmp nat_cmp

abbrev Row : Type 0
Row = List ℕ × Collection

-- a collection's node, and one for each index
unfoldable nodes_of : Collection → ℕ
nodes_of c = 1 + length c.indexes

unfoldable sum_of : List Row → ℕ
sum_of es = sum_by nodes_of (map (λ (e : Row). e.1) es)

sum_cons : (e : Row) (es : List Row) → sum_of (e ∷ es) ≡ nodes_of e.1 + sum_of es
unfolding sum_of
sum_cons e es = sum_by-cons nodes_of e.1 (map (λ (x : Row). x.1) es)

behind : (k : List ℕ) (c : Collection) (e : Row) (es : List Row) → sum_of (put name_cmp k c es) ≡ nodes_of c + sum_of es → sum_of (e ∷ put name_cmp k c es) ≡ nodes_of c + sum_of (e ∷ es)
behind k c e es h = omega (arith, sum_cons e (put name_cmp k c es), sum_cons e es, h)

-- a row whose key is new
sum_put : (k : List ℕ) (c : Collection) (es : List Row) → find name_cmp k es ≡ None → sum_of (put name_cmp k c es) ≡ nodes_of c + sum_of es
sum_put k c [] none = sum_cons (k, c) []
sum_put k c (e ∷ es) none = by (name_cmp k e.0) none (sum_put k c es)
  where
    by : (o : Ordering) → cond (is_eq o) (Some e.1) (find name_cmp k es) ≡ None → (find name_cmp k es ≡ None → sum_of (put name_cmp k c es) ≡ nodes_of c + sum_of es)
        → sum_of (by_order o ((k, c) ∷ e ∷ es) ((e.0, c) ∷ es) (e ∷ put name_cmp k c es)) ≡ nodes_of c + sum_of (e ∷ es)
    by Less h rest = sum_cons (k, c) (e ∷ es)
    by Equal h rest = absurd cc
    by Greater h rest = behind k c e es (rest h)

nodes_put : (db : Database) (k : List ℕ) (c : Collection) → get db k ≡ None → nodes_in (insert db k c) ≡ nodes_in db + nodes_of c
unfolding sum_of nodes_of
nodes_put db k c none =
    let sums = ap sum_of (entries-insert nat_list_cmp_total db k c) ∙ sum_put k c (entries db) (sym (get-entries db k) ∙ none) in
    omega (arith, sums)

abbrev absent : Option Collection
absent = None

either_none : (b : Bool) → cond b absent absent ≡ absent
either_none true = refl
either_none false = refl

still_absent : (db : Database) (k q : List ℕ) → get db q ≡ None → get (remove db k) q ≡ None
still_absent db k q none = get-remove nat_list_cmp_total db k q ∙ ap (cond (eq_by_cmp name_cmp q k) None) none ∙ either_none (eq_by_cmp name_cmp q k)

own_name : (k : List ℕ) → eq_by_cmp name_cmp k k ≡ true
own_name k = ap is_eq (tied_itself nat_list_cmp_total k)

gone : (db : Database) (k : List ℕ) → get (remove db k) k ≡ None
gone db k = get-remove nat_list_cmp_total db k k ∙ ap (λ b. cond b None (get db k)) (own_name k)

-- what is taken out and put back is the database that it was
put_back : (db : Database) (k : List ℕ) (c : Collection) → get db k ≡ Some c → insert (remove db k) k c ≡ db
put_back db k c there = same_map nat_list_cmp_total (slice_cmp-IsAntisymmetric nat_cmp-IsAntisymmetric) (insert (remove db k) k c) db each
  where
    by : (q : List ℕ) (b : Bool) → eq_by_cmp name_cmp q k ≡ b → cond b (Some c) (cond b None (get db q)) ≡ get db q
    by q true e = sym there ∙ ap (get db) (sym (one_name q k e))
    by q false e = refl

    each : (q : List ℕ) → get (insert (remove db k) k c) q ≡ get db q
    each q = get-insert nat_list_cmp_total (remove db k) k c q ∙ ap (cond (eq_by_cmp name_cmp q k) (Some c)) (get-remove nat_list_cmp_total db k q) ∙ by q (eq_by_cmp name_cmp q k) refl

nodes_without : (db : Database) (k : List ℕ) (c : Collection) → get db k ≡ Some c → nodes_in (remove db k) + nodes_of c ≡ nodes_in db
nodes_without db k c there = sym (nodes_put (remove db k) k c (gone db k)) ∙ ap nodes_in (put_back db k c there)

-- a collection has _id_, so it takes two nodes at least
two_at_least : (c : Collection) → IsCollection c → 2 ≤ nodes_of c
unfolding nodes_of
two_at_least c is = let len = ap length is.first in omega (arith, len)

left_by_drop : (nodes : ℕ) (other : List ℕ) (db : Database) (was : Option Collection) (c : Collection) → was ≡ Some c → nodes_in (remove db other) ≤ nodes → (settled nodes other db (dropped other was)).1 ≡ remove db other
left_by_drop nodes other db None c e h = absurd cc
left_by_drop nodes other db (Some x) c e h = by (nat_lt nodes (nodes_in (remove db other))) refl
  where
    by : (b : Bool) → nat_lt nodes (nodes_in (remove db other)) ≡ b → (unless_full b db (Done 1) (remove db other)).1 ≡ remove db other
    by true full = absurd (grind (arith, nat_tests, full, h))
    by false full = refl

reply_to_create : (nodes : ℕ) (coll : List ℕ) (db : Database) (was : Option Collection) → was ≡ None → ((settled nodes coll db (created was)).0 ≡ NsFull → ⊥) → (settled nodes coll db (created was)).0 ≡ Done 1
reply_to_create nodes coll db (Some c) e not_full = absurd cc
reply_to_create nodes coll db None e not_full = by (nat_lt nodes (nodes_in (insert db coll new_collection))) not_full
  where
    by : (b : Bool) → ((unless_full b db (Done 1) (insert db coll new_collection)).0 ≡ NsFull → ⊥) → (unless_full b db (Done 1) (insert db coll new_collection)).0 ≡ Done 1
    by true h = absurd (h refl)
    by false h = refl

pub room_is_back : RoomComesBack
room_is_back name nodes db coll other c is room none there =
    let rest = remove db other in
    let less = nodes_without db other c there in
    let two = two_at_least c (is other c there) in
    let absent = still_absent db other coll none in
    let same = left_by_drop nodes other db (get db other) c there (omega (arith, less, room)) in
    subst (λ x. (after name nodes x (Create coll)).0 ≡ Done 1) (sym same)
    (reply_to_create nodes coll rest (get rest coll) absent (λ full. absurd (omega (arith, (create_is_full name nodes rest coll absent).0.0 full, less, two, room))))
