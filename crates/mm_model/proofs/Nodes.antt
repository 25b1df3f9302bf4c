-- How many nodes a database takes.
use Rattle.std.proofs.Common.{◌≡◌, ℕ, ◌+◌, ◌≤◌, ◌<◌, Bool, true, false, List, [], ◌∷◌, Option, Some, None, refl, sym, ap, ◌∙◌, arith, length}
use Rattle.std.specs.Prelude.{nat_lt, sum_by, map, ◌↔◌, cond}
use Rattle.std.specs.declared.cmp.Ordering.{Ordering}
use Rattle.std.specs.declared.cmp.Ordering.TheVariants.{Less, Equal, Greater}
use Rattle.std.specs.Ordering.{nat_cmp, is_eq}
use Rattle.std.specs.Cmp.Lexicographic.{slice_cmp, nat_list_cmp_total}
use Rattle.std.specs.FinMap.{get, insert, entries, entries-insert, get-entries, find}
use Rattle.std.specs.FinMap.Entries.{put, by_order}
use Rattle.std.proofs.lemmas.Bool.Decides.{nat_tests}
use Rattle.std.proofs.lemmas.List.Sums.{sum_by-cons}
use Rattle.mm_model.specs.declared.reply.Reply.{Reply}
use Rattle.mm_model.specs.declared.reply.Reply.TheVariants.{Done, NsFull}
use Rattle.mm_model.specs.Database.{Collection, Database, new_collection, nodes_in}
use Rattle.mm_model.specs.Keyed.{namespace}
use Rattle.mm_model.specs.Commands.{Outcome, refused, answered, done, created, outcome, collection_of}
use Rattle.mm_model.specs.After.{unless_full, with_collection, settled}
use Rattle.mm_model.specs.Laws.{RoomStays, CreateIsFull}

-- ---- room

room_if : (nodes : ℕ) (b : Bool) (r : Reply) (old new : Database) → nat_lt nodes (nodes_in new) ≡ b → nodes_in old ≤ nodes → nodes_in (unless_full b old r new).1 ≤ nodes
room_if nodes true r old new e h = h
room_if nodes false r old new e h = grind (arith, nat_tests, e)

room_settled : (nodes : ℕ) (coll : List ℕ) (db : Database) (o : Outcome) → nodes_in db ≤ nodes → nodes_in (settled nodes coll db o).1 ≤ nodes
room_settled nodes coll db (refused r) h = h
room_settled nodes coll db (answered r) h = h
room_settled nodes coll db (done r x) h = room_if nodes (nat_lt nodes (nodes_in (with_collection coll x db))) r db (with_collection coll x db) refl h

pub room_stays : RoomStays
room_stays name nodes db c h = room_settled nodes (collection_of c) db (outcome (namespace name (collection_of c)) c (get db (collection_of c))) h

-- ---- a collection more

abbrev Entry : Type 0
Entry = List ℕ × Collection

-- a collection's node, and one for each index
unfoldable nodes_of : Collection → ℕ
nodes_of c = 1 + length c.indexes

unfoldable sum_of : List Entry → ℕ
sum_of es = sum_by nodes_of (map (λ (e : Entry). e.1) es)

sum_cons : (e : Entry) (es : List Entry) → sum_of (e ∷ es) ≡ nodes_of e.1 + sum_of es
unfolding sum_of
sum_cons e es = sum_by-cons nodes_of e.1 (map (λ (x : Entry). x.1) es)

behind : (k : List ℕ) (c : Collection) (e : Entry) (es : List Entry) → sum_of (put (slice_cmp nat_cmp) k c es) ≡ nodes_of c + sum_of es → sum_of (e ∷ put (slice_cmp nat_cmp) k c es) ≡ nodes_of c + sum_of (e ∷ es)
behind k c e es h = omega (arith, sum_cons e (put (slice_cmp nat_cmp) k c es), sum_cons e es, h)

-- an entry whose key is new
sum_put : (k : List ℕ) (c : Collection) (es : List Entry) → find (slice_cmp nat_cmp) k es ≡ None → sum_of (put (slice_cmp nat_cmp) k c es) ≡ nodes_of c + sum_of es
sum_put k c [] none = sum_cons (k, c) []
sum_put k c (e ∷ es) none = by (slice_cmp nat_cmp k e.0) none (sum_put k c es)
  where
    by : (o : Ordering) → cond (is_eq o) (Some e.1) (find (slice_cmp nat_cmp) k es) ≡ None → (find (slice_cmp nat_cmp) k es ≡ None → sum_of (put (slice_cmp nat_cmp) k c es) ≡ nodes_of c + sum_of es)
        → sum_of (by_order o ((k, c) ∷ e ∷ es) ((e.0, c) ∷ es) (e ∷ put (slice_cmp nat_cmp) k c es)) ≡ nodes_of c + sum_of (e ∷ es)
    by Less h rest = sum_cons (k, c) (e ∷ es)
    by Equal h rest = absurd cc
    by Greater h rest = behind k c e es (rest h)

nodes_put : (coll : List ℕ) (c : Collection) (db : Database) → get db coll ≡ None → nodes_in (insert db coll c) ≡ nodes_in db + nodes_of c
unfolding sum_of nodes_of
nodes_put coll c db none =
    let sums = ap sum_of (entries-insert nat_list_cmp_total db coll c) ∙ sum_put coll c (entries db) (sym (get-entries db coll) ∙ none) in
    omega (arith, sums)

made : (nodes : ℕ) (b : Bool) (old new : Database) → nat_lt nodes (nodes_in new) ≡ b → nodes_in new ≡ nodes_in old + 2
    → ((unless_full b old (Done 1) new).0 ≡ NsFull ↔ nodes < nodes_in old + 2) × ((unless_full b old (Done 1) new).0 ≡ Done 1 → nodes_in (unless_full b old (Done 1) new).1 ≡ nodes_in old + 2)
made nodes true old new e h = (((λ full. grind (arith, nat_tests, e, h)), (λ less. refl)), (λ ok. absurd cc))
made nodes false old new e h = (((λ full. absurd cc), (λ less. absurd (grind (arith, nat_tests, e, h)))), (λ ok. h))

created_is : (nodes : ℕ) (coll : List ℕ) (db : Database) (was : Option Collection) → get db coll ≡ was → was ≡ None
    → ((settled nodes coll db (created was)).0 ≡ NsFull ↔ nodes < nodes_in db + 2) × ((settled nodes coll db (created was)).0 ≡ Done 1 → nodes_in (settled nodes coll db (created was)).1 ≡ nodes_in db + 2)
unfolding nodes_of
created_is nodes coll db None same none =
    let new = insert db coll new_collection in made nodes (nat_lt nodes (nodes_in new)) db new refl (nodes_put coll new_collection db same)
created_is nodes coll db (Some c) same none = absurd cc

pub create_is_full : CreateIsFull
create_is_full name nodes db coll none = created_is nodes coll db (get db coll) refl none
