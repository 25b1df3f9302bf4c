-- A collection that the files have has no `$` in its name, so that its namespaces are its own.
use Rattle.std.proofs.Common.{◌≡◌, ◌≢◌, ℕ, suc, ◌+◌, inl, inr, Bool, true, false, ◌&&◌, ◌||◌, ◌==◌, not, cond, List, [], ◌∷◌, ◌++◌, length, drop, get_or, Some, refl, sym, ◌∙◌, ap, arith}
use Rattle.std.proofs.lemmas.Int.{ints}
use Rattle.std.proofs.lemmas.Bool.{cases_Bool, false≢true}
use Rattle.std.proofs.lemmas.List.{append_cancel_left, append_assoc, length-append}
use Rattle.std.proofs.lemmas.List.Folds.{list_any-append}
use Rattle.std.specs.List.{list_any, prefix_len}
use Rattle.std.specs.FinMap.{get}
use Rattle.mm_ranges.specs.Overlay.{Image}
use Rattle.mm_nstable.specs.Nodes.{node_at, details_in}
use Rattle.mm_nstable.specs.Table.{Held}
use Rattle.mm_nstable.proofs.Tables.{table_at}
use Rattle.mm_records.specs.Constants.{is_name, behind_dot, system_indexes, is_collection}
use Rattle.mm_nstable.specs.FreeChain.{IsFreeName, free_list}
use Rattle.mm_records.proofs.Freed.{name_own}
use Rattle.mm_records.specs.Stands.{ns_in}
use Rattle.mm_records.specs.Map.{name_at}
use Rattle.mm_model.specs.Database.{Index, Collection, Database}
use Rattle.mm_model.specs.Keyed.{namespace, full_name}
use Rattle.mm_check.specs.NodeQuestions.{free_name, indexes_name}
use Rattle.mm_standing.specs.Database.{HasDatabase}
use Rattle.mm_standing.proofs.OneRoom.{one_free}

no_or : (a b : Bool) → (a || b) ≡ false → b ≡ false
no_or false b e = e
no_or true b e = absurd (false≢true (sym e))

no_first : (a b : Bool) → (a || b) ≡ false → a ≡ false
no_first false b e = refl
no_first true b e = absurd (false≢true (sym e))

not_and : (a b : Bool) → (not a && b) ≡ true → a ≡ false
not_and false b e = refl
not_and true b e = absurd (false≢true e)

-- ---- what stands behind the first dot has all of the collection's name

behind_from : (rest : List ℕ) (x : ℕ) (b : Bool) → (x == 46) ≡ b → behind_dot (x ∷ rest) ≡ drop (suc (cond (not b) (1 + prefix_len (λ b. not (b == 46)) rest) 0)) (x ∷ rest)
behind_from rest x b e = ap (λ (c : Bool). drop (suc (cond (not c) (1 + prefix_len (λ b. not (b == 46)) rest) 0)) (x ∷ rest)) e

behind_plain : (d coll : List ℕ) → list_any (λ b. b == 36) (behind_dot (d ++ 46 ∷ coll)) ≡ false → list_any (λ b. b == 36) coll ≡ false
behind_plain [] coll e = e
behind_plain (x ∷ d) coll e = elim (cases_Bool (x == 46)) [
  | inl y ↦ no_or (list_any (λ b. b == 36) d) (list_any (λ b. b == 36) coll)
      (sym (list_any-append (λ b. b == 36) d (46 ∷ coll)) ∙ sym (ap (list_any (λ b. b == 36)) (behind_from (d ++ 46 ∷ coll) x true y)) ∙ e)
  | inr n ↦
      let next : 1 + prefix_len (λ b. not (b == 46)) (d ++ 46 ∷ coll) ≡ suc (prefix_len (λ b. not (b == 46)) (d ++ 46 ∷ coll)) = omega arith in
      behind_plain d coll (sym (ap (list_any (λ b. b == 36)) (behind_from (d ++ 46 ∷ coll) x false n ∙ ap (λ (m : ℕ). drop m (d ++ 46 ∷ coll)) next)) ∙ e)
]

plain_of : (d coll : List ℕ) → is_collection (namespace d coll) ≡ true → list_any (λ b. b == 36) coll ≡ false
unfolding is_collection
plain_of d coll e =
    behind_plain d coll (sym (ap (λ (n : List ℕ). list_any (λ b. b == 36) (behind_dot n)) (append_assoc d (46 ∷ []) coll))
    ∙ not_and (list_any (λ b. b == 36) (behind_dot (namespace d coll))) (not (is_name (behind_dot (namespace d coll)) system_indexes)) e)

-- the details of its node count an index, as those of a collection alone do
pub is_one : (d : List ℕ) (image : Image) (db : Database) → HasDatabase d image db → (coll : List ℕ) (c : Collection) → get db coll ≡ Some c → is_collection (namespace d coll) ≡ true
is_one d image db h coll c e = elim (cases_Bool (is_collection (namespace d coll))) [
  | inl y ↦ y
  | inr n ↦
      let x = h.collections coll c e in
      let long : length c.indexes ≡ suc (length (h.is_database coll c e).others) = ap (λ (is : List Index). length is) (h.is_database coll c e).first in
      let i = (x.indexes 0 (omega (arith, long))).lists in
      let st = h.points.stands in
      let held : Held = record { node = x.node; details = details_in (node_at (ns_in image) x.node) } in
      let isnt : name_at image x.node ≢ free_name d = λ f. i.owner_is.isnt_free (f ∙ sym (one_free image (free_name d) i.free h.shape i.shape st i.holds.stands)) in
      let right = st.counts (name_at image x.node) held (table_at (ns_in image) x.node (name_at image x.node) st.table x.is_node.used refl) isnt in
      let none = right.constants.no_indexes (ap is_collection x.is_node.named ∙ n) in
      let some = i.counted in
      absurd (omega (arith, ints, none, some))
]

pub plain : (d : List ℕ) (image : Image) (db : Database) → HasDatabase d image db → (coll : List ℕ) (c : Collection) → get db coll ≡ Some c → list_any (λ b. b == 36) coll ≡ false
plain d image db h coll c e = plain_of d coll (is_one d image db h coll c e)

-- ---- the list of indexes is no collection

-- the database's name has no dot, as its node of the free chain says
behind_all : (d rest : List ℕ) → drop (prefix_len (λ b. not (b == 46)) (d ++ free_list)) (d ++ free_list) ≡ free_list → behind_dot (d ++ 46 ∷ rest) ≡ rest
behind_all [] rest e = refl
behind_all (x ∷ d) rest e = elim (cases_Bool (x == 46)) [
  | inl y ↦
      let f : x ∷ d ++ free_list ≡ free_list = sym (ap (λ (b : Bool). drop (cond (not b) (1 + prefix_len (λ b. not (b == 46)) (d ++ free_list)) 0) (x ∷ d ++ free_list)) y) ∙ e in
      let l : suc (length (d ++ free_list)) ≡ length free_list = ap length f in
      let m : length (d ++ free_list) ≡ length d + length free_list = length-append d free_list in
      absurd (omega (arith, l, m))
  | inr n ↦
      let next : 1 + prefix_len (λ b. not (b == 46)) (d ++ 46 ∷ rest) ≡ suc (prefix_len (λ b. not (b == 46)) (d ++ 46 ∷ rest)) = omega arith in
      let next' : 1 + prefix_len (λ b. not (b == 46)) (d ++ free_list) ≡ suc (prefix_len (λ b. not (b == 46)) (d ++ free_list)) = omega arith in
      let f = sym (ap (λ (b : Bool). drop (cond (not b) (1 + prefix_len (λ b. not (b == 46)) (d ++ free_list)) 0) (x ∷ d ++ free_list)) n ∙ ap (λ (m : ℕ). drop m (x ∷ d ++ free_list)) next') ∙ e in
      behind_from (d ++ 46 ∷ rest) x false n ∙ ap (λ (m : ℕ). drop m (d ++ 46 ∷ rest)) next ∙ behind_all d rest f
]

free_behind : (d rest : List ℕ) → IsFreeName (free_name d) → behind_dot (d ++ 46 ∷ rest) ≡ rest
unfolding IsFreeName
free_behind d rest e = behind_all d rest e

not_list : (d : List ℕ) → behind_dot (indexes_name d) ≡ system_indexes → is_collection (indexes_name d) ≡ false
unfolding is_collection
not_list d e = ap (λ (n : List ℕ). not (list_any (λ b. b == 36) n) && not (is_name n system_indexes)) e ∙ ap (λ (b : Bool). true && not b) (name_own system_indexes system_indexes refl)

pub isnt_list : (d : List ℕ) (image : Image) (db : Database) → HasDatabase d image db → (coll : List ℕ) (c : Collection) → get db coll ≡ Some c → namespace d coll ≢ indexes_name d
isnt_list d image db h coll c e f =
    false≢true (sym (not_list d (free_behind d system_indexes h.points.stands.free_chain.1.node.named)) ∙ sym (ap is_collection f) ∙ is_one d image db h coll c e)

-- ---- names that are one

-- what stands before the first `.$`
short : (y : ℕ) (b m n : List ℕ) → list_any (λ x. x == 36) (y ∷ b) ≡ false → 46 ∷ 36 ∷ m ≡ y ∷ b ++ 46 ∷ 36 ∷ n → ⊥
short y [] m n q e = let f : 36 ≡ 46 = ap (λ (xs : List ℕ). get_or xs 1 0) e in omega (arith, f)
short y (z ∷ b) m n q e =
    let f : 36 ≡ z = ap (λ (xs : List ℕ). get_or xs 1 0) e in
    false≢true (sym (no_first (z == 36) (list_any (λ x. x == 36) b) (no_or (y == 36) (list_any (λ x. x == 36) (z ∷ b)) q)) ∙ sym (ap (λ (k : ℕ). k == 36) f))

cut : (a b m n : List ℕ) → list_any (λ x. x == 36) a ≡ false → list_any (λ x. x == 36) b ≡ false → a ++ 46 ∷ 36 ∷ m ≡ b ++ 46 ∷ 36 ∷ n → a ≡ b
cut [] [] m n p q e = refl
cut (x ∷ a) (y ∷ b) m n p q e =
    let f : x ≡ y = ap (λ (xs : List ℕ). get_or xs 0 0) e in
    let g : a ++ 46 ∷ 36 ∷ m ≡ b ++ 46 ∷ 36 ∷ n = ap (drop 1) e in
    let r = cut a b m n (no_or (x == 36) (list_any (λ x. x == 36) a) p) (no_or (y == 36) (list_any (λ x. x == 36) b) q) g in
    λ i. f i ∷ r i
cut [] (y ∷ b) m n p q e = absurd (short y b m n q e)
cut (x ∷ a) [] m n p q e = absurd (short x a n m p (sym e))

-- a name with a `$` isn't plain
or_true : (b : Bool) → (b || true) ≡ true
or_true true = refl
or_true false = refl

has_dollar : (a m : List ℕ) → list_any (λ x. x == 36) (a ++ 46 ∷ 36 ∷ m) ≡ true
has_dollar [] m = refl
has_dollar (x ∷ a) m = ap (λ (b : Bool). (x == 36) || b) (has_dollar a m) ∙ or_true (x == 36)

-- ---- namespaces of collections and of their indexes

in_full : (d coll : List ℕ) (index : Index) → full_name (namespace d coll) index ≡ (d ++ 46 ∷ []) ++ (coll ++ 46 ∷ 36 ∷ index.name)
in_full d coll index =
    append_assoc (namespace d coll) (46 ∷ 36 ∷ []) index.name ∙ append_assoc (d ++ 46 ∷ []) coll (46 ∷ 36 ∷ index.name)

-- two collections
pub one_coll : (d a b : List ℕ) → namespace d a ≡ namespace d b → a ≡ b
one_coll d a b e = append_cancel_left (d ++ 46 ∷ []) a b e

-- a collection, and an index
pub coll_or_index : (d a b : List ℕ) (index : Index) → list_any (λ x. x == 36) a ≡ false → namespace d a ≡ full_name (namespace d b) index → ⊥
coll_or_index d a b index p e =
    let f = append_cancel_left (d ++ 46 ∷ []) a (b ++ 46 ∷ 36 ∷ index.name) (e ∙ in_full d b index) in
    false≢true (sym p ∙ ap (list_any (λ x. x == 36)) f ∙ has_dollar b index.name)

-- indexes of two collections
pub one_owner : (d a b : List ℕ) (i j : Index) → list_any (λ x. x == 36) a ≡ false → list_any (λ x. x == 36) b ≡ false → full_name (namespace d a) i ≡ full_name (namespace d b) j → a ≡ b
one_owner d a b i j p q e =
    cut a b i.name j.name p q (append_cancel_left (d ++ 46 ∷ []) (a ++ 46 ∷ 36 ∷ i.name) (b ++ 46 ∷ 36 ∷ j.name) (sym (in_full d a i) ∙ e ∙ in_full d b j))

-- an index, and the list of indexes
pub index_isnt_list : (d a : List ℕ) (index : Index) → full_name (namespace d a) index ≢ indexes_name d
index_isnt_list d a index e = coll_or_index d system_indexes a index refl (append_assoc d (46 ∷ []) system_indexes ∙ sym e)
