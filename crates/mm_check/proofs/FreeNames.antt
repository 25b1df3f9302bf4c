-- Of the names that a database's nodes may have, one alone is that of the free chain's node.
use Rattle.std.proofs.Common.{◌≡◌, ℕ, suc, ◌+◌, inl, inr, Bool, true, false, List, [], ◌∷◌, ◌++◌, length, take, drop, Some, None, refl, sym, ◌∙◌, ap, subst, arith}
use Rattle.std.specs.Prelude.{◌||◌, ◌==◌, not}
use Rattle.std.specs.List.{prefix_len}
use Rattle.std.specs.FinMap.{get}
use Rattle.std.proofs.lemmas.Bool.{cases_Bool, false≢true, eqb-true}
use Rattle.mm_nstable.specs.Nodes.{is_used, node_at, name_in, details_in, count_of, IsTable}
use Rattle.mm_nstable.specs.Table.{Held, table_of}
use Rattle.mm_nstable.specs.FreeChain.{free_list, IsFreeName, HasFreeChain}
use Rattle.mm_nstable.proofs.Tables.{used_from, used_parts, table_at, table_none}
use Rattle.mm_links.proofs.LinkLaws.{both, either}
use Rattle.mm_records.specs.Constants.{is_name, system_indexes}
use Rattle.mm_records.proofs.Freed.{name_is}
use Rattle.mm_check.specs.NodeQuestions.{free_name, indexes_name, is_coll, is_coll_index, is_own, has_form, has_name, NodesStand}
use Rattle.mm_check.specs.Standing.{HasNoDot}
use Rattle.mm_check.proofs.RecordLaws.{if_yes}
use Rattle.mm_check.proofs.NodeLaws.{has_name_true, has_name_of}

abbrev no_dot : ℕ → Bool
no_dot b = not (b == 46)

dotless : (x : ℕ) (xs : List ℕ) → HasNoDot (x ∷ xs) → (no_dot x ≡ true) × HasNoDot xs
dotless x xs n = (by (x == 46) refl, λ t. let lt = t.1 in n (suc t.0, omega (arith, lt), t.2))
  where
    by : (b : Bool) → (x == 46) ≡ b → not b ≡ true
    by true e = absurd (n (0, omega arith, eqb-true x 46 e))
    by false e = refl

-- behind a name without a dot the first dot is the next byte
drop_name : (d rest : List ℕ) → HasNoDot d → drop (prefix_len (λ b. not (b == 46)) (d ++ 46 ∷ rest)) (d ++ 46 ∷ rest) ≡ 46 ∷ rest
drop_name [] rest n = refl
drop_name (x ∷ xs) rest n =
    let t = dotless x xs n in
    let e : prefix_len (λ b. not (b == 46)) (x ∷ (xs ++ 46 ∷ rest)) ≡ suc (prefix_len (λ b. not (b == 46)) (xs ++ 46 ∷ rest)) = if_yes (no_dot x) (1 + prefix_len (λ b. not (b == 46)) (xs ++ 46 ∷ rest)) 0 t.0 ∙ omega arith in
    ap (λ (k : ℕ). drop k (x ∷ (xs ++ 46 ∷ rest))) e ∙ drop_name xs rest t.1

pub free_named : (d : List ℕ) → HasNoDot d → IsFreeName (free_name d)
unfolding IsFreeName
free_named d n = drop_name d (36 ∷ 102 ∷ 114 ∷ 101 ∷ 101 ∷ 108 ∷ 105 ∷ 115 ∷ 116 ∷ []) n

-- the bytes of `$freelist`
abbrev free_word : List ℕ
free_word = 36 ∷ 102 ∷ 114 ∷ 101 ∷ 101 ∷ 108 ∷ 105 ∷ 115 ∷ 116 ∷ []

heads : (x y : ℕ) (xs ys : List ℕ) → x ∷ xs ≡ y ∷ ys → (x ≡ y) × (xs ≡ ys)
heads x y xs ys e = (cc, cc)

-- a name that begins with that of the database and a dot, and reads as the free chain's from its first dot on
behind_name : (d name : List ℕ) → HasNoDot d → take (length (d ++ 46 ∷ [])) name ≡ d ++ 46 ∷ [] → drop (prefix_len (λ b. not (b == 46)) name) name ≡ 46 ∷ free_word → drop (suc (length d)) name ≡ free_word
behind_name [] [] n t e = absurd (let f : [] ≡ 46 ∷ [] = t in cc)
behind_name [] (y ∷ ys) n t e =
    let h = heads y 46 [] [] t in
    let no : prefix_len (λ b. not (b == 46)) (y ∷ ys) ≡ 0 = ap (λ (k : ℕ). prefix_len (λ b. not (b == 46)) (k ∷ ys)) h.0 in
    (heads y 46 ys free_word (sym (ap (λ (k : ℕ). drop k (y ∷ ys)) no) ∙ e)).1
behind_name (x ∷ xs) [] n t e = absurd (let f : [] ≡ x ∷ (xs ++ 46 ∷ []) = t in cc)
behind_name (x ∷ xs) (y ∷ ys) n t e =
    let u = dotless x xs n in
    let h = heads y x (take (length (xs ++ 46 ∷ [])) ys) (xs ++ 46 ∷ []) t in
    let f : prefix_len (λ b. not (b == 46)) (y ∷ ys) ≡ suc (prefix_len (λ b. not (b == 46)) ys) = if_yes (no_dot y) (1 + prefix_len (λ b. not (b == 46)) ys) 0 (ap no_dot h.0 ∙ u.0) ∙ omega arith in
    behind_name xs ys u.1 h.1 (sym (ap (λ (k : ℕ). drop k (y ∷ ys)) f) ∙ e)

not_coll : is_coll free_word ≡ false
unfolding is_coll
not_coll = refl

not_coll_index : is_coll_index free_word ≡ false
unfolding is_coll_index
not_coll_index = refl

or_false : (a b : Bool) → a ≡ false → b ≡ false → (a || b) ≡ true → ⊥
or_false a b e f h = elim (either a b h) [ inl x ↦ false≢true (sym e ∙ x) | inr y ↦ false≢true (sym f ∙ y) ]

pub only_free : (d name : List ℕ) → HasNoDot d → has_form d name ≡ true → IsFreeName name → name ≡ free_name d
unfolding IsFreeName has_form is_own
only_free d name n f e = elim (either (is_name name (free_name d)) _ (both _ _ (both _ _ f).1).1) [
  | inl y ↦ name_is name (free_name d) y
  | inr r ↦ elim (either (is_name name (indexes_name d)) _ r) [
    | inl y ↦ absurd (
        let own : drop (prefix_len (λ b. not (b == 46)) (indexes_name d)) (indexes_name d) ≡ 46 ∷ system_indexes = drop_name d system_indexes n in
        let same : 46 ∷ system_indexes ≡ free_list = sym own ∙ ap (λ (m : List ℕ). drop (prefix_len (λ b. not (b == 46)) m) m) (sym (name_is name (indexes_name d) y)) ∙ e in
        let second : 115 ≡ 36 = (heads 115 36 _ _ (heads 46 46 _ _ same).1).0 in
        omega (arith, second))
    | inr o ↦ absurd (
        let t = both _ _ o in
        let w = behind_name d name n (name_is (take (length (d ++ 46 ∷ [])) name) (d ++ 46 ∷ []) t.0) e in
        or_false (is_coll (drop (suc (length d)) name)) (is_coll_index (drop (suc (length d)) name)) (ap is_coll w ∙ not_coll) (ap is_coll_index w ∙ not_coll_index) t.1)
  ]
]

-- ---- what the map of a `.ns` file has is a used node

pub record IsHeld (bytes name : List ℕ) (held : Held) : Type 0 where
  pub k : ℕ
  pub used : is_used bytes k ≡ true
  pub named : name_in (node_at bytes k) ≡ name
  pub is : held ≡ record { node = k; details = details_in (node_at bytes k) }

one_held : (x y : Held) → Some x ≡ Some y → x ≡ y
one_held x y e = cc

pub is_held : (bytes name : List ℕ) (held : Held) → IsTable bytes → get (table_of bytes) name ≡ Some held → IsHeld bytes name held
is_held bytes name held t e = elim (cases_Bool (has_name bytes (count_of bytes) name)) [
  | inl y ↦
      let x = has_name_true bytes (count_of bytes) name y in
      let u = used_from bytes x.j x.below x.used in
      record { k = x.j; used = u; named = x.named; is = one_held held _ (sym e ∙ table_at bytes x.j name t u x.named) }
  | inr n ↦ absurd (
      let none = table_none bytes name (λ k u named. let p = used_parts bytes k u in false≢true (sym n ∙ has_name_of bytes (count_of bytes) k name p.there p.used named)) in
      let f : None ≡ Some held = sym none ∙ e in
      cc)
]

-- the node of the free chain
pub free_chain_there : (d bytes : List ℕ) → HasNoDot d → NodesStand d bytes → (held : Held) × HasFreeChain bytes (free_name d) held × (held ≡ record { node = held.node; details = details_in (node_at bytes held.node) }) × (is_used bytes held.node ≡ true) × (name_in (node_at bytes held.node) ≡ free_name d)
free_chain_there d bytes n s = (
  record { node = s.free.node; details = details_in (node_at bytes s.free.node) },
  record {
    is = table_at bytes s.free.node (free_name d) s.table s.free.used s.free.named;
    named = free_named d n;
    only = λ name other e f.
        let h = is_held bytes name other s.table e in
        only_free d name n (subst (λ (m : List ℕ). has_form d m ≡ true) h.named (s.forms h.k h.used)) f;
  },
  refl,
  s.free.used,
  s.free.named,
)
