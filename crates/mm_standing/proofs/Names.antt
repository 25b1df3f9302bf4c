-- Which names of nodes are those of collections: a collection of one database is one of each that the same nodes serve.
use Rattle.std.proofs.Common.{◌≡◌, ◌≢◌, ℕ, zero, suc, ◌+◌, ◌-◌, ◌<◌, inl, inr, Bool, true, false, List, [], ◌∷◌, ◌++◌, length, take, drop, Some, refl, sym, ◌∙◌, ap, subst, arith}
use Rattle.std.specs.Prelude.{codes, ◌⊎◌, ◌||◌, ◌==◌, not, nat_lt, slice_index}
use Rattle.std.specs.List.{list_all, list_any}
use Rattle.std.specs.FinMap.{get}
use Rattle.std.proofs.lemmas.Bool.{false≢true, eqb-true, ltb-true, or_parts, or_right}
use Rattle.std.proofs.lemmas.List.{append_cancel_left, append_assoc}
use Rattle.std.proofs.lemmas.List.Folds.{list_any-append}
use Rattle.mm_links.proofs.LinkLaws.{both, either}
use Rattle.mm_records.specs.Constants.{is_name, system_indexes}
use Rattle.mm_records.proofs.Freed.{name_is}
use Rattle.mm_model.specs.Database.{Index, Collection, Database}
use Rattle.mm_model.specs.Keyed.{namespace, full_name}
use Rattle.mm_check.specs.NodeQuestions.{is_word, free_name, indexes_name, dollar_at, is_coll, is_index, is_coll_index, is_own, has_form}
use Rattle.mm_check.proofs.RecordLaws.{if_yes, if_no}
use Rattle.mm_standing.specs.Database.{IsNodeName, index_at}

-- ---- names with and without a `$`

-- some byte is `$`
abbrev dollar : List ℕ → Bool
dollar xs = list_any (λ b. b == 36) xs

none_passes : (p : ℕ → Bool) → p 36 ≡ false → (xs : List ℕ) → list_all p xs ≡ true → dollar xs ≡ false
none_passes p out [] h = refl
none_passes p out (x ∷ xs) h = by (x == 36) refl (none_passes p out xs (both _ _ h).1)
  where
    by : (b : Bool) → (x == 36) ≡ b → dollar xs ≡ false → dollar (x ∷ xs) ≡ false
    by true e rest = absurd (false≢true (sym out ∙ ap p (sym (eqb-true x 36 e)) ∙ (both _ _ h).0))
    by false e rest = ap (λ (t : Bool). t || dollar xs) e ∙ rest

coll_plain : (c : List ℕ) → is_coll c ≡ true → dollar c ≡ false
unfolding is_coll
coll_plain c h = none_passes (λ b. is_word b || (b == 46)) refl c (both _ _ (both _ _ (both _ _ h).1).1).0

index_plain : (i : List ℕ) → is_index i ≡ true → dollar i ≡ false
unfolding is_index
index_plain i h = none_passes is_word refl i (both _ _ (both _ _ h).1).1

heads : (x y : ℕ) (xs ys : List ℕ) → x ∷ xs ≡ y ∷ ys → (x ≡ y) × (xs ≡ ys)
heads x y xs ys e = (cc, cc)

dollar_in : (zs j : List ℕ) → dollar (zs ++ 46 ∷ 36 ∷ j) ≡ true
dollar_in zs j = list_any-append (λ b. b == 36) zs (46 ∷ 36 ∷ j) ∙ or_right (dollar zs) true refl

dot_in : (zs j : List ℕ) → list_any (λ b. b == 46) (zs ++ 46 ∷ j) ≡ true
dot_in zs j = list_any-append (λ b. b == 46) zs (46 ∷ j) ∙ or_right (list_any (λ b. b == 46) zs) true refl

-- `C.$I` in one way, where neither has a `$`
one_split : (c i e j : List ℕ) → dollar c ≡ false → dollar i ≡ false → c ++ 46 ∷ 36 ∷ i ≡ e ++ 46 ∷ 36 ∷ j → (c ≡ e) × (i ≡ j)
one_split [] i [] j nc ni s = (refl, (heads 36 36 i j (heads 46 46 _ _ s).1).1)
one_split [] i (y ∷ []) j nc ni s = absurd (let t = (heads 36 46 i _ (heads 46 y _ _ s).1).0 in omega (arith, t))
one_split [] i (y ∷ z ∷ zs) j nc ni s = absurd (let t = (heads 36 z i _ (heads 46 y _ _ s).1).1 in false≢true (sym ni ∙ ap dollar t ∙ dollar_in zs j))
one_split (x ∷ []) i [] j nc ni s = absurd (let t = (heads 46 36 _ _ (heads x 46 _ _ s).1).0 in omega (arith, t))
one_split (x ∷ z ∷ zs) i [] j nc ni s = absurd (
    let t : z ≡ 36 = (heads z 36 _ _ (heads x 46 _ _ s).1).0 in
    false≢true (sym (or_parts _ _ (or_parts _ _ nc).1).0 ∙ ap (λ (k : ℕ). k == 36) t))
one_split (x ∷ xs) i (y ∷ ys) j nc ni s =
    let h = heads x y _ _ s in
    let r = one_split xs i ys j (or_parts _ _ nc).1 ni h.1 in
    let first : x ≡ y = h.0 in let rest : xs ≡ ys = r.0 in
    ((λ k. first k ∷ rest k), r.1)

-- what stands before the first `$`, and behind it
abbrev IsParted : List ℕ → ℕ → Type 0
IsParted xs k = xs ≡ take k xs ++ 36 ∷ drop (suc k) xs

parts_next : (x : ℕ) (xs : List ℕ) (b : Bool) → (x == 36) ≡ b → dollar_at (x ∷ xs) < length (x ∷ xs) → (dollar_at xs < length xs → IsParted xs (dollar_at xs)) → IsParted (x ∷ xs) (dollar_at (x ∷ xs))
parts_next x xs true e lt rest =
    let k : dollar_at (x ∷ xs) ≡ 0 = if_no (not (x == 36)) (1 + dollar_at xs) 0 (ap not e) in
    subst (λ (n : ℕ). IsParted (x ∷ xs) n) (sym k) (ap (λ (z : ℕ). z ∷ xs) (eqb-true x 36 e))
parts_next x xs false e lt rest =
    let k : dollar_at (x ∷ xs) ≡ suc (dollar_at xs) = if_yes (not (x == 36)) (1 + dollar_at xs) 0 (ap not e) ∙ omega arith in
    subst (λ (n : ℕ). IsParted (x ∷ xs) n) (sym k) (ap (λ (t : List ℕ). x ∷ t) (rest (omega (arith, k, lt))))

dollar_parts : (xs : List ℕ) → dollar_at xs < length xs → IsParted xs (dollar_at xs)
dollar_parts [] lt = absurd (omega (arith, lt))
dollar_parts (x ∷ xs) lt = parts_next x xs (x == 36) refl lt (dollar_parts xs)

one_more : (k : ℕ) (xs : List ℕ) (b : ℕ) → k < length xs → slice_index xs k ≡ b → take (suc k) xs ≡ take k xs ++ b ∷ []
one_more k [] b lt e = absurd (omega (arith, lt))
one_more zero (x ∷ xs) b lt e = ap (λ (z : ℕ). z ∷ []) e
one_more (suc k) (x ∷ xs) b lt e = ap (λ (t : List ℕ). x ∷ t) (one_more k xs b (omega (arith, lt)) e)

-- the parts of a name that is `C.$I`
record Parts (x : List ℕ) : Type 0 where
  c : List ℕ
  i : List ℕ
  whole : x ≡ c ++ 46 ∷ 36 ∷ i
  coll : is_coll c ≡ true
  index : is_index i ≡ true

parts_by : (x : List ℕ) (k : ℕ) → 0 < k → k < length x → IsParted x k → slice_index x (k - 1) ≡ 46 → x ≡ take (k - 1) x ++ 46 ∷ 36 ∷ drop (suc k) x
parts_by x k some inside parted dot =
    let next : suc (k - 1) ≡ k = omega (arith, some) in
    let lower : k - 1 < length x = omega (arith, some, inside) in
    let front : take k x ≡ take (k - 1) x ++ 46 ∷ [] = sym (ap (λ (n : ℕ). take n x) next) ∙ one_more (k - 1) x 46 lower dot in
    parted ∙ ap (λ (t : List ℕ). t ++ 36 ∷ drop (suc k) x) front ∙ append_assoc (take (k - 1) x) (46 ∷ []) (36 ∷ drop (suc k) x)

parts_of : (x : List ℕ) → is_coll_index x ≡ true → Parts x
unfolding is_coll_index
parts_of x h =
    let a = both (nat_lt 0 (dollar_at x)) _ h in
    let b = both (nat_lt (dollar_at x) (length x)) _ a.1 in
    let c = both (slice_index x (dollar_at x - 1) == 46) _ b.1 in
    let f = both (is_coll (take (dollar_at x - 1) x)) (is_index (drop (suc (dollar_at x)) x)) c.1 in
    let inside = ltb-true (dollar_at x) (length x) b.0 in
    record {
      c = take (dollar_at x - 1) x;
      i = drop (suc (dollar_at x)) x;
      whole = parts_by x (dollar_at x) (ltb-true 0 (dollar_at x) a.0) inside (dollar_parts x inside) (eqb-true (slice_index x (dollar_at x - 1)) 46 c.0);
      coll = f.0;
      index = f.1;
    }

-- ---- the names that a database's nodes have

-- the bytes of `$freelist`
abbrev free_word : List ℕ
free_word = 36 ∷ 102 ∷ 114 ∷ 101 ∷ 101 ∷ 108 ∷ 105 ∷ 115 ∷ 116 ∷ []

free_isnt : is_coll free_word ≡ false
unfolding is_coll
free_isnt = refl

indexes_isnt : is_coll system_indexes ≡ false
unfolding is_coll
indexes_isnt = refl

-- behind the name of the database and a dot
behind : (d x : List ℕ) → drop (suc (length d)) (d ++ 46 ∷ x) ≡ x
behind [] x = refl
behind (y ∷ d) x = behind d x

own_form : (d x : List ℕ) → has_form d (d ++ 46 ∷ x) ≡ true → x ≢ free_word → x ≢ system_indexes → (is_coll x ≡ true) ⊎ (is_coll_index x ≡ true)
unfolding has_form is_own
own_form d x h free indexes = elim (either (is_name (d ++ 46 ∷ x) (free_name d)) _ (both _ _ (both _ _ h).1).1) [
  | inl y ↦ absurd (free (heads 46 46 x free_word (append_cancel_left d (46 ∷ x) (46 ∷ free_word) (name_is (d ++ 46 ∷ x) (free_name d) y))).1)
  | inr r ↦ elim (either (is_name (d ++ 46 ∷ x) (indexes_name d)) _ r) [
    | inl y ↦ absurd (indexes (heads 46 46 x system_indexes (append_cancel_left d (46 ∷ x) (46 ∷ system_indexes) (name_is (d ++ 46 ∷ x) (indexes_name d) y))).1)
    | inr o ↦ subst (λ (z : List ℕ). (is_coll z ≡ true) ⊎ (is_coll_index z ≡ true)) (behind d x) (either (is_coll (drop (suc (length d)) (d ++ 46 ∷ x))) _ (both _ _ o).1)
  ]
]

-- the form of an index's name is that of its collection's
pub index_form : (d c i : List ℕ) → has_form d (d ++ 46 ∷ (c ++ 46 ∷ 36 ∷ i)) ≡ true → is_coll c ≡ true
index_form d c i h = elim (own_form d (c ++ 46 ∷ 36 ∷ i) h
    (λ e. false≢true (ap (list_any (λ b. b == 46)) (sym e) ∙ dot_in c (36 ∷ i)))
    (λ e. false≢true (ap dollar (sym e) ∙ dollar_in c i))) [
      | inl y ↦ absurd (false≢true (sym (coll_plain (c ++ 46 ∷ 36 ∷ i) y) ∙ dollar_in c i))
      | inr y ↦
          let p = parts_of (c ++ 46 ∷ 36 ∷ i) y in
          let s = one_split p.c p.i c i (coll_plain p.c p.coll) (index_plain p.i p.index) (sym p.whole) in
          subst (λ (z : List ℕ). is_coll z ≡ true) s.0 p.coll
    ]

coll_is : (d c : List ℕ) → namespace d c ≡ d ++ 46 ∷ c
coll_is d c = append_assoc d (codes ".") c

-- the name of an index begins with that of its collection
full_is : (d c : List ℕ) (index : Index) → full_name (namespace d c) index ≡ d ++ 46 ∷ (c ++ 46 ∷ 36 ∷ index.name)
full_is d c index =
    append_assoc (namespace d c) (codes ".$") index.name ∙ ap (λ (t : List ℕ). t ++ 46 ∷ 36 ∷ index.name) (coll_is d c) ∙ append_assoc d (46 ∷ c) (46 ∷ 36 ∷ index.name)

pub coll_of_index : (d c : List ℕ) (index : Index) → has_form d (full_name (namespace d c) index) ≡ true → is_coll c ≡ true
coll_of_index d c index h = index_form d c index.name (subst (λ (z : List ℕ). has_form d z ≡ true) (full_is d c index) h)

same_behind : (d x y : List ℕ) → d ++ 46 ∷ x ≡ d ++ 46 ∷ y → x ≡ y
same_behind d x y e = (heads 46 46 x y (append_cancel_left d (46 ∷ x) (46 ∷ y) e)).1

-- a node of a collection's name is that of this collection
pub coll_of_node : (d : List ℕ) (db : Database) (coll : List ℕ) → is_coll coll ≡ true → IsNodeName d db (namespace d coll) → (c : Collection) × (get db coll ≡ Some c)
coll_of_node d db coll h n = elim n [
  | inl e ↦ absurd (false≢true (sym free_isnt ∙ ap is_coll (sym (same_behind d coll free_word (sym (coll_is d coll) ∙ e))) ∙ h))
  | inr r ↦ elim r [
    | inl e ↦ absurd (false≢true (sym indexes_isnt ∙ ap is_coll (sym (same_behind d coll system_indexes (sym (coll_is d coll) ∙ e))) ∙ h))
    | inr o ↦ elim o.3 [
      | inl e ↦ (o.1, subst (λ (z : List ℕ). get db z ≡ Some o.1) (sym (same_behind d coll o.0 (sym (coll_is d coll) ∙ e ∙ coll_is d o.0))) o.2)
      | inr x ↦ absurd (
          let index : Index = index_at o.1 x.0 in
          let e = same_behind d coll (o.0 ++ 46 ∷ 36 ∷ index.name) (sym (coll_is d coll) ∙ x.2 ∙ full_is d o.0 index) in
          false≢true (sym (coll_plain coll h) ∙ ap dollar e ∙ dollar_in o.0 index.name))
    ]
  ]
]
