-- What the form of the node of `_id_` says of the name of its collection.
use Rattle.std.proofs.Common.{◌≡◌, ℕ, suc, ◌+◌, ◌-◌, ◌⊎◌, inl, inr, Bool, true, false, List, [], ◌∷◌, ◌++◌, length, drop, refl, sym, ◌∙◌, ap, subst, arith}
use Rattle.std.specs.Prelude.{◌==◌, ◌||◌, ◌&&◌, not, nat_le, nat_lt, take, slice_index}
use Rattle.std.specs.List.{list_all, list_any}
use Rattle.std.proofs.lemmas.Bool.{cases_Bool, false≢true, eqb-true}
use Rattle.mm_links.proofs.LinkLaws.{both, either}
use Rattle.mm_nstable.specs.FreeChain.{free_list}
use Rattle.mm_records.specs.Constants.{is_name, system_indexes}
use Rattle.mm_records.proofs.Freed.{name_is}
use Rattle.mm_model.specs.Database.{id_index}
use Rattle.mm_model.specs.Keyed.{namespace, full_name}
use Rattle.mm_check.specs.NodeQuestions.{free_name, indexes_name, is_word, dollar_at, is_coll, is_index, is_coll_index, is_own, has_form}
use Rattle.mm_check.proofs.RecordLaws.{if_yes, if_no}
use Rattle.mm_standing.proofs.NameLists.{or_right}
use Rattle.mm_standing.proofs.OwnNames.{NoDollar, heads, cancel, full_is, free_word}

abbrev dollar : ℕ → Bool
dollar b = b == 36

abbrev dot : ℕ → Bool
dot b = b == 46

abbrev word_or_dot : ℕ → Bool
word_or_dot b = is_word b || (b == 46)

-- ---- `$` and `.` in a name behind the database's

some_dot : (coll x : List ℕ) → list_any dot (coll ++ 46 ∷ x) ≡ true
some_dot [] x = refl
some_dot (c ∷ coll) x = or_right (dot c) (list_any dot (coll ++ 46 ∷ x)) (some_dot coll x)

some_dollar : (coll x : List ℕ) → list_any dollar (coll ++ 46 ∷ 36 ∷ x) ≡ true
some_dollar [] x = refl
some_dollar (c ∷ coll) x = or_right (dollar c) (list_any dollar (coll ++ 46 ∷ 36 ∷ x)) (some_dollar coll x)

no_dollar_in_words : (xs : List ℕ) → list_all is_word xs ≡ true → list_any dollar xs ≡ true → ⊥
no_dollar_in_words [] a e = false≢true e
no_dollar_in_words (x ∷ xs) a e =
    let t = both (is_word x) (list_all is_word xs) a in
    elim (either (dollar x) (list_any dollar xs) e) [
      | inl y ↦ false≢true (let f : is_word 36 ≡ true = subst (λ (k : ℕ). is_word k ≡ true) (eqb-true x 36 y) t.0 in f)
      | inr z ↦ no_dollar_in_words xs t.1 z
    ]

no_dollar_in_coll : (xs : List ℕ) → list_all word_or_dot xs ≡ true → list_any dollar xs ≡ true → ⊥
no_dollar_in_coll [] a e = false≢true e
no_dollar_in_coll (x ∷ xs) a e =
    let t = both (word_or_dot x) (list_all word_or_dot xs) a in
    elim (either (dollar x) (list_any dollar xs) e) [
      | inl y ↦ false≢true (let f : word_or_dot 36 ≡ true = subst (λ (k : ℕ). word_or_dot k ≡ true) (eqb-true x 36 y) t.0 in f)
      | inr z ↦ no_dollar_in_coll xs t.1 z
    ]

-- the first `$` stands in the name of the collection, and another behind it; or that name has none
dollars : (coll x : List ℕ) → NoDollar coll ⊎ (list_any dollar (drop (suc (dollar_at (coll ++ 46 ∷ 36 ∷ x))) (coll ++ 46 ∷ 36 ∷ x)) ≡ true)
dollars [] x = inl tt
dollars (c ∷ coll) x = elim (cases_Bool (not (c == 36))) [
  | inl y ↦
      let e : dollar_at (c ∷ (coll ++ 46 ∷ 36 ∷ x)) ≡ suc (dollar_at (coll ++ 46 ∷ 36 ∷ x)) = if_yes (not (c == 36)) (1 + dollar_at (coll ++ 46 ∷ 36 ∷ x)) 0 y ∙ omega arith in
      elim (dollars coll x) [
        | inl n ↦ inl (isnt c y, n)
        | inr h ↦ inr (ap (λ (k : ℕ). list_any dollar (drop (suc k) (c ∷ (coll ++ 46 ∷ 36 ∷ x)))) e ∙ h)
      ]
  | inr z ↦
      let e : dollar_at (c ∷ (coll ++ 46 ∷ 36 ∷ x)) ≡ 0 = if_no (not (c == 36)) (1 + dollar_at (coll ++ 46 ∷ 36 ∷ x)) 0 z in
      inr (ap (λ (k : ℕ). list_any dollar (drop (suc k) (c ∷ (coll ++ 46 ∷ 36 ∷ x)))) e ∙ some_dollar coll x)
]
  where
    isnt : (b : ℕ) → not (b == 36) ≡ true → b ≡ 36 → ⊥
    isnt b y e = false≢true (subst (λ (k : ℕ). not (k == 36) ≡ true) e y)

-- ---- the name of a collection

abbrev IsPlainName : List ℕ → Type 0
IsPlainName coll = NoDollar coll × (coll ≡ system_indexes → ⊥)

isnt_coll : (coll x : List ℕ) → is_coll (coll ++ 46 ∷ 36 ∷ x) ≡ true → ⊥
unfolding is_coll
isnt_coll coll x e = no_dollar_in_coll (coll ++ 46 ∷ 36 ∷ x) (both _ _ (both _ _ (both _ _ e).1).1).0 (some_dollar coll x)

-- `system.indexes.$_id_` isn't the name of an index
system_is_none : is_coll_index (system_indexes ++ 46 ∷ 36 ∷ id_index.name) ≡ false
unfolding is_coll_index is_coll is_index
system_is_none = refl

index_words : (name : List ℕ) → is_index name ≡ true → list_all is_word name ≡ true
unfolding is_index
index_words name e = (both (nat_le (length name) 40) (list_all is_word name) (both (nat_lt 0 (length name)) (nat_le (length name) 40 && list_all is_word name) e).1).1

index_part : (name : List ℕ) → is_coll_index name ≡ true → is_index (drop (suc (dollar_at name)) name) ≡ true
unfolding is_coll_index
index_part name e =
    let p = dollar_at name in
    let last = is_coll (take (p - 1) name) && is_index (drop (suc p) name) in
    let at = (slice_index name (p - 1) == 46) && last in
    let here = both (nat_lt p (length name)) at (both (nat_lt 0 p) (nat_lt p (length name) && at) e).1 in
    (both (is_coll (take (p - 1) name)) (is_index (drop (suc p) name)) (both (slice_index name (p - 1) == 46) last here.1).1).1

of_index : (coll : List ℕ) → is_coll_index (coll ++ 46 ∷ 36 ∷ id_index.name) ≡ true → IsPlainName coll
of_index coll e =
    let name = coll ++ 46 ∷ 36 ∷ id_index.name in (
      elim (dollars coll id_index.name) [
        | inl n ↦ n
        | inr h ↦ absurd (no_dollar_in_words (drop (suc (dollar_at name)) name) (index_words (drop (suc (dollar_at name)) name) (index_part name e)) h)
      ],
      λ s. false≢true (sym system_is_none ∙ ap (λ (c : List ℕ). is_coll_index (c ++ 46 ∷ 36 ∷ id_index.name)) (sym s) ∙ e),
    )

isnt_free : (coll x : List ℕ) → 46 ∷ (coll ++ 46 ∷ 36 ∷ x) ≡ free_list → ⊥
isnt_free coll x e =
    let s : coll ++ 46 ∷ 36 ∷ x ≡ free_word = (heads 46 46 (coll ++ 46 ∷ 36 ∷ x) free_word e).1 in
    false≢true (sym (ap (list_any dot) s) ∙ some_dot coll (36 ∷ x))

isnt_indexes : (coll x : List ℕ) → 46 ∷ (coll ++ 46 ∷ 36 ∷ x) ≡ 46 ∷ system_indexes → ⊥
isnt_indexes coll x e =
    let s : coll ++ 46 ∷ 36 ∷ x ≡ system_indexes = (heads 46 46 (coll ++ 46 ∷ 36 ∷ x) system_indexes e).1 in
    false≢true (sym (ap (list_any dollar) s) ∙ some_dollar coll x)

behind_name : (d rest : List ℕ) → drop (suc (length d)) (d ++ 46 ∷ rest) ≡ rest
behind_name [] rest = refl
behind_name (x ∷ d) rest = behind_name d rest

of_own : (d coll : List ℕ) → is_own d (d ++ 46 ∷ (coll ++ 46 ∷ 36 ∷ id_index.name)) ≡ true → IsPlainName coll
unfolding is_own
of_own d coll e =
    let rest = coll ++ 46 ∷ 36 ∷ id_index.name in
    let w = behind_name d rest in
    elim (either _ _ (both _ _ e).1) [
      | inl y ↦ absurd (isnt_coll coll id_index.name (sym (ap is_coll w) ∙ y))
      | inr y ↦ of_index coll (sym (ap is_coll_index w) ∙ y)
    ]

pub plain_name : (d coll : List ℕ) → has_form d (full_name (namespace d coll) id_index) ≡ true → IsPlainName coll
unfolding has_form
plain_name d coll f =
    let name = d ++ 46 ∷ (coll ++ 46 ∷ 36 ∷ id_index.name) in
    let g : has_form d name ≡ true = subst (λ (m : List ℕ). has_form d m ≡ true) (full_is d coll id_index) f in
    elim (either (is_name name (free_name d)) (is_name name (indexes_name d) || is_own d name) (both _ _ (both _ _ g).1).1) [
      | inl y ↦ absurd (isnt_free coll id_index.name (cancel d _ free_list (name_is name (free_name d) y)))
      | inr r ↦ elim (either (is_name name (indexes_name d)) (is_own d name) r) [
        | inl y ↦ absurd (isnt_indexes coll id_index.name (cancel d _ (46 ∷ system_indexes) (name_is name (indexes_name d) y)))
        | inr y ↦ of_own d coll y
      ]
    ]
