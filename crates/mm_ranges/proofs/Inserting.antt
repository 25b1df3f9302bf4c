-- What an insertion covers, and that it keeps the order.
use Rattle.std.proofs.Common.{◌≡◌, ℕ, Bool, true, false, List, [], ◌∷◌, refl, sym, ◌∙◌, ap, arith, inl, inr}
use Rattle.std.specs.Prelude.{◌||◌}
use Rattle.std.proofs.lemmas.Bool.{cases_Bool, cond-true, cond-false}
use Rattle.std.proofs.lemmas.Bool.Decides.{nat_tests}
use Rattle.mm_ranges.specs.Places.{Range, is_in, is_covered, is_before, is_span, is_range, is_first, is_spaced, is_normal, joined, swallowed, inserted, merged}
use Rattle.mm_ranges.proofs.Order.{spaced_parts, spaced_from, normal_parts, normal_from, first_skips, spaced_of_normal, span_of_range}

-- the first of these doesn't end before the range
abbrev pub IsReached : Range → List Range → Type 0
IsReached n [] = Unit {0}
IsReached n (r ∷ rs) = is_before r n ≡ false

pub same_tests : (a b : Bool) → (a ≡ true → b ≡ true) → (b ≡ true → a ≡ true) → a ≡ b
same_tests true true f g = refl
same_tests true false f g = sym (f refl)
same_tests false true f g = g refl
same_tests false false f g = refl

in_joined : (n r : Range) (f p : ℕ) → is_before n r ≡ false → is_before r n ≡ false → is_in f p (joined n r) ≡ true → (is_in f p n || is_in f p r) ≡ true
in_joined n r f p a b i = grind (arith, nat_tests)

joined_in : (n r : Range) (f p : ℕ) → is_before n r ≡ false → is_before r n ≡ false → (is_in f p n || is_in f p r) ≡ true → is_in f p (joined n r) ≡ true
joined_in n r f p a b i = grind (arith, nat_tests)

pub is_in-joined : (n r : Range) (f p : ℕ) → is_before n r ≡ false → is_before r n ≡ false → is_in f p (joined n r) ≡ (is_in f p n || is_in f p r)
is_in-joined n r f p a b = same_tests _ _ (in_joined n r f p a b) (joined_in n r f p a b)

pub is_span-joined : (n r : Range) → is_span n ≡ true → is_span r ≡ true → is_span (joined n r) ≡ true
is_span-joined n r a b = grind (arith, nat_tests)

pub is_range-joined : (n r : Range) → is_range n ≡ true → is_span r ≡ true → is_range (joined n r) ≡ true
is_range-joined n r a b = grind (arith, nat_tests)

reached_next : (n r s : Range) → is_before n r ≡ false → is_before r n ≡ false → is_before r s ≡ true → is_before s (joined n r) ≡ false
reached_next n r s a b c = grind (arith, nat_tests)

pub reached_rest : (n r : Range) (rs : List Range) → is_spaced (r ∷ rs) ≡ true → is_before n r ≡ false → is_before r n ≡ false → IsReached (joined n r) rs
reached_rest n r [] h a b = tt
reached_rest n r (s ∷ rs) h a b = reached_next n r s a b (spaced_parts r (s ∷ rs) h).first

or-assoc : (a b c : Bool) → ((a || b) || c) ≡ (a || (b || c))
or-assoc true b c = refl
or-assoc false b c = refl

or-swap : (a b c : Bool) → (a || (b || c)) ≡ (b || (a || c))
or-swap true true c = refl
or-swap true false c = refl
or-swap false true c = refl
or-swap false false c = refl

-- the two cases of `swallowed` and of `inserted`
pub swallowed-apart : (n r : Range) (rs : List Range) → is_before n r ≡ true → swallowed n (r ∷ rs) ≡ n ∷ r ∷ rs
swallowed-apart n r rs h = cond-true (is_before n r) (n ∷ r ∷ rs) (swallowed (joined n r) rs) h

pub swallowed-touch : (n r : Range) (rs : List Range) → is_before n r ≡ false → swallowed n (r ∷ rs) ≡ swallowed (joined n r) rs
swallowed-touch n r rs h = cond-false (is_before n r) (n ∷ r ∷ rs) (swallowed (joined n r) rs) h

pub inserted-past : (n r : Range) (rs : List Range) → is_before r n ≡ true → inserted n (r ∷ rs) ≡ r ∷ inserted n rs
inserted-past n r rs h = cond-true (is_before r n) (r ∷ inserted n rs) (swallowed n (r ∷ rs)) h

pub inserted-here : (n r : Range) (rs : List Range) → is_before r n ≡ false → inserted n (r ∷ rs) ≡ swallowed n (r ∷ rs)
inserted-here n r rs h = cond-false (is_before r n) (r ∷ inserted n rs) (swallowed n (r ∷ rs)) h

pub inserted-reached : (n : Range) (rs : List Range) → IsReached n rs → inserted n rs ≡ swallowed n rs
inserted-reached n [] h = refl
inserted-reached n (r ∷ rs) h = inserted-here n r rs h

pub covered-swallowed : (n : Range) (rs : List Range) (f p : ℕ) → is_spaced rs ≡ true → IsReached n rs → is_covered (swallowed n rs) f p ≡ (is_in f p n || is_covered rs f p)
covered-swallowed n [] f p h reached = refl
covered-swallowed n (r ∷ rs) f p h reached = elim (cases_Bool (is_before n r)) [
  | inl apart ↦ ap (λ (xs : List Range). is_covered xs f p) (swallowed-apart n r rs apart)
  | inr touch ↦
      ap (λ (xs : List Range). is_covered xs f p) (swallowed-touch n r rs touch)
      ∙ covered-swallowed (joined n r) rs f p (spaced_parts r rs h).rest (reached_rest n r rs h touch reached)
      ∙ ap (λ b. b || is_covered rs f p) (is_in-joined n r f p touch reached)
      ∙ or-assoc (is_in f p n) (is_in f p r) (is_covered rs f p)
]

pub covered-inserted : (n : Range) (rs : List Range) (f p : ℕ) → is_spaced rs ≡ true → is_covered (inserted n rs) f p ≡ (is_in f p n || is_covered rs f p)
covered-inserted n [] f p h = refl
covered-inserted n (r ∷ rs) f p h = elim (cases_Bool (is_before r n)) [
  | inl past ↦
      ap (λ (xs : List Range). is_covered xs f p) (inserted-past n r rs past)
      ∙ ap (λ b. is_in f p r || b) (covered-inserted n rs f p (spaced_parts r rs h).rest)
      ∙ or-swap (is_in f p r) (is_in f p n) (is_covered rs f p)
  | inr here ↦
      ap (λ (xs : List Range). is_covered xs f p) (inserted-here n r rs here)
      ∙ covered-swallowed n (r ∷ rs) f p h here
]

pub before_joined : (q n r : Range) → is_before q n ≡ true → is_before q r ≡ true → is_before n r ≡ false → is_before r n ≡ false → is_before q (joined n r) ≡ true
before_joined q n r a b c d = grind (arith, nat_tests)

first-swallowed : (q n : Range) (rs : List Range) → is_first q rs ≡ true → is_spaced rs ≡ true → is_before q n ≡ true → IsReached n rs → is_first q (swallowed n rs) ≡ true
first-swallowed q n [] f h b reached = b
first-swallowed q n (r ∷ rs) f h b reached =
    elim (cases_Bool (is_before n r)) [
      | inl apart ↦ ap (is_first q) (swallowed-apart n r rs apart) ∙ b
      | inr touch ↦
          let parts = spaced_parts r rs h in
          ap (is_first q) (swallowed-touch n r rs touch)
          ∙ first-swallowed q (joined n r) rs (first_skips q r rs f parts.first) parts.rest (before_joined q n r b f touch reached) (reached_rest n r rs h touch reached)
    ]

pub is_spaced-swallowed : (n : Range) (rs : List Range) → is_span n ≡ true → is_spaced rs ≡ true → is_spaced (swallowed n rs) ≡ true
is_spaced-swallowed n [] fits h = spaced_from n [] fits refl refl
is_spaced-swallowed n (r ∷ rs) fits h = elim (cases_Bool (is_before n r)) [
  | inl apart ↦ ap is_spaced (swallowed-apart n r rs apart) ∙ spaced_from n (r ∷ rs) fits apart h
  | inr touch ↦
      let parts = spaced_parts r rs h in
      ap is_spaced (swallowed-touch n r rs touch)
      ∙ is_spaced-swallowed (joined n r) rs (is_span-joined n r fits parts.span) parts.rest
]

first-inserted : (q n : Range) (rs : List Range) → is_first q rs ≡ true → is_spaced rs ≡ true → is_before q n ≡ true → is_first q (inserted n rs) ≡ true
first-inserted q n [] f h b = b
first-inserted q n (r ∷ rs) f h b = elim (cases_Bool (is_before r n)) [
  | inl past ↦ ap (is_first q) (inserted-past n r rs past) ∙ f
  | inr here ↦ ap (is_first q) (inserted-here n r rs here) ∙ first-swallowed q n (r ∷ rs) f h b here
]

pub is_spaced-inserted : (n : Range) (rs : List Range) → is_span n ≡ true → is_spaced rs ≡ true → is_spaced (inserted n rs) ≡ true
is_spaced-inserted n [] fits h = spaced_from n [] fits refl refl
is_spaced-inserted n (r ∷ rs) fits h = elim (cases_Bool (is_before r n)) [
  | inl past ↦
      let parts = spaced_parts r rs h in
      ap is_spaced (inserted-past n r rs past)
      ∙ spaced_from r (inserted n rs) parts.span (first-inserted r n rs parts.first parts.rest past) (is_spaced-inserted n rs fits parts.rest)
  | inr here ↦ ap is_spaced (inserted-here n r rs here) ∙ is_spaced-swallowed n (r ∷ rs) fits h
]

pub is_normal-swallowed : (n : Range) (rs : List Range) → is_range n ≡ true → is_normal rs ≡ true → is_normal (swallowed n rs) ≡ true
is_normal-swallowed n [] fits h = normal_from n [] fits refl refl
is_normal-swallowed n (r ∷ rs) fits h = elim (cases_Bool (is_before n r)) [
  | inl apart ↦ ap is_normal (swallowed-apart n r rs apart) ∙ normal_from n (r ∷ rs) fits apart h
  | inr touch ↦
      let parts = normal_parts r rs h in
      ap is_normal (swallowed-touch n r rs touch)
      ∙ is_normal-swallowed (joined n r) rs (is_range-joined n r fits (span_of_range r parts.range)) parts.rest
]

pub is_normal-inserted : (n : Range) (rs : List Range) → is_range n ≡ true → is_normal rs ≡ true → is_normal (inserted n rs) ≡ true
is_normal-inserted n [] fits h = normal_from n [] fits refl refl
is_normal-inserted n (r ∷ rs) fits h = elim (cases_Bool (is_before r n)) [
  | inl past ↦
      let parts = normal_parts r rs h in
      ap is_normal (inserted-past n r rs past)
      ∙ normal_from r (inserted n rs) parts.range (first-inserted r n rs parts.first (spaced_of_normal rs parts.rest) past) (is_normal-inserted n rs fits parts.rest)
  | inr here ↦ ap is_normal (inserted-here n r rs here) ∙ is_normal-swallowed n (r ∷ rs) fits h
]

pub is_normal-merged : (rs ss : List Range) → is_normal rs ≡ true → is_normal ss ≡ true → is_normal (merged rs ss) ≡ true
is_normal-merged rs [] h k = h
is_normal-merged rs (s ∷ ss) h k = let parts = normal_parts s ss k in is_normal-merged (inserted s rs) ss (is_normal-inserted s rs parts.range h) parts.rest

pub is_spaced-merged : (rs ss : List Range) → is_spaced rs ≡ true → is_spaced ss ≡ true → is_spaced (merged rs ss) ≡ true
is_spaced-merged rs [] h k = h
is_spaced-merged rs (s ∷ ss) h k = let parts = spaced_parts s ss k in is_spaced-merged (inserted s rs) ss (is_spaced-inserted s rs parts.span h) parts.rest

pub covered-merged : (rs ss : List Range) (f p : ℕ) → is_spaced rs ≡ true → is_spaced ss ≡ true → is_covered (merged rs ss) f p ≡ (is_covered ss f p || is_covered rs f p)
covered-merged rs [] f p h k = refl
covered-merged rs (s ∷ ss) f p h k =
    let parts = spaced_parts s ss k in
    covered-merged (inserted s rs) ss f p (is_spaced-inserted s rs parts.span h) parts.rest
    ∙ ap (λ b. is_covered ss f p || b) (covered-inserted s rs f p h)
    ∙ or-swap (is_covered ss f p) (is_in f p s) (is_covered rs f p)
    ∙ sym (or-assoc (is_in f p s) (is_covered ss f p) (is_covered rs f p))
