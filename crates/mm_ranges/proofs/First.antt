-- The first span that a look-up in the map finds.
use Rattle.std.proofs.Common.{◌≡◌, ℕ, Bool, true, false, List, [], ◌∷◌, Option, Some, None, refl, sym, ◌∙◌, ap, arith, inl, inr}
use Rattle.std.specs.Prelude.{not, ◌&&◌}
use Rattle.std.specs.List.{filter}
use Rattle.std.specs.Ordering.{is_le, nat_cmp, ordering_then}
use Rattle.std.proofs.lemmas.Bool.{cases_Bool, cond-true, cond-false}
use Rattle.std.proofs.lemmas.Bool.Decides.{nat_tests}
use Rattle.mm_ranges.specs.Spans.{Entry, ends_before, first_at}

-- the test by which a map finds the keys from a place on
abbrev pub is_from : ℕ → ℕ → Entry → Bool
is_from file at e = is_le (ordering_then (nat_cmp file e.0.0) (nat_cmp at e.0.1)) && not false

not_from : (file at : ℕ) (e : Entry) → ends_before e file at ≡ true → is_from file at e ≡ false
not_from file at e h = grind (arith, nat_tests)

is_then_from : (file at : ℕ) (e : Entry) → ends_before e file at ≡ false → is_from file at e ≡ true
is_then_from file at e h = grind (arith, nat_tests)

-- the first that passes
first_of : List Entry → Option Entry
first_of [] = None
first_of (e ∷ es) = Some e

-- the first of those that pass is the first that doesn't end before
first_passing : (file at : ℕ) (es : List Entry) → first_at file at es ≡ first_of (filter (is_from file at) es)
unfolding first_of
first_passing file at [] = refl
first_passing file at (x ∷ xs) = elim (cases_Bool (ends_before x file at)) [
  | inl past ↦
      cond-true (ends_before x file at) (first_at file at xs) (Some x) past ∙ first_passing file at xs
      ∙ sym (ap first_of (cond-false (is_from file at x) (x ∷ filter (is_from file at) xs) (filter (is_from file at) xs) (not_from file at x past)))
  | inr here ↦
      cond-false (ends_before x file at) (first_at file at xs) (Some x) here
      ∙ sym (ap first_of (cond-true (is_from file at x) (x ∷ filter (is_from file at) xs) (filter (is_from file at) xs) (is_then_from file at x here)))
]

pub found : (file at : ℕ) (es passing rest : List Entry) (e : Entry) → passing ≡ filter (is_from file at) es → passing ≡ e ∷ rest → first_at file at es ≡ Some e
unfolding first_of
found file at es passing rest e is some = first_passing file at es ∙ ap first_of (sym is ∙ some)

pub not_found : (file at : ℕ) (es passing : List Entry) → passing ≡ filter (is_from file at) es → passing ≡ [] → first_at file at es ≡ None
unfolding first_of
not_found file at es passing is none = first_passing file at es ∙ ap first_of (sym is ∙ none)
