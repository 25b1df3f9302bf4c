-- Room that is given back.
use Rattle.std.proofs.Common.{◌≡◌, ℕ, ◌+◌, ◌≤◌, true, false, cond, List, [], ◌∷◌, ◌++◌, Some, None, refl, sym, ◌∙◌, ap, arith, inl, inr}
use Rattle.std.specs.Prelude.{nat_lt}
use Rattle.std.specs.BTreeMap.{is_at as is_key}
use Rattle.std.specs.Map.{remove_entry}
use Rattle.std.proofs.lemmas.Bool.{cases_Bool, cond-true, cond-false}
use Rattle.std.proofs.lemmas.Bool.Decides.{nat_tests}
use Rattle.mm_ranges.specs.Places.{Range, is_before, is_spaced}
use Rattle.mm_ranges.specs.Room.{shown, is_room, without_room, given_back}
use Rattle.mm_ranges.specs.Spans.{Entry, span_of, spans_of, first_at, IsKept, entry_of}
use Rattle.mm_ranges.specs.declared.spans.Span.{Span}
use Rattle.mm_ranges.proofs.Order.{spaced_parts}
use Rattle.mm_ranges.proofs.Splits.{AllBefore, spaced_after}
use Rattle.mm_ranges.proofs.Entries.{key_cmp, all_end, spans_before}
use Rattle.mm_ranges.proofs.Kept.{cut_at}

-- the ranges stay
pub shown-without_room : (file at : ℕ) (rs : List Range) → shown (without_room file at rs) ≡ shown rs
shown-without_room file at [] = refl
shown-without_room file at (r ∷ rs) = elim (cases_Bool (is_room file at r)) [
  | inl room ↦
      ap shown (cond-true (is_room file at r) (without_room file at rs) (r ∷ without_room file at rs) room)
      ∙ shown-without_room file at rs
      ∙ sym (cond-false (nat_lt 0 r.2) (r ∷ shown rs) (shown rs) (is_empty r room))
  | inr other ↦
      ap shown (cond-false (is_room file at r) (without_room file at rs) (r ∷ without_room file at rs) other)
      ∙ ap (λ (xs : List Range). cond (nat_lt 0 r.2) (r ∷ xs) xs) (shown-without_room file at rs)
]
  where
    is_empty : (r : Range) → is_room file at r ≡ true → nat_lt 0 r.2 ≡ false
    is_empty r h = grind (arith, nat_tests)

pub shown-given_back : (rs ss : List Range) → shown (given_back rs ss) ≡ shown rs
shown-given_back rs [] = refl
shown-given_back rs (s ∷ ss) = shown-given_back (without_room s.0 (s.1 + s.2) rs) ss ∙ shown-without_room s.0 (s.1 + s.2) rs

-- what ends before the place is no room there
past_all : (file at : ℕ) (ps qs : List Range) → AllBefore ps (file, at, 0) → without_room file at (ps ++ qs) ≡ ps ++ without_room file at qs
past_all file at [] qs past = refl
past_all file at (p ∷ ps) qs past =
    cond-false (is_room file at p) (without_room file at (ps ++ qs)) (p ∷ without_room file at (ps ++ qs)) (no_room p past.0)
    ∙ ap (λ (xs : List Range). p ∷ xs) (past_all file at ps qs past.1)
  where
    no_room : (p : Range) → is_before p (file, at, 0) ≡ true → is_room file at p ≡ false
    no_room p h = grind (arith, nat_tests)

-- nor is what lies behind a span that doesn't
behind_all : (file at : ℕ) (r : Range) (qs : List Range) → is_spaced (r ∷ qs) ≡ true → is_before r (file, at, 0) ≡ false → without_room file at qs ≡ qs
behind_all file at r [] h here = refl
behind_all file at r (q ∷ qs) h here =
    let parts = spaced_parts r (q ∷ qs) h in
    cond-false (is_room file at q) (without_room file at qs) (q ∷ without_room file at qs) (no_room r q parts.first here)
    ∙ ap (λ (xs : List Range). q ∷ xs) (behind_all file at q qs parts.rest (later r q parts.first here))
  where
    no_room : (r q : Range) → is_before r q ≡ true → is_before r (file, at, 0) ≡ false → is_room file at q ≡ false
    no_room r q a b = grind (arith, nat_tests)

    later : (r q : Range) → is_before r q ≡ true → is_before r (file, at, 0) ≡ false → is_before q (file, at, 0) ≡ false
    later r q a b = grind (arith, nat_tests)

-- ---- by the first span that doesn't end before the place
pub none_there : (es : List Entry) (file at : ℕ) → IsKept es → first_at file at es ≡ None → without_room file at (spans_of es) ≡ spans_of es
none_there es file at kept is = past_none (spans_of es) (spans_before es (file, at, 0) kept.forward (all_end file at es is))
  where
    past_none : (ps : List Range) → AllBefore ps (file, at, 0) → without_room file at ps ≡ ps
    past_none [] past = refl
    past_none (p ∷ ps) past = cond-false (is_room file at p) (without_room file at ps) (p ∷ without_room file at ps) (no_room p past.0) ∙ ap (λ (xs : List Range). p ∷ xs) (past_none ps past.1)
      where
        no_room : (p : Range) → is_before p (file, at, 0) ≡ true → is_room file at p ≡ false
        no_room p h = grind (arith, nat_tests)

pub other_there : (es : List Entry) (e : Entry) (file at : ℕ) → IsKept es → first_at file at es ≡ Some e → is_room file at (span_of e) ≡ false → without_room file at (spans_of es) ≡ spans_of es
other_there es e file at kept is other =
    let c = cut_at es e (file, at, 0) kept is in
    ap (without_room file at) c.whole
    ∙ past_all file at c.before (span_of e ∷ c.after) c.past
    ∙ ap (λ (xs : List Range). c.before ++ xs)
    (cond-false (is_room file at (span_of e)) (without_room file at c.after) (span_of e ∷ without_room file at c.after) other
    ∙ ap (λ (xs : List Range). span_of e ∷ xs) (behind_all file at (span_of e) c.after (spaced_after c.before (span_of e ∷ c.after) c.spaced) c.here))
    ∙ sym c.whole

pub room_there : (es : List Entry) (e : Entry) (file at : ℕ) → IsKept es → first_at file at es ≡ Some e → is_room file at (span_of e) ≡ true → spans_of (remove_entry (is_key (key_cmp e.0)) es) ≡ without_room file at (spans_of es)
room_there es e file at kept is room =
    let c = cut_at es e (file, at, 0) kept is in
    c.removed
    ∙ sym (ap (without_room file at) c.whole
    ∙ past_all file at c.before (span_of e ∷ c.after) c.past
    ∙ ap (λ (xs : List Range). c.before ++ xs)
    (cond-true (is_room file at (span_of e)) (without_room file at c.after) (span_of e ∷ without_room file at c.after) room
    ∙ behind_all file at (span_of e) c.after (spaced_after c.before (span_of e ∷ c.after) c.spaced) c.here))

-- a span that is room there is the empty one
pub room_is : (s : Span) (file at : ℕ) → s.start ≤ s.end → is_room file at (span_of (entry_of s)) ≡ true → s ≡ record { file = file; start = at; end = at }
room_is s file at order room = λ i. record { file = same_file s order room i; start = same_start s order room i; end = same_end s order room i }
  where
    same_file : (s : Span) → s.start ≤ s.end → is_room file at (span_of (entry_of s)) ≡ true → s.file ≡ file
    same_file s a b = grind (arith, nat_tests)

    same_start : (s : Span) → s.start ≤ s.end → is_room file at (span_of (entry_of s)) ≡ true → s.start ≡ at
    same_start s a b = grind (arith, nat_tests)

    same_end : (s : Span) → s.start ≤ s.end → is_room file at (span_of (entry_of s)) ≡ true → s.end ≡ at
    same_end s a b = grind (arith, nat_tests)
