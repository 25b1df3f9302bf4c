-- The spans that have a place, and room among them.
use Rattle.std.proofs.Common.{◌≡◌, ◌↔◌, ℕ, ◌+◌, ◌^◌, ◌<◌, Bool, true, false, List, [], ◌∷◌, ◌++◌, refl, sym, ◌∙◌, ap, arith, inl, inr}
use Rattle.std.specs.Prelude.{◌||◌, nat_lt}
use Rattle.std.proofs.lemmas.Bool.{cases_Bool, cond-true, cond-false, or_left, or_right, or_cases, and_parts, and_from}
use Rattle.std.proofs.lemmas.Bool.Decides.{nat_tests}
use Rattle.mm_ranges.specs.Places.{Range, is_in, is_covered, Covers, CoverSame, is_before, is_span, is_range, is_first, is_spaced, is_normal, joined, swallowed, inserted, merged}
use Rattle.mm_ranges.specs.Room.{shown, is_at, is_touched, has_room}
use Rattle.mm_ranges.proofs.Order.{spaced_parts, normal_parts, normal_from, first_skips, spaced_of_normal, span_of_range, span_from, range_from}
use Rattle.mm_ranges.proofs.Inserting.{IsReached, reached_rest, swallowed-apart, swallowed-touch, inserted-past, inserted-here, covered-inserted, is_spaced-inserted, is_normal-inserted}
use Rattle.mm_ranges.proofs.Unique.{one_normal_form}

shown-some : (r : Range) (rs : List Range) → nat_lt 0 r.2 ≡ true → shown (r ∷ rs) ≡ r ∷ shown rs
shown-some r rs h = cond-true (nat_lt 0 r.2) (r ∷ shown rs) (shown rs) h

shown-empty : (r : Range) (rs : List Range) → nat_lt 0 r.2 ≡ false → shown (r ∷ rs) ≡ shown rs
shown-empty r rs h = cond-false (nat_lt 0 r.2) (r ∷ shown rs) (shown rs) h

covers_none : (r : Range) (f p : ℕ) → nat_lt 0 r.2 ≡ false → is_in f p r ≡ false
covers_none r f p h = grind (arith, nat_tests)

pub covered-shown : (rs : List Range) → CoverSame (shown rs) rs
covered-shown [] f p = refl
covered-shown (r ∷ rs) f p = elim (cases_Bool (nat_lt 0 r.2)) [
  | inl some ↦ ap (λ (xs : List Range). is_covered xs f p) (shown-some r rs some) ∙ ap (λ b. is_in f p r || b) (covered-shown rs f p)
  | inr empty ↦ ap (λ (xs : List Range). is_covered xs f p) (shown-empty r rs empty) ∙ covered-shown rs f p ∙ ap (λ b. b || is_covered rs f p) (sym (covers_none r f p empty))
]

first-shown : (q : Range) (rs : List Range) → is_first q rs ≡ true → is_spaced rs ≡ true → is_first q (shown rs) ≡ true
first-shown q [] f h = refl
first-shown q (r ∷ rs) f h = let parts = spaced_parts r rs h in elim (cases_Bool (nat_lt 0 r.2)) [
  | inl some ↦ ap (is_first q) (shown-some r rs some) ∙ f
  | inr empty ↦ ap (is_first q) (shown-empty r rs empty) ∙ first-shown q rs (first_skips q r rs f parts.first) parts.rest
]

pub is_normal-shown : (rs : List Range) → is_spaced rs ≡ true → is_normal (shown rs) ≡ true
is_normal-shown [] h = refl
is_normal-shown (r ∷ rs) h = let parts = spaced_parts r rs h in elim (cases_Bool (nat_lt 0 r.2)) [
  | inl some ↦ ap is_normal (shown-some r rs some) ∙ normal_from r (shown rs) (and_from (nat_lt 0 r.2) (is_span r) some parts.span) (first-shown r rs parts.first parts.rest) (is_normal-shown rs parts.rest)
  | inr empty ↦ ap is_normal (shown-empty r rs empty) ∙ is_normal-shown rs parts.rest
]

-- where the same is covered the same is shown
pub shown_same : (rs ss : List Range) → is_spaced rs ≡ true → is_spaced ss ≡ true → CoverSame rs ss → shown rs ≡ shown ss
shown_same rs ss h k same = one_normal_form (shown rs) (shown ss) (is_normal-shown rs h) (is_normal-shown ss k) (λ f p. covered-shown rs f p ∙ same f p ∙ sym (covered-shown ss f p))

pub shown-inserted : (n : Range) (rs : List Range) → is_range n ≡ true → is_spaced rs ≡ true → shown (inserted n rs) ≡ inserted n (shown rs)
shown-inserted n rs fits h =
    let normal = is_normal-shown rs h in
    one_normal_form (shown (inserted n rs)) (inserted n (shown rs)) (is_normal-shown (inserted n rs) (is_spaced-inserted n rs (span_of_range n fits) h)) (is_normal-inserted n (shown rs) fits normal)
    (λ f p.
    covered-shown (inserted n rs) f p ∙ covered-inserted n rs f p h
    ∙ ap (λ b. is_in f p n || b) (sym (covered-shown rs f p))
    ∙ sym (covered-inserted n (shown rs) f p (spaced_of_normal (shown rs) normal)))

-- an empty span shows nothing more
pub shown-inserted_empty : (n : Range) (rs : List Range) → is_span n ≡ true → nat_lt 0 n.2 ≡ false → is_spaced rs ≡ true → shown (inserted n rs) ≡ shown rs
shown-inserted_empty n rs fits empty h =
    shown_same (inserted n rs) rs (is_spaced-inserted n rs fits h) h (λ f p. covered-inserted n rs f p h ∙ ap (λ b. b || is_covered rs f p) (covers_none n f p empty))

pub shown-merged : (rs ss : List Range) → is_spaced rs ≡ true → is_normal ss ≡ true → shown (merged rs ss) ≡ merged (shown rs) ss
shown-merged rs [] h k = refl
shown-merged rs (s ∷ ss) h k =
    let parts = normal_parts s ss k in
    shown-merged (inserted s rs) ss (is_spaced-inserted s rs (span_of_range s parts.range) h) parts.rest
    ∙ ap (λ (xs : List Range). merged xs ss) (shown-inserted s rs parts.range h)

pub shown-normal : (rs : List Range) → is_normal rs ≡ true → shown rs ≡ rs
shown-normal rs h = one_normal_form (shown rs) rs (is_normal-shown rs (spaced_of_normal rs h)) h (covered-shown rs)

-- ---- what is touched stays touched
joined_at : (n r : Range) (f p : ℕ) → is_before n r ≡ false → is_before r n ≡ false → (is_at f p n || is_at f p r) ≡ true → is_at f p (joined n r) ≡ true
joined_at n r f p a b i = grind (arith, nat_tests)

pub touched-swallowed : (n : Range) (rs : List Range) (f p : ℕ) → is_spaced rs ≡ true → IsReached n rs → (is_at f p n || is_touched rs f p) ≡ true → is_touched (swallowed n rs) f p ≡ true
touched-swallowed n [] f p h reached t = t
touched-swallowed n (r ∷ rs) f p h reached t = elim (cases_Bool (is_before n r)) [
  | inl apart ↦ ap (λ (xs : List Range). is_touched xs f p) (swallowed-apart n r rs apart) ∙ t
  | inr touch ↦
      ap (λ (xs : List Range). is_touched xs f p) (swallowed-touch n r rs touch)
      ∙ touched-swallowed (joined n r) rs f p (spaced_parts r rs h).rest (reached_rest n r rs h touch reached)
      (elim (or_cases (is_at f p n) (is_at f p r || is_touched rs f p) t) [
        | inl here ↦ or_left (is_at f p (joined n r)) (is_touched rs f p) (joined_at n r f p touch reached (or_left (is_at f p n) (is_at f p r) here))
        | inr more ↦ elim (or_cases (is_at f p r) (is_touched rs f p) more) [
          | inl there ↦ or_left (is_at f p (joined n r)) (is_touched rs f p) (joined_at n r f p touch reached (or_right (is_at f p n) (is_at f p r) there))
          | inr later ↦ or_right (is_at f p (joined n r)) (is_touched rs f p) later
        ]
      ])
]

pub touched-inserted : (n : Range) (rs : List Range) (f p : ℕ) → is_spaced rs ≡ true → (is_at f p n || is_touched rs f p) ≡ true → is_touched (inserted n rs) f p ≡ true
touched-inserted n [] f p h t = t
touched-inserted n (r ∷ rs) f p h t = elim (cases_Bool (is_before r n)) [
  | inl past ↦
      ap (λ (xs : List Range). is_touched xs f p) (inserted-past n r rs past)
      ∙ (elim (or_cases (is_at f p n) (is_at f p r || is_touched rs f p) t) [
        | inl new ↦ or_right (is_at f p r) (is_touched (inserted n rs) f p) (touched-inserted n rs f p (spaced_parts r rs h).rest (or_left (is_at f p n) (is_touched rs f p) new))
        | inr old ↦ elim (or_cases (is_at f p r) (is_touched rs f p) old) [
          | inl here ↦ or_left (is_at f p r) (is_touched (inserted n rs) f p) here
          | inr later ↦ or_right (is_at f p r) (is_touched (inserted n rs) f p) (touched-inserted n rs f p (spaced_parts r rs h).rest (or_right (is_at f p n) (is_touched rs f p) later))
        ]
      ])
  | inr here ↦ ap (λ (xs : List Range). is_touched xs f p) (inserted-here n r rs here) ∙ touched-swallowed n (r ∷ rs) f p h here t
]

-- the end of a range is touched once it is put in
at_end : (n : Range) → is_at n.0 (n.1 + n.2) n ≡ true
at_end n = grind (arith, nat_tests)

pub touched_new : (file at : ℕ) (rs : List Range) → is_spaced rs ≡ true → is_touched (inserted (file, at, 0) rs) file at ≡ true
touched_new file at rs h = touched-inserted (file, at, 0) rs file at h (or_left (is_at file at (file, at, 0)) (is_touched rs file at) (at_new file at))
  where
    at_new : (file at : ℕ) → is_at file at (file, at, 0) ≡ true
    at_new file at = grind (arith, nat_tests)

-- room stays when a range is put in
pub room-inserted : (n : Range) (rs ss : List Range) → is_spaced rs ≡ true → has_room rs ss ≡ true → has_room (inserted n rs) ss ≡ true
room-inserted n rs [] h room = refl
room-inserted n rs (s ∷ ss) h room =
    let parts = and_parts (is_touched rs s.0 (s.1 + s.2)) (has_room rs ss) room in
    and_from (is_touched (inserted n rs) s.0 (s.1 + s.2)) (has_room (inserted n rs) ss)
    (touched-inserted n rs s.0 (s.1 + s.2) h (or_right (is_at s.0 (s.1 + s.2) n) (is_touched rs s.0 (s.1 + s.2)) parts.0)) (room-inserted n rs ss h parts.1)

-- ---- what the calls leave
-- room at a place, in a set that shows the same
pub record Roomier (old new : List Range) : Type 0 where
  pub shown_stays : shown new ≡ shown old
  pub room_stays : (ss : List Range) → has_room old ss ≡ true → has_room new ss ≡ true

pub roomier : (spans old new : List Range) (file at : ℕ) → is_spaced spans ≡ true → spans ≡ old → new ≡ inserted (file, at, 0) spans → file < 2 ^ 32 → at < 2 ^ 32 → Roomier old new
roomier spans old new file at h seen is f e = record {
  shown_stays = ap shown is ∙ shown-inserted_empty (file, at, 0) spans (span_from file at 0 f (omega arith)) refl h ∙ ap shown seen;
  room_stays = λ ss room. ap (λ (rs : List Range). has_room rs ss) is ∙ room-inserted (file, at, 0) spans ss h (ap (λ (rs : List Range). has_room rs ss) seen ∙ room);
}

pub same_room : (spans old new : List Range) → spans ≡ old → new ≡ spans → Roomier old new
same_room spans old new seen is = record {
  shown_stays = ap shown (is ∙ seen);
  room_stays = λ ss room. ap (λ (rs : List Range). has_room rs ss) (is ∙ seen) ∙ room;
}

-- a range put in
pub record PutIn (n : Range) (old new : List Range) : Type 0 where
  pub shown_more : shown new ≡ inserted n (shown old)
  pub room_stays : (ss : List Range) → has_room old ss ≡ true → has_room new ss ≡ true

pub put_in : (spans old new : List Range) (file at len : ℕ) → is_spaced spans ≡ true → spans ≡ old → new ≡ inserted (file, at, len) spans → file < 2 ^ 32 → 0 < len → at + len < 2 ^ 32 → PutIn (file, at, len) old new
put_in spans old new file at len h seen is f some e = record {
  shown_more = ap shown is ∙ shown-inserted (file, at, len) spans (range_from file at len f some e) h ∙ ap (λ (rs : List Range). inserted (file, at, len) (shown rs)) seen;
  room_stays = λ ss room. ap (λ (rs : List Range). has_room rs ss) is ∙ room-inserted (file, at, len) spans ss h (ap (λ (rs : List Range). has_room rs ss) seen ∙ room);
}

-- ---- room for one more
pub room-append : (rs ss : List Range) (s : Range) → has_room rs ss ≡ true → is_touched rs s.0 (s.1 + s.2) ≡ true → has_room rs (ss ++ s ∷ []) ≡ true
room-append rs [] s room touched = and_from (is_touched rs s.0 (s.1 + s.2)) true touched refl
room-append rs (r ∷ ss) s room touched =
    let parts = and_parts (is_touched rs r.0 (r.1 + r.2)) (has_room rs ss) room in
    and_from (is_touched rs r.0 (r.1 + r.2)) (has_room rs (ss ++ s ∷ [])) parts.0 (room-append rs ss s parts.1 touched)

-- what is shown covers what the spans cover
pub covers_shown : (rs seen : List Range) (b : Bool) (file at len : ℕ) → rs ≡ seen → (b ≡ true) ↔ Covers rs file at len → (b ≡ true) ↔ Covers (shown seen) file at len
covers_shown rs seen b file at len is h = (
  λ holds i low high. ap (λ (xs : List Range). is_covered (shown xs) file i) (sym is) ∙ covered-shown rs file i ∙ h.0 holds i low high,
  λ all. h.1 (λ i low high. sym (covered-shown rs file i) ∙ ap (λ (xs : List Range). is_covered (shown xs) file i) is ∙ all i low high),
)
