-- The spans taken apart where a look-up finds the first, and what each call on the map leaves.
use Rattle.std.proofs.Common.{◌≡◌, ℕ, ◌+◌, ◌-◌, ◌≤◌, min, max, Bool, true, false, List, [], ◌∷◌, ◌++◌, Some, None, refl, sym, ◌∙◌, ap, arith, inl, inr}
use Rattle.std.specs.Prelude.{◌&&◌, ◌||◌, nat_le, ◌==◌}
use Rattle.std.specs.BTreeMap.{is_at as is_key, insert_entry}
use Rattle.std.specs.Map.{lookup, remove_entry}
use Rattle.std.proofs.lemmas.Bool.{cases_Bool, both_ways, or_cases, or_from, and_parts, and_from, le-leb}
use Rattle.std.proofs.lemmas.Bool.Decides.{nat_tests}
use Rattle.mm_ranges.specs.Places.{Range, is_before, is_first, is_spaced, joined, swallowed, inserted}
use Rattle.mm_ranges.specs.Room.{is_at, is_touched}
use Rattle.mm_ranges.specs.Spans.{Entry, span_of, spans_of, first_at, are_forward, IsKept}
use Rattle.mm_ranges.proofs.Order.{spaced_parts}
use Rattle.mm_ranges.proofs.Inserting.{swallowed-apart, swallowed-touch, inserted-past, inserted-here}
use Rattle.mm_ranges.proofs.Splits.{AllBefore, Reaches, touched-append, spaced_after}
use Rattle.mm_ranges.proofs.Entries.{key_cmp, Found, found_at, all_end, entry_removed, entry_set, entry_there, spans_of-append, are_forward-append, forward_both, span_not_before, spans_before}

-- ---- what is touched
-- what comes after a span touches no place up to its end
touched_later : (r : Range) (qs : List Range) (f p : ℕ) → is_spaced (r ∷ qs) ≡ true → is_touched qs f p ≡ true → is_before r (f, p, 0) ≡ true
touched_later r [] f p h t = absurd (both_ways false refl t)
touched_later r (q ∷ qs) f p h t =
    let parts = spaced_parts r (q ∷ qs) h in
    elim (or_cases (is_at f p q) (is_touched qs f p) t) [
      | inl here ↦ at_next r q f p parts.first here
      | inr later ↦ past_next r q f p parts.first (touched_later q qs f p parts.rest later)
    ]
  where
    at_next : (r q : Range) (f p : ℕ) → is_before r q ≡ true → is_at f p q ≡ true → is_before r (f, p, 0) ≡ true
    at_next r q f p b i = grind (arith, nat_tests)

    past_next : (r q : Range) (f p : ℕ) → is_before r q ≡ true → is_before q (f, p, 0) ≡ true → is_before r (f, p, 0) ≡ true
    past_next r q f p b i = grind (arith, nat_tests)

-- what ends before a range touches none of its places, nor its end
untouched_before : (ps : List Range) (n : Range) (p : ℕ) → AllBefore ps n → n.1 ≤ p → is_touched ps n.0 p ≡ false
untouched_before [] n p before le = refl
untouched_before (r ∷ ps) n p before le = or_from (is_at n.0 p r) (is_touched ps n.0 p) (not_at r n p before.0 le) (untouched_before ps n p before.1 le)
  where
    not_at : (r n : Range) (p : ℕ) → is_before r n ≡ true → n.1 ≤ p → is_at n.0 p r ≡ false
    not_at r n p b le = grind (arith, nat_tests)

-- where the end of a range is touched, the first span that doesn't end before it reaches it
pub touched_reaches : (ps qs : List Range) (r n : Range) → is_spaced (ps ++ r ∷ qs) ≡ true → AllBefore ps n → is_before r n ≡ false → is_touched (ps ++ r ∷ qs) n.0 (n.1 + n.2) ≡ true → Reaches n r
touched_reaches ps qs r n h before here t =
    elim (or_cases (is_touched ps n.0 (n.1 + n.2)) (is_touched (r ∷ qs) n.0 (n.1 + n.2)) (sym (touched-append ps (r ∷ qs) n.0 (n.1 + n.2)) ∙ t)) [
      | inl earlier ↦ absurd (both_ways _ (untouched_before ps n (n.1 + n.2) before (omega arith)) earlier)
      | inr late ↦ elim (or_cases (is_at n.0 (n.1 + n.2) r) (is_touched qs n.0 (n.1 + n.2)) late) [
        | inl at ↦ record { back = here; forth = at_it r n at }
        | inr later ↦ record { back = here; forth = past_it r n here (touched_later r qs n.0 (n.1 + n.2) (spaced_after ps (r ∷ qs) h) later) }
      ]
    ]
  where
    at_it : (r n : Range) → is_at n.0 (n.1 + n.2) r ≡ true → is_before n r ≡ false
    at_it r n i = grind (arith, nat_tests)

    past_it : (r n : Range) → is_before r n ≡ false → is_before r (n.0, n.1 + n.2, 0) ≡ true → is_before n r ≡ false
    past_it r n a b = grind (arith, nat_tests)

-- an empty span where one is touched changes nothing
pub inserted-touched : (f p : ℕ) (rs : List Range) → is_spaced rs ≡ true → is_touched rs f p ≡ true → inserted (f, p, 0) rs ≡ rs
inserted-touched f p [] h t = absurd (both_ways false refl t)
inserted-touched f p (r ∷ rs) h t =
    let parts = spaced_parts r rs h in
    elim (cases_Bool (is_before r (f, p, 0))) [
      | inl past ↦
          inserted-past (f, p, 0) r rs past
          ∙ ap (λ (xs : List Range). r ∷ xs) (inserted-touched f p rs parts.rest (elim (or_cases (is_at f p r) (is_touched rs f p) t) [
            | inl at ↦ absurd (not_both r f p past at)
            | inr later ↦ later
          ]))
      | inr here ↦ elim (or_cases (is_at f p r) (is_touched rs f p) t) [
        | inl at ↦
            inserted-here (f, p, 0) r rs here ∙ swallowed-touch (f, p, 0) r rs (not_before r f p at)
            ∙ ap (λ (x : Range). swallowed x rs) (same_span r f p at) ∙ alone r rs parts.first
        | inr later ↦ absurd (both_ways _ here (touched_later r rs f p h later))
      ]
    ]
  where
    not_both : (r : Range) (f p : ℕ) → is_before r (f, p, 0) ≡ true → is_at f p r ≡ true → ⊥
    not_both r f p a b = grind (arith, nat_tests)

    not_before : (r : Range) (f p : ℕ) → is_at f p r ≡ true → is_before (f, p, 0) r ≡ false
    not_before r f p a = grind (arith, nat_tests)

    same_file : (r : Range) (f p : ℕ) → is_at f p r ≡ true → f ≡ r.0
    same_file r f p a = grind (arith, nat_tests)

    same_start : (r : Range) (f p : ℕ) → is_at f p r ≡ true → min p r.1 ≡ r.1
    same_start r f p a = grind (arith, nat_tests)

    same_len : (r : Range) (f p : ℕ) → is_at f p r ≡ true → max (p + 0) (r.1 + r.2) - min p r.1 ≡ r.2
    same_len r f p a = grind (arith, nat_tests)

    same_span : (r : Range) (f p : ℕ) → is_at f p r ≡ true → joined (f, p, 0) r ≡ r
    same_span r f p a = λ i. (same_file r f p a i, same_start r f p a i, same_len r f p a i)

    alone : (r : Range) (rs : List Range) → is_first r rs ≡ true → swallowed r rs ≡ r ∷ rs
    alone r [] f = refl
    alone r (s ∷ rs) f = swallowed-apart r s rs f

-- ---- the spans taken apart
-- the spans at the first that doesn't end before a range, and what the map's calls there leave
pub record Cut (es : List Entry) (e : Entry) (n : Range) : Type 0 where
  pub before : List Range
  pub after : List Range
  pub whole : spans_of es ≡ before ++ span_of e ∷ after
  pub spaced : is_spaced (before ++ span_of e ∷ after) ≡ true
  pub past : AllBefore before n
  pub here : is_before (span_of e) n ≡ false
  pub forward : e.1 ≤ e.0.1
  pub there : lookup (is_key (key_cmp e.0)) es ≡ Some e.1
  pub removed : spans_of (remove_entry (is_key (key_cmp e.0)) es) ≡ before ++ after
  pub removed_forward : are_forward (remove_entry (is_key (key_cmp e.0)) es) ≡ true
  pub restarted : (start : ℕ) → spans_of (insert_entry key_cmp es e.0 start) ≡ before ++ span_of (e.0, start) ∷ after
  pub restarted_forward : (start : ℕ) → start ≤ e.0.1 → are_forward (insert_entry key_cmp es e.0 start) ≡ true

pub cut_at : (es : List Entry) (e : Entry) (n : Range) → IsKept es → first_at n.0 n.1 es ≡ Some e → Cut es e n
cut_at es e n kept is = cut (found_at n.0 n.1 es e is)
  where
    cut : Found n.0 n.1 es e → Cut es e n
    cut f =
        let whole : spans_of es ≡ spans_of f.before ++ span_of e ∷ spans_of f.after = ap spans_of f.whole ∙ spans_of-append f.before (e ∷ f.after) in
        let both = are_forward-append f.before (e ∷ f.after) (ap are_forward (sym f.whole) ∙ kept.forward) in
        let own = and_parts (nat_le e.1 e.0.1) (are_forward f.after) both.1 in
        record {
          before = spans_of f.before;
          after = spans_of f.after;
          whole = whole;
          spaced = ap is_spaced (sym whole) ∙ kept.spaced;
          past = spans_before f.before n both.0 f.past;
          here = span_not_before e n own.0 f.here;
          forward = is_forward e own.0;
          there = ap (lookup (is_key (key_cmp e.0))) f.whole ∙ entry_there n.0 n.1 f.before f.after e f.past f.here;
          removed = ap spans_of (out f) ∙ spans_of-append f.before f.after;
          removed_forward = ap are_forward (out f) ∙ forward_both f.before f.after both.0 own.1;
          restarted = λ start. ap spans_of (set f start) ∙ spans_of-append f.before ((e.0, start) ∷ f.after);
          restarted_forward = λ start le. ap are_forward (set f start) ∙ forward_both f.before ((e.0, start) ∷ f.after) both.0 (and_from (nat_le start e.0.1) (are_forward f.after) (le-leb start e.0.1 le) own.1);
        }
      where
        is_forward : (e : Entry) → nat_le e.1 e.0.1 ≡ true → e.1 ≤ e.0.1
        is_forward e h = grind (arith, nat_tests)

        out : (f : Found n.0 n.1 es e) → remove_entry (is_key (key_cmp e.0)) es ≡ f.before ++ f.after
        out f = ap (remove_entry (is_key (key_cmp e.0))) f.whole ∙ entry_removed n.0 n.1 f.before f.after e f.past f.here

        set : (f : Found n.0 n.1 es e) (start : ℕ) → insert_entry key_cmp es e.0 start ≡ f.before ++ (e.0, start) ∷ f.after
        set f start = ap (λ (xs : List Entry). insert_entry key_cmp xs e.0 start) f.whole ∙ entry_set n.0 n.1 f.before f.after e start f.past f.here

-- whether a place is touched is told by the first span that doesn't end before it
pub touched_by_first : (es : List Entry) (e : Entry) (f p : ℕ) → IsKept es → first_at f p es ≡ Some e → is_touched (spans_of es) f p ≡ (e.0.0 == f && nat_le e.1 p)
touched_by_first es e f p kept is = told (cut_at es e (f, p, 0) kept is)
  where
    no_more : (r : Range) (qs : List Range) → is_spaced (r ∷ qs) ≡ true → is_before r (f, p, 0) ≡ false → is_touched qs f p ≡ false
    no_more r qs h here = elim (cases_Bool (is_touched qs f p)) [ inl t ↦ absurd (both_ways _ here (touched_later r qs f p h t)) | inr out ↦ out ]

    at_span : (e : Entry) → e.1 ≤ e.0.1 → is_before (span_of e) (f, p, 0) ≡ false → is_at f p (span_of e) ≡ (e.0.0 == f && nat_le e.1 p)
    at_span e le here = grind (arith, nat_tests)

    told : Cut es e (f, p, 0) → is_touched (spans_of es) f p ≡ (e.0.0 == f && nat_le e.1 p)
    told c =
        ap (λ (rs : List Range). is_touched rs f p) c.whole ∙ touched-append c.before (span_of e ∷ c.after) f p
        ∙ ap (λ b. b || is_touched (span_of e ∷ c.after) f p) (untouched_before c.before (f, p, 0) p c.past (omega arith))
        ∙ ap (λ b. is_at f p (span_of e) || b) (no_more (span_of e) c.after (spaced_after c.before (span_of e ∷ c.after) c.spaced) c.here)
        ∙ or-false (is_at f p (span_of e)) ∙ at_span e c.forward c.here
      where
        or-false : (b : Bool) → (b || false) ≡ b
        or-false true = refl
        or-false false = refl

pub untouched_by_none : (es : List Entry) (f at p : ℕ) → IsKept es → first_at f at es ≡ None → at ≤ p → is_touched (spans_of es) f p ≡ false
untouched_by_none es f at p kept is le = untouched_before (spans_of es) (f, at, 0) p (spans_before es (f, at, 0) kept.forward (all_end f at es is)) le
