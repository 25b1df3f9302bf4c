-- What each step of an insertion leaves.
use Rattle.std.proofs.Common.{◌≡◌, ℕ, ◌+◌, ◌-◌, ◌<◌, ◌≤◌, min, max, Bool, true, false, cond, List, [], ◌∷◌, ◌++◌, Option, Some, None, refl, sym, ◌∙◌, ap, subst, arith, sum_by}
use Rattle.std.specs.Prelude.{◌&&◌, ◌||◌, nat_lt, nat_le, ◌==◌}
use Rattle.std.specs.BTreeMap.{is_at as is_key, insert_entry}
use Rattle.std.specs.Map.{lookup, remove_entry}
use Rattle.std.proofs.lemmas.Bool.{and_parts, and_from, le-leb}
use Rattle.std.proofs.lemmas.Bool.Decides.{nat_tests}
use Rattle.std.proofs.lemmas.List.Sums.{sum_by-append, sum_by-cons}
use Rattle.mm_ranges.specs.Places.{Range, is_before, is_span, is_first, is_spaced, is_within, joined, inserted}
use Rattle.mm_ranges.specs.Room.{is_at, is_touched, is_room, without_room}
use Rattle.mm_ranges.specs.Spans.{Entry, span_of, spans_of, first_at, are_forward, count_of, IsKept, Counts, Joins, IsAlone, places_in, ranges_in, entry_of, range_of}
use Rattle.mm_ranges.specs.declared.spans.Span.{Span}
use Rattle.mm_ranges.specs.declared.spans.Tally.{Tally}
use Rattle.mm_ranges.proofs.Order.{spaced_parts}
use Rattle.mm_ranges.proofs.Inserting.{is_spaced-inserted}
use Rattle.mm_ranges.proofs.Splits.{Reaches, touched-append, spaced_after, spaced_without, inserted-joined, inserted-stretched, inserted-alone}
use Rattle.mm_ranges.proofs.Entries.{key_cmp, AllEnd, IsPast, found_at, all_end, all_end_sooner, entry_new, spans_of-append, are_forward-append, forward_both, spans_before}
use Rattle.mm_ranges.proofs.Giving.{room_there}
use Rattle.mm_ranges.proofs.Kept.{Cut, cut_at, touched_reaches, touched_by_first}

end_of : (start last : ℕ) → start ≤ last → start + (last - start) ≡ last
end_of start last le = omega arith

-- the entries without one
abbrev pub without : Span → List Entry → List Entry
without s es = remove_entry (is_key (key_cmp (s.file, s.end))) es

-- a span stretched down to a start
abbrev pub begun : Span → ℕ → Span
begun w start = record w { start = start }

-- the span that a look-up finds first reaches the one that is put in
reaches : (es : List Entry) (w s : Span) → Joins w es → (c : Cut es (entry_of s) (range_of w)) → Reaches (range_of w) (span_of (entry_of s))
reaches es w s joins c =
    touched_reaches c.before c.after (span_of (entry_of s)) (range_of w) c.spaced c.past c.here
    (subst (λ p. is_touched (c.before ++ span_of (entry_of s) ∷ c.after) w.file p ≡ true) (sym (end_of w.start w.end joins.order)) (ap (λ (rs : List Range). is_touched rs w.file w.end) (sym c.whole) ∙ joins.touched))

-- sums over the spans, where one is taken out or changed
sum_cut : (f : Range → ℕ) (ps qs : List Range) (r : Range) → sum_by f (ps ++ r ∷ qs) ≡ sum_by f (ps ++ qs) + f r
sum_cut f ps qs r =
    let whole = sum_by-append f ps (r ∷ qs) in
    let some = sum_by-cons f r qs in
    let rest = sum_by-append f ps qs in
    omega arith

-- ---- a span is taken out
pub record TakenOut (es : List Entry) (w s : Span) : Type 0 where
  pub there : lookup (is_key (key_cmp (s.file, s.end))) es ≡ Some s.start
  pub kept : IsKept (without s es)
  pub places_less : places_in es ≡ places_in (without s es) + (s.end - s.start)
  pub ranges_less : ranges_in es ≡ ranges_in (without s es) + count_of (range_of s)
  pub order : s.start ≤ s.end
  pub joins : Joins (begun w (min w.start s.start)) (without s es)
  pub same : inserted (range_of (begun w (min w.start s.start))) (spans_of (without s es)) ≡ inserted (range_of w) (spans_of es)

pub taken_out : (es : List Entry) (w s : Span) → IsKept es → Joins w es → first_at w.file w.start es ≡ Some (entry_of s) → s.end < w.end → TakenOut es w s
taken_out es w s kept joins found shorter = by_cut (cut_at es (entry_of s) (range_of w) kept found)
  where
    by_cut : Cut es (entry_of s) (range_of w) → TakenOut es w s
    by_cut c =
        let r = span_of (entry_of s) in
        let near = reaches es w s joins c in
        record {
          there = c.there;
          kept = record { forward = c.removed_forward; spaced = ap is_spaced c.removed ∙ spaced_without c.before c.after r c.spaced };
          places_less = ap (sum_by (λ (q : Range). q.2)) c.whole ∙ sum_cut (λ (q : Range). q.2) c.before c.after r ∙ sym (ap (λ (rs : List Range). sum_by (λ (q : Range). q.2) rs + (s.end - s.start)) c.removed);
          ranges_less = ap (sum_by count_of) c.whole ∙ sum_cut count_of c.before c.after r ∙ sym (ap (λ (rs : List Range). sum_by count_of rs + count_of r) c.removed);
          order = c.forward;
          joins = record {
            order = lower w.start w.end s.start joins.order;
            touched = ap (λ (rs : List Range). is_touched rs w.file w.end) c.removed ∙ touched-append c.before c.after w.file w.end
                ∙ still (is_touched c.before w.file w.end) (is_at w.file w.end r) (is_touched c.after w.file w.end) (ends_short s w.file w.end c.forward shorter)
                (sym (touched-append c.before (r ∷ c.after) w.file w.end) ∙ ap (λ (rs : List Range). is_touched rs w.file w.end) (sym c.whole) ∙ joins.touched);
          };
          same = ap (λ (rs : List Range). inserted (range_of (begun w (min w.start s.start))) rs) c.removed
              ∙ ap (λ (n : Range). inserted n (c.before ++ c.after)) (sym (joined_short w s joins.order c.forward shorter))
              ∙ sym (inserted-joined c.before c.after (range_of w) r c.spaced c.past near)
              ∙ ap (inserted (range_of w)) (sym c.whole);
        }
      where
        lower : (a b c : ℕ) → a ≤ b → min a c ≤ b
        lower a b c le = omega arith

        ends_short : (s : Span) (f p : ℕ) → s.start ≤ s.end → s.end < p → is_at f p (span_of (entry_of s)) ≡ false
        ends_short s f p a b = grind (arith, nat_tests)

        still : (a b c : Bool) → b ≡ false → (a || (b || c)) ≡ true → (a || c) ≡ true
        still true b c e t = refl
        still false b c e t = sym (ap (λ x. x || c) e) ∙ t

        start_len : (ws we ss se : ℕ) → ws ≤ we → ss ≤ se → se < we → max (ws + (we - ws)) (ss + (se - ss)) - min ws ss ≡ we - min ws ss
        start_len ws we ss se a b c = omega arith

        joined_short : (w s : Span) → w.start ≤ w.end → s.start ≤ s.end → s.end < w.end → joined (range_of w) (span_of (entry_of s)) ≡ range_of (begun w (min w.start s.start))
        joined_short w s a b c = λ i. (w.file, min w.start s.start, start_len w.start w.end s.start s.end a b c i)

-- what the loop's turn leaves, where the map and the counts are as the calls say
pub record Turned (es fs : List Entry) (tally : Tally) (w : Span) (start : ℕ) : Type 0 where
  pub kept : IsKept fs
  pub counts : Counts tally fs
  pub joins : Joins (begun w start) fs
  pub same : inserted (range_of (begun w start)) (spans_of fs) ≡ inserted (range_of w) (spans_of es)

pub turned : (es fs : List Entry) (tally tally' : Tally) (w s : Span) (start : ℕ) → TakenOut es w s → Counts tally es → fs ≡ without s es → start ≡ min w.start s.start
    → tally'.places + (s.end - s.start) ≡ tally.places → tally'.ranges + count_of (range_of s) ≡ tally.ranges → Turned es fs tally' w start
turned es fs tally tally' w s start out counts is low places ranges =
    subst (λ (n : ℕ). Turned es fs tally' w n) (sym low) (subst (λ (xs : List Entry). Turned es xs tally' w (min w.start s.start)) (sym is) (record {
      kept = out.kept;
      counts = record {
        places_counted = less tally'.places tally.places (places_in es) (places_in (without s es)) (s.end - s.start) places counts.places_counted out.places_less;
        ranges_counted = less tally'.ranges tally.ranges (ranges_in es) (ranges_in (without s es)) (count_of (range_of s)) ranges counts.ranges_counted out.ranges_less;
      };
      joins = out.joins;
      same = out.same;
    }))
  where
    less : (a b c d n : ℕ) → a + n ≡ b → b ≡ c → c ≡ d + n → a ≡ d
    less a b c d n e f g = omega arith

-- ---- a span is stretched
pub record Stretched (es : List Entry) (w s : Span) (fs : List Entry) : Type 0 where
  pub there : lookup (is_key (key_cmp (s.file, s.end))) es ≡ Some s.start
  pub kept : IsKept fs
  pub order : s.start ≤ s.end
  pub places_there : s.end - s.start ≤ places_in es
  pub ranges_there : count_of (range_of s) ≤ ranges_in es
  pub places_moved : places_in fs + (s.end - s.start) ≡ places_in es + (s.end - min w.start s.start)
  pub ranges_moved : ranges_in fs + count_of (range_of s) ≡ ranges_in es + count_of (range_of (begun s (min w.start s.start)))
  pub spans : spans_of fs ≡ inserted (range_of w) (spans_of es)

pub stretched : (es : List Entry) (w s : Span) → IsKept es → Joins w es → first_at w.file w.start es ≡ Some (entry_of s) → w.end ≤ s.end
    → Stretched es w s (insert_entry key_cmp es (s.file, s.end) (min w.start s.start))
stretched es w s kept joins found longer = by_cut (cut_at es (entry_of s) (range_of w) kept found)
  where
    by_cut : Cut es (entry_of s) (range_of w) → Stretched es w s (insert_entry key_cmp es (s.file, s.end) (min w.start s.start))
    by_cut c =
        let r = span_of (entry_of s) in
        let start = min w.start s.start in
        let r' = range_of (begun s start) in
        let near = reaches es w s joins c in
        let fits = fits_in w s joins.order c.forward longer near (spaced_parts r c.after (spaced_after c.before (r ∷ c.after) c.spaced)).span in
        let spans : spans_of (insert_entry key_cmp es (s.file, s.end) (min w.start s.start)) ≡ inserted (range_of w) (spans_of es) =
        c.restarted start
        ∙ ap (λ (x : Range). c.before ++ x ∷ c.after) (sym (joined_long w s joins.order c.forward longer near))
        ∙ sym (inserted-stretched c.before c.after (range_of w) r c.spaced c.past near (no_longer w s joins.order c.forward longer))
        ∙ ap (inserted (range_of w)) (sym c.whole) in
        record {
          there = c.there;
          kept = record {
            forward = c.restarted_forward start (lower w.start s.start s.end c.forward);
            spaced = ap is_spaced spans ∙ is_spaced-inserted (range_of w) (spans_of es) fits kept.spaced;
          };
          order = c.forward;
          places_there = some (λ (q : Range). q.2) c.before c.after r es c.whole;
          ranges_there = some count_of c.before c.after r es c.whole;
          places_moved = moved (λ (q : Range). q.2) c.before c.after r r' es _ c.whole (c.restarted start);
          ranges_moved = moved count_of c.before c.after r r' es _ c.whole (c.restarted start);
          spans = spans;
        }
      where
        lower : (a b c : ℕ) → b ≤ c → min a b ≤ c
        lower a b c le = omega arith

        no_longer : (w s : Span) → w.start ≤ w.end → s.start ≤ s.end → w.end ≤ s.end → w.start + (w.end - w.start) ≤ s.start + (s.end - s.start)
        no_longer w s a b c = omega arith

        some : (f : Range → ℕ) (ps qs : List Range) (r : Range) (es : List Entry) → spans_of es ≡ ps ++ r ∷ qs → f r ≤ sum_by f (spans_of es)
        some f ps qs r es e = let all = ap (sum_by f) e ∙ sum_cut f ps qs r in omega arith

        moved : (f : Range → ℕ) (ps qs : List Range) (r r' : Range) (es fs : List Entry) → spans_of es ≡ ps ++ r ∷ qs → spans_of fs ≡ ps ++ r' ∷ qs → sum_by f (spans_of fs) + f r ≡ sum_by f (spans_of es) + f r'
        moved f ps qs r r' es fs e e' =
            let old = ap (sum_by f) e ∙ sum_cut f ps qs r in
            let new = ap (sum_by f) e' ∙ sum_cut f ps qs r' in
            omega arith

        same_file : (w s : Span) → Reaches (range_of w) (span_of (entry_of s)) → w.file ≡ s.file
        same_file w s near = of_tests w s near.back near.forth
          where
            of_tests : (w s : Span) → is_before (span_of (entry_of s)) (range_of w) ≡ false → is_before (range_of w) (span_of (entry_of s)) ≡ false → w.file ≡ s.file
            of_tests w s a b = grind (arith, nat_tests)

        fits_in : (w s : Span) → w.start ≤ w.end → s.start ≤ s.end → w.end ≤ s.end → Reaches (range_of w) (span_of (entry_of s)) → is_span (span_of (entry_of s)) ≡ true → is_span (range_of w) ≡ true
        fits_in w s a b c near span = by_parts w s a b c (same_file w s near) span
          where
            by_parts : (w s : Span) → w.start ≤ w.end → s.start ≤ s.end → w.end ≤ s.end → w.file ≡ s.file → is_span (span_of (entry_of s)) ≡ true → is_span (range_of w) ≡ true
            by_parts w s a b c e span = grind (arith, nat_tests)

        start_len : (ws we ss se : ℕ) → ws ≤ we → ss ≤ se → we ≤ se → max (ws + (we - ws)) (ss + (se - ss)) - min ws ss ≡ se - min ws ss
        start_len ws we ss se a b c = omega arith

        joined_long : (w s : Span) → w.start ≤ w.end → s.start ≤ s.end → w.end ≤ s.end → Reaches (range_of w) (span_of (entry_of s)) → joined (range_of w) (span_of (entry_of s)) ≡ range_of (begun s (min w.start s.start))
        joined_long w s a b c near = λ i. (same_file w s near i, min w.start s.start, start_len w.start w.end s.start s.end a b c i)

-- what is counted after it
pub counts_moved : (es fs : List Entry) (tally less more : Tally) (w s : Span) → Stretched es w s fs → Counts tally es
    → less.places + (s.end - s.start) ≡ tally.places → less.ranges + count_of (range_of s) ≡ tally.ranges
    → more.places ≡ less.places + (s.end - min w.start s.start) → more.ranges ≡ less.ranges + count_of (range_of (begun s (min w.start s.start))) → Counts more fs
counts_moved es fs tally less more w s out counts a b c d = record {
  places_counted = moved tally.places less.places more.places (places_in es) (places_in fs) (s.end - s.start) (s.end - min w.start s.start) a c counts.places_counted out.places_moved;
  ranges_counted = moved tally.ranges less.ranges more.ranges (ranges_in es) (ranges_in fs) (count_of (range_of s)) (count_of (range_of (begun s (min w.start s.start)))) b d counts.ranges_counted out.ranges_moved;
}
  where
    moved : (t l m old new n k : ℕ) → l + n ≡ t → m ≡ l + k → t ≡ old → new + n ≡ old + k → m ≡ new
    moved t l m old new n k a b c d = omega arith

-- ---- a span that touches no other is put in
pub record Entered (es : List Entry) (w : Span) (fs : List Entry) : Type 0 where
  pub kept : IsKept fs
  pub places_more : places_in fs ≡ places_in es + (w.end - w.start)
  pub ranges_more : ranges_in fs ≡ ranges_in es + count_of (range_of w)
  pub spans : spans_of fs ≡ inserted (range_of w) (spans_of es)

pub entered : (es : List Entry) (w : Span) → is_span (range_of w) ≡ true → w.start ≤ w.end → IsKept es → IsAlone w es → Entered es w (insert_entry key_cmp es (w.file, w.end) w.start)
entered es w fits order kept alone = by_cases (first_at w.file w.start es) refl
  where
    -- it stands between those that end before it and the others
    at_gap : (before after : List Entry) → es ≡ before ++ after → AllEnd before w.file w.start → IsPast w.file w.end after → is_first (range_of w) (spans_of after) ≡ true → Entered es w (insert_entry key_cmp es (w.file, w.end) w.start)
    at_gap before after whole past later first =
        let is : insert_entry key_cmp es (w.file, w.end) w.start ≡ before ++ entry_of w ∷ after =
        ap (λ (xs : List Entry). insert_entry key_cmp xs (w.file, w.end) w.start) whole ∙ entry_new w.file w.end before after w.start (all_end_sooner before w.file w.start w.end past order) later in
        let both = are_forward-append before after (ap are_forward (sym whole) ∙ kept.forward) in
        let split : spans_of es ≡ spans_of before ++ spans_of after = ap spans_of whole ∙ spans_of-append before after in
        let sums : spans_of (insert_entry key_cmp es (w.file, w.end) w.start) ≡ spans_of before ++ range_of w ∷ spans_of after = ap spans_of is ∙ spans_of-append before (entry_of w ∷ after) in
        let spans : spans_of (insert_entry key_cmp es (w.file, w.end) w.start) ≡ inserted (range_of w) (spans_of es) =
        sums
        ∙ sym (inserted-alone (spans_of before) (spans_of after) (range_of w) (spans_before before (range_of w) both.0 past) first)
        ∙ ap (inserted (range_of w)) (sym split) in
        record {
          kept = record {
            forward = ap are_forward is ∙ forward_both before (entry_of w ∷ after) both.0 (and_from (nat_le w.start w.end) (are_forward after) (le-leb w.start w.end order) both.1);
            spaced = ap is_spaced spans ∙ is_spaced-inserted (range_of w) (spans_of es) fits kept.spaced;
          };
          places_more = sum_more (λ (q : Range). q.2) (spans_of before) (spans_of after) es _ split sums;
          ranges_more = sum_more count_of (spans_of before) (spans_of after) es _ split sums;
          spans = spans;
        }
      where
        sum_more : (f : Range → ℕ) (ps qs : List Range) (es fs : List Entry) → spans_of es ≡ ps ++ qs → spans_of fs ≡ ps ++ range_of w ∷ qs → sum_by f (spans_of fs) ≡ sum_by f (spans_of es) + f (range_of w)
        sum_more f ps qs es fs e e' =
            let old = ap (sum_by f) e in
            let new = ap (sum_by f) e' ∙ sum_cut f ps qs (range_of w) in
            omega arith

    by_cases : (o : Option Entry) → first_at w.file w.start es ≡ o → Entered es w (insert_entry key_cmp es (w.file, w.end) w.start)
    by_cases None is = at_gap es [] (sym (append_nil es)) (all_end w.file w.start es is) tt refl
      where
        append_nil : (xs : List Entry) → xs ++ [] ≡ xs
        append_nil [] = refl
        append_nil (x ∷ xs) = ap (λ (ys : List Entry). x ∷ ys) (append_nil xs)
    by_cases (Some e) is =
        let f = found_at w.file w.start es e is in
        let forward = (and_parts (nat_le e.1 e.0.1) (are_forward f.after) (are_forward-append f.before (e ∷ f.after) (ap are_forward (sym f.whole) ∙ kept.forward)).1).0 in
        at_gap f.before (e ∷ f.after) f.whole f.past (later_key w e order forward (alone e is)) (alone e is)
      where
        later_key : (w : Span) (e : Entry) → w.start ≤ w.end → nat_le e.1 e.0.1 ≡ true → is_before (range_of w) (span_of e) ≡ true → (nat_lt w.file e.0.0 || (e.0.0 == w.file && nat_lt w.end e.0.1)) ≡ true
        later_key w e a b c = grind (arith, nat_tests)

-- ---- an empty span is made
pub record Held (es : List Entry) (file at : ℕ) (fs : List Entry) : Type 0 where
  pub kept : IsKept fs
  pub places_stay : places_in fs ≡ places_in es
  pub ranges_stay : ranges_in fs ≡ ranges_in es
  pub spans : spans_of fs ≡ inserted (file, at, 0) (spans_of es)

pub held : (es : List Entry) (file at : ℕ) → is_span (file, at, 0) ≡ true → IsKept es → is_touched (spans_of es) file at ≡ false → Held es file at (insert_entry key_cmp es (file, at) at)
held es file at fits kept free =
    let is = entered es empty (ap is_span none ∙ fits) (omega arith) kept alone in
    record {
      kept = is.kept;
      places_stay = same (places_in (insert_entry key_cmp es (file, at) at)) (places_in es) (at - at) is.places_more (nothing at);
      ranges_stay = same (ranges_in (insert_entry key_cmp es (file, at) at)) (ranges_in es) (count_of (range_of empty)) is.ranges_more (ap count_of none);
      spans = is.spans ∙ ap (λ (r : Range). inserted r (spans_of es)) none;
    }
  where
    empty : Span
    empty = record { file = file; start = at; end = at }

    nothing : (n : ℕ) → n - n ≡ 0
    nothing n = omega arith

    none : range_of empty ≡ (file, at, 0)
    none = λ i. (file, at, nothing at i)

    same : (new old n : ℕ) → new ≡ old + n → n ≡ 0 → new ≡ old
    same new old n e z = omega arith

    alone : IsAlone empty es
    alone e is =
        let cut = cut_at es e (file, at, 0) kept is in
        begins_behind e cut.forward (sym (touched_by_first es e file at kept is) ∙ free) cut.here
      where
        begins_behind : (e : Entry) → e.1 ≤ e.0.1 → (e.0.0 == file && nat_le e.1 at) ≡ false → is_before (span_of e) (file, at, 0) ≡ false → is_before (range_of empty) (span_of e) ≡ true
        begins_behind e a b c = grind (arith, nat_tests)

-- ---- a span that lies within another changes nothing
pub inserted-inside : (es : List Entry) (w s : Span) → IsKept es → w.start ≤ w.end → first_at w.file w.start es ≡ Some (entry_of s) → is_within (range_of s) (range_of w) ≡ true → inserted (range_of w) (spans_of es) ≡ spans_of es
inserted-inside es w s kept order found within = by_cut (cut_at es (entry_of s) (range_of w) kept found)
  where
    by_cut : Cut es (entry_of s) (range_of w) → inserted (range_of w) (spans_of es) ≡ spans_of es
    by_cut c =
        ap (inserted (range_of w)) c.whole
        ∙ inserted-stretched c.before c.after (range_of w) (range_of s) c.spaced c.past (record { back = c.here; forth = not_past w s order c.forward within }) (no_longer w s order c.forward within)
        ∙ ap (λ (x : Range). c.before ++ x ∷ c.after) (same_span w s order c.forward within)
        ∙ sym c.whole
      where
        not_past : (w s : Span) → w.start ≤ w.end → s.start ≤ s.end → is_within (range_of s) (range_of w) ≡ true → is_before (range_of w) (range_of s) ≡ false
        not_past w s a b c = grind (arith, nat_tests)

        no_longer : (w s : Span) → w.start ≤ w.end → s.start ≤ s.end → is_within (range_of s) (range_of w) ≡ true → w.start + (w.end - w.start) ≤ s.start + (s.end - s.start)
        no_longer w s a b c = grind (arith, nat_tests)

        same_file : (w s : Span) → is_within (range_of s) (range_of w) ≡ true → w.file ≡ s.file
        same_file w s c = grind (arith, nat_tests)

        same_start : (w s : Span) → is_within (range_of s) (range_of w) ≡ true → min w.start s.start ≡ s.start
        same_start w s c = grind (arith, nat_tests)

        same_len : (w s : Span) → w.start ≤ w.end → s.start ≤ s.end → is_within (range_of s) (range_of w) ≡ true → max (w.start + (w.end - w.start)) (s.start + (s.end - s.start)) - min w.start s.start ≡ s.end - s.start
        same_len w s a b c = grind (arith, nat_tests)

        same_span : (w s : Span) → w.start ≤ w.end → s.start ≤ s.end → is_within (range_of s) (range_of w) ≡ true → joined (range_of w) (range_of s) ≡ range_of s
        same_span w s a b c = λ i. (same_file w s c i, same_start w s c i, same_len w s a b c i)

-- ---- an empty span is taken out
pub record LetGo (es : List Entry) (file at : ℕ) (fs : List Entry) : Type 0 where
  pub kept : IsKept fs
  pub places_stay : places_in fs ≡ places_in es
  pub ranges_stay : ranges_in fs ≡ ranges_in es
  pub spans : spans_of fs ≡ without_room file at (spans_of es)

pub let_go : (es : List Entry) (file at : ℕ) → IsKept es → first_at file at es ≡ Some ((file, at), at) → LetGo es file at (remove_entry (is_key (key_cmp (file, at))) es)
let_go es file at kept found = by_cut (cut_at es ((file, at), at) (file, at, 0) kept found)
  where
    by_cut : Cut es ((file, at), at) (file, at, 0) → LetGo es file at (remove_entry (is_key (key_cmp (file, at))) es)
    by_cut c =
        let r : Range = (file, at, at - at) in
        record {
          kept = record { forward = c.removed_forward; spaced = ap is_spaced c.removed ∙ spaced_without c.before c.after r c.spaced };
          places_stay = same_sum (λ (q : Range). q.2) c (nothing at);
          ranges_stay = same_sum count_of c (ap (λ n. cond (nat_lt 0 n) 1 0) (nothing at));
          spans = room_there es ((file, at), at) file at kept found (is_room_itself file at);
        }
      where
        nothing : (n : ℕ) → n - n ≡ 0
        nothing n = omega arith

        is_room_itself : (file at : ℕ) → is_room file at (file, at, at - at) ≡ true
        is_room_itself file at = grind (arith, nat_tests)

        same_sum : (f : Range → ℕ) (c : Cut es ((file, at), at) (file, at, 0)) → f (file, at, at - at) ≡ 0 → sum_by f (spans_of (remove_entry (is_key (key_cmp (file, at))) es)) ≡ sum_by f (spans_of es)
        same_sum f c e =
            let new = ap (sum_by f) c.removed in
            let old = ap (sum_by f) c.whole ∙ sum_cut f c.before c.after (file, at, at - at) in
            omega (arith, e)
