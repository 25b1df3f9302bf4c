-- Databases that close, one after another.
use Rattle.std.proofs.Common.{◌≡◌, inl, inr, ◌⊎◌, ⊎_elim, ℕ, zero, suc, ◌+◌, ◌<◌, ◌==◌, true, false, List, [], ◌∷◌, ◌++◌, length, get_or, slice_get, slice_set, Some, refl, sym, ◌∙◌, ap, subst, arith}
use Rattle.std.proofs.lemmas.Bool.Decides.{nat_tests}
use Rattle.std.proofs.lemmas.List.{length-append, length-map, length-set, get_or-set_same, get_or-set_other}
use Rattle.std.proofs.lemmas.Option.{get_or_from_slice_get, slice_get_within, same_Some}
use Rattle.mm_ranges.specs.declared.part.Closed.{Closed}
use Rattle.mm_tie.specs.Ends.{Ring, taken}
use Rattle.mm_durable.specs.Log.{sealed}
use Rattle.mm_durable.specs.Intake.{HasEntry, HasTaken, KeepsFeeds, lists}
use Rattle.mm_durable.specs.Durable.{IsOrderly, AllClosed, is_ready, has_closed}
use Rattle.mm_durable.specs.declared.log.Log.{Log}
use Rattle.mm_durable.specs.declared.durable.Durable.{Durable}
use Rattle.mm_durable.proofs.Sealed.{seats_full, not_closed}
use Rattle.mm_rows_durable.specs.Benches.{IsBench}
use Rattle.mm_rows_durable.specs.Closings.{MayTake, Takes, IsTurned, IsClosing, IsEntered, IsWaiting}
use Rattle.mm_rows_durable.specs.declared.subject.Side.{Side}
use Rattle.mm_rows_durable.specs.declared.subject.Bench.{Bench}
use Rattle.mm_rows_durable.proofs.Keeping.{set_each, found_at, closed_as, own_as}

closes : (count : ℕ) (before after : List Closed) (item : Closed) → (length before ≡ count + 1) → after ≡ before ++ item ∷ [] → (length after == count + 2) ≡ true
closes count before after item e more = let long : length after ≡ count + 2 = omega (arith, ap length more, length-append before (item ∷ []), e) in grind (arith, nat_tests)

last_there : (b : List Closed) (x : Closed) (n : ℕ) → length b ≡ n → slice_get (b ++ x ∷ []) n ≡ Some x
last_there [] x zero e = refl
last_there [] x (suc n) e = absurd (omega (arith, e))
last_there (y ∷ b) x zero e = absurd (omega (arith, e))
last_there (y ∷ b) x (suc n) e = last_there b x n (omega (arith, e))

below_or_at : (k i : ℕ) → k < i + 1 → (k < i) ⊎ (k ≡ i)
below_or_at zero zero lt = inr refl
below_or_at zero (suc i) lt = inl (omega arith)
below_or_at (suc k) zero lt = absurd (omega (arith, lt))
below_or_at (suc k) (suc i) lt = ⊎_elim (λ (low : k < i). inl (omega (arith, low))) (λ (same : k ≡ i). inr (omega (arith, same))) (below_or_at k i (omega (arith, lt)))

module _ {D : Type 0} where
  -- what a database gave stands behind what its feed had taken
  pub record Took (old «new» : Durable D) (db : ℕ) (before after : List Closed) (item : Closed) : Type 0 where
    pub had : HasTaken old.intake db before
    pub more : after ≡ before ++ item ∷ []
    pub set : lists «new».intake ≡ slice_set (lists old.intake) db after
    pub log_same : «new».log ≡ old.log

  module _ (old «new» : Durable D) (db : ℕ) (before after : List Closed) (item : Closed) (took : Took old «new» db before after item) (side : Side) (may : MayTake old db side) where
    many : length (lists old.intake) ≡ length old.log.names.items
    many = length-map old.intake.feeds.items taken ∙ may.orderly.intake_is.feeds

    had_count : length before ≡ sealed old.log + 1
    had_count = sym (ap length (get_or_from_slice_get (lists old.intake) db before [] took.had)) ∙ not_closed old.log old.intake may.orderly.sound may.orderly.intake_is (seats_full old may.orderly may.ready) db may.below may.placed.unclosed

    own_list : get_or (lists «new».intake) db [] ≡ after
    own_list = ap (λ (l : List (List Closed)). get_or l db []) took.set ∙ get_or-set_same (lists old.intake) db after [] (omega (arith, many, may.below))

    sealed_same : sealed «new».log ≡ sealed old.log
    sealed_same = ap sealed took.log_same

    pub has_now : has_closed «new» db ≡ true
    has_now = ap (λ (l : List Closed). length l == sealed «new».log + 2) own_list ∙ ap (λ (n : ℕ). length after == n + 2) sealed_same ∙ closes (sealed old.log) before after item had_count took.more

    pub others_same : (other : ℕ) → (other ≡ db → ⊥) → get_or (lists «new».intake) other [] ≡ get_or (lists old.intake) other []
    others_same other apart = ap (λ (l : List (List Closed)). get_or l other []) took.set ∙ get_or-set_other (lists old.intake) db other after [] apart

    pub entered_now : 0 < item.entries → IsEntered (get_or (lists «new».intake) db []) (sealed «new».log + 1)
    entered_now some = (item, (ap (λ (l : List Closed). slice_get l (sealed «new».log + 1)) (own_list ∙ took.more) ∙ last_there before item (sealed «new».log + 1) (omega (arith, had_count, sealed_same)), some))

-- ---- the next of them

module _ (b c : Bench) (i entry : ℕ) (s t : Side) (is : IsClosing b i entry) (at : slice_get b.sides.items i ≡ Some s) (takes : Takes b.durable c.durable i s t) (sides : c.sides.items ≡ slice_set b.sides.items i t) where
  seals_same : sealed c.durable.log ≡ sealed b.durable.log
  seals_same = ap sealed takes.log_same

  turned_here : IsTurned c.durable (i + 1) entry i t
  turned_here =
      let was = is.each i s at in
      record {
        side_is = takes.side_is;
        own = own_as b.durable c.durable i _ takes.rings_same (was.own ∙ ap (λ (r : Ring). Some r) (sym takes.ring));
        closed = λ low. takes.has_taken;
        unclosed = λ high. absurd (omega (arith, high));
        waits = λ same high. absurd (omega (arith, high));
      }

  turned_other : (e : ℕ) (y : Side) → (e ≡ i → ⊥) → slice_get b.sides.items e ≡ Some y → IsTurned c.durable (i + 1) entry e y
  turned_other e y apart found =
      let was = is.each e y found in
      let list = takes.others e apart in
      record {
        side_is = was.side_is;
        own = own_as b.durable c.durable e _ takes.rings_same was.own;
        closed = λ low. ⊎_elim (λ (less : e < i). closed_as b.durable c.durable e true list seals_same (was.closed less)) (λ (same : e ≡ i). absurd (apart same)) (below_or_at e i low);
        unclosed = λ high. closed_as b.durable c.durable e false list seals_same (was.unclosed (omega (arith, high)));
        waits = λ same high. was.waits same (omega (arith, high));
      }

  turned_each : (e : ℕ) (y : Side) → slice_get c.sides.items e ≡ Some y → IsTurned c.durable (i + 1) entry e y
  turned_each e y found = set_each (IsTurned c.durable (i + 1) entry) b.sides.items i t turned_other turned_here e y (ap (λ (l : List Side). slice_get l e) (sym sides) ∙ found)

  still_entered : entry < i + 1 → IsEntered (get_or (lists c.durable.intake) entry []) (sealed c.durable.log + 1)
  still_entered low = ⊎_elim
      (λ (less : entry < i). subst (λ (n : ℕ). IsEntered (get_or (lists c.durable.intake) entry []) (n + 1)) (sym seals_same)
      (subst (λ (l : List Closed). IsEntered l (sealed b.durable.log + 1)) (sym (takes.others entry (λ same. absurd (omega (arith, same, less))))) (is.entered less)))
      (λ (same : entry ≡ i). subst (λ (n : ℕ). IsEntered (get_or (lists c.durable.intake) n []) (sealed c.durable.log + 1)) (sym same) (takes.entered ((is.each i s at).waits (sym same) (omega arith))))
      (below_or_at entry i low)

  same_count : length c.sides.items ≡ length b.sides.items
  same_count = ap length sides ∙ length-set b.sides.items i t

  pub closed_next : IsClosing c (i + 1) entry
  closed_next = record {
    orderly = takes.orderly;
    going = takes.ended_same ∙ is.going;
    ready = takes.ready;
    count = same_count ∙ is.count ∙ ap (λ (l : Log). length l.names.items) (sym takes.log_same);
    known = omega (arith, same_count, is.known);
    each = turned_each;
    entered = still_entered;
  }

  pub closed_count : length c.sides.items ≡ length b.sides.items
  closed_count = same_count

pub may_take : (b : Bench) (i entry : ℕ) (s : Side) → IsClosing b i entry → slice_get b.sides.items i ≡ Some s → MayTake b.durable i s
may_take b i entry s is at =
    let one = is.each i s at in
    record {
      orderly = is.orderly;
      ready = is.ready;
      below = omega (arith, is.count, slice_get_within b.sides.items i s at);
      placed = record { side_is = one.side_is; own = one.own; unclosed = one.unclosed (omega arith) };
    }

-- ---- the first of them

pub first_turn : (b c : Bench) (entry : ℕ) → IsBench b → IsBench c → is_ready c.durable ≡ true → c.sides.items ≡ b.sides.items → IsWaiting b entry → IsClosing c 0 entry
first_turn b c entry was is ready sides waiting =
    let at : slice_get c.sides.items entry ≡ Some waiting.0 = ap (λ (l : List Side). slice_get l entry) sides ∙ waiting.1.0 in
    record {
      orderly = is.orderly;
      going = is.going;
      ready = ready;
      count = is.count;
      known = slice_get_within c.sides.items entry waiting.0 at;
      each = λ db s found.
          let one = is.each db s found in
          record {
            side_is = one.side_is;
            own = one.own;
            closed = λ low. absurd (omega (arith, low));
            unclosed = λ high. one.unclosed;
            waits = λ same high. subst (λ (y : Side). 0 < length y.held.waiting) (same_Some waiting.0 s (sym at ∙ (ap (λ (n : ℕ). slice_get c.sides.items n) (sym same) ∙ found))) waiting.1.1;
          };
      entered = λ low. absurd (omega (arith, low));
    }

-- ---- the seal

pub all_closed : (b : Bench) (count entry : ℕ) → IsClosing b count entry → count ≡ length b.sides.items → AllClosed b.durable
all_closed b count entry is all db lt =
    let low : db < length b.sides.items = omega (arith, lt, is.count) in
    let one = found_at b.sides.items db low in
    (is.each db one.0 one.1).closed (omega (arith, low, all))

pub has_entry : (b : Bench) (count entry : ℕ) → IsClosing b count entry → count ≡ length b.sides.items → HasEntry (lists b.durable.intake) (sealed b.durable.log + 1)
has_entry b count entry is all =
    let found = is.entered (omega (arith, is.known, all)) in
    record { db = entry; item = found.0; there = found.1.0; some = found.1.1 }

reopened : (a b n : ℕ) → a ≡ b + 1 → (n == b + 2) ≡ true → (n == a + 2) ≡ false
reopened a b n e f = grind (arith, nat_tests)

pub sealed_bench : (b c : Bench) (count entry : ℕ) → IsClosing b count entry → count ≡ length b.sides.items → IsOrderly c.durable → c.durable.ended ≡ b.durable.ended → c.durable.log.names.items ≡ b.durable.log.names.items
    → sealed c.durable.log ≡ sealed b.durable.log + 1 → KeepsFeeds b.durable.intake c.durable.intake → c.sides.items ≡ b.sides.items → IsBench c
sealed_bench b c count entry is all orderly ended names more feeds sides = record {
  orderly = orderly;
  going = ended ∙ is.going;
  count = ap length sides ∙ is.count ∙ ap length (sym names);
  each = λ db s found.
      let was = ap (λ (l : List Side). slice_get l db) (sym sides) ∙ found in
      let one = is.each db s was in
      record {
        side_is = one.side_is;
        own = own_as b.durable c.durable db _ feeds.rings_kept one.own;
        unclosed = ap (λ (l : List (List Closed)). length (get_or l db []) == sealed c.durable.log + 2) feeds.lists_kept
            ∙ reopened (sealed c.durable.log) (sealed b.durable.log) (length (get_or (lists b.durable.intake) db [])) more (one.closed (omega (arith, all, slice_get_within b.sides.items db s was)));
      };
}
