-- What the databases gave since the last seal makes the next section.
use Rattle.std.proofs.Common.{◌≡◌, ℕ, ◌+◌, Bool, true, false, cond, ◌||◌, List, [], ◌∷◌, ◌++◌, length, take, Option, Some, None, refl, sym, ◌∙◌, ap, subst, arith}
use mathlib.Core.Bool.{true≢false}
use Rattle.std.specs.declared.cmp.Ordering.{Ordering}
use Rattle.std.specs.declared.cmp.Ordering.TheVariants.{Less, Equal, Greater}
use Rattle.std.specs.Ordering.{nat_cmp, is_lt, is_eq, eq_by_cmp}
use Rattle.std.specs.Cmp.Lexicographic.{slice_cmp}
use Rattle.std.proofs.lemmas.Bool.{and_from}
use Rattle.mm_outside.specs.Image.{name_cmp}
use Rattle.mm_outside.proofs.Places.{one_name, same_name, different}
use Rattle.mm_ranges.specs.declared.part.Closed.{Closed}
use Rattle.mm_section.specs.Spells.{is_first, are_rising}
use Rattle.mm_tie.specs.Items.{Follows}
use Rattle.mm_items.specs.Given.{sealed_part, has_content, sealed_parts, has_database, AreApart, Taken, AllFollow, with_items}
use Rattle.mm_durable.specs.Names.{has_name}
use Rattle.mm_durable.specs.Intake.{is_ours, first_items, AllAfter, AreRising, HasGiven, AreSeated, IsGiven, AllGave, with_given, given_of}
use Rattle.mm_durable.specs.declared.intake.Seat.{Seat}

pub not_same : (o : Ordering) → is_lt o ≡ true → is_eq o ≡ false
not_same Less e = refl
not_same Equal e = absurd (true≢false (sym e))
not_same Greater e = refl

take_front : (b more : List Closed) → take (length b) (b ++ more) ≡ b
take_front [] more = refl
take_front (x ∷ b) more = ap (λ (l : List Closed). x ∷ l) (take_front b more)

pub take_whole : (b : List Closed) → take (length b) b ≡ b
take_whole [] = refl
take_whole (x ∷ b) = ap (λ (l : List Closed). x ∷ l) (take_whole b)

front_is : (b items : List Closed) (x : Closed) (n : ℕ) → items ≡ b ++ x ∷ [] → length b ≡ n → take n items ≡ b
front_is b items x n e l = ap (take n) e ∙ ap (λ (k : ℕ). take k (b ++ x ∷ [])) (sym l) ∙ take_front b (x ∷ [])

-- each of these is a database of the run
abbrev pub AllOurs : List (List ℕ) → List (List ℕ) → Type 0
AllOurs names [] = Unit {0}
AllOurs names (n ∷ sorted) = (is_ours names n ≡ true) × AllOurs names sorted

module _ (sealed : ℕ) (items : Taken) where
  -- a name that comes before all others is none of theirs
  none_of : (n : List ℕ) (sorted : List (List ℕ)) (seats : List Seat) → AreSeated sealed items sorted seats → AllAfter n sorted → has_database n (given_of seats) ≡ false
  none_of n [] [] is after = refl
  none_of n [] (s ∷ seats) is after = absurd is
  none_of n (m ∷ sorted) [] is after = refl
  none_of n (m ∷ sorted) (s ∷ seats) is after = by s.item (none_of n sorted seats is.1.1 after.1)
    where
      by : (o : Option Closed) → has_database n (given_of seats) ≡ false → has_database n (with_given s.name o (given_of seats)) ≡ false
      by None rest = rest
      by (Some x) rest = ap (λ (b : Bool). b || has_database n (given_of seats)) (ap (λ (k : List ℕ). eq_by_cmp name_cmp n k) is.0 ∙ not_same (name_cmp n m) after.0) ∙ rest

  pub separate : (sorted : List (List ℕ)) (seats : List Seat) → AreSeated sealed items sorted seats → AreRising sorted → AreApart (given_of seats)
  separate [] [] is rising = tt
  separate [] (s ∷ seats) is rising = absurd is
  separate (m ∷ sorted) [] is rising = tt
  separate (m ∷ sorted) (s ∷ seats) is rising = by s.item (none_of s.name sorted seats is.1.1 (subst (λ (k : List ℕ). AllAfter k sorted) (sym is.0) rising.0)) (separate sorted seats is.1.1 rising.1)
    where
      by : (o : Option Closed) → has_database s.name (given_of seats) ≡ false → AreApart (given_of seats) → AreApart (with_given s.name o (given_of seats))
      by None none rest = rest
      by (Some x) none rest = (none, rest)

  -- each item follows those of the sealed sections
  pub follow : (names sorted : List (List ℕ)) (seats : List Seat) → AreSeated sealed items sorted seats → AllOurs names sorted → AllFollow (is_ours names) (first_items (sealed + 1) items) (given_of seats)
  follow names [] [] is ours = tt
  follow names [] (s ∷ seats) is ours = absurd is
  follow names (m ∷ sorted) [] is ours = tt
  follow names (m ∷ sorted) (s ∷ seats) is ours = by s.item is.1.0 (follow names sorted seats is.1.1 ours.1)
    where
      by : (o : Option Closed) → HasGiven sealed (items m) o → AllFollow (is_ours names) (first_items (sealed + 1) items) (given_of seats) → AllFollow (is_ours names) (first_items (sealed + 1) items) (with_given s.name o (given_of seats))
      by None gave rest = rest
      by (Some x) gave rest =
          let own : take (sealed + 1) (items s.name) ≡ gave.0 = ap (λ (k : List ℕ). take (sealed + 1) (items k)) is.0 ∙ front_is gave.0 (items m) x (sealed + 1) gave.1.0 gave.1.1.0 in
          (subst (λ (k : List ℕ). is_ours names k ≡ true) (sym is.0) ours.0, (subst (λ (l : List Closed). Follows l x) (sym own) gave.1.1.1, rest))

  -- the parts stand in rising order
  first : (n : List ℕ) (sorted : List (List ℕ)) (seats : List Seat) → AreSeated sealed items sorted seats → AllAfter n sorted → is_first n (sealed_parts (given_of seats)) ≡ true
  first n [] [] is after = refl
  first n [] (s ∷ seats) is after = absurd is
  first n (m ∷ sorted) [] is after = refl
  first n (m ∷ sorted) (s ∷ seats) is after = by s.item (first n sorted seats is.1.1 after.1)
    where
      content : (x : Closed) (b : Bool) → is_first n (sealed_parts (given_of seats)) ≡ true → is_first n (cond b (sealed_part (s.name, x) ∷ sealed_parts (given_of seats)) (sealed_parts (given_of seats))) ≡ true
      content x true rest = ap (λ (k : List ℕ). is_lt (slice_cmp nat_cmp n k)) is.0 ∙ after.0
      content x false rest = rest

      by : (o : Option Closed) → is_first n (sealed_parts (given_of seats)) ≡ true → is_first n (sealed_parts (with_given s.name o (given_of seats))) ≡ true
      by None rest = rest
      by (Some x) rest = content x (has_content (sealed_part (s.name, x))) rest

  pub rising_parts : (sorted : List (List ℕ)) (seats : List Seat) → AreSeated sealed items sorted seats → AreRising sorted → are_rising (sealed_parts (given_of seats)) ≡ true
  rising_parts [] [] is rising = refl
  rising_parts [] (s ∷ seats) is rising = absurd is
  rising_parts (m ∷ sorted) [] is rising = refl
  rising_parts (m ∷ sorted) (s ∷ seats) is rising = by s.item (first s.name sorted seats is.1.1 (subst (λ (k : List ℕ). AllAfter k sorted) (sym is.0) rising.0)) (rising_parts sorted seats is.1.1 rising.1)
    where
      content : (x : Closed) (b : Bool) → is_first s.name (sealed_parts (given_of seats)) ≡ true → are_rising (sealed_parts (given_of seats)) ≡ true → are_rising (cond b (sealed_part (s.name, x) ∷ sealed_parts (given_of seats)) (sealed_parts (given_of seats))) ≡ true
      content x true front rest = and_from (is_first s.name (sealed_parts (given_of seats))) (are_rising (sealed_parts (given_of seats))) front rest
      content x false front rest = rest

      by : (o : Option Closed) → is_first s.name (sealed_parts (given_of seats)) ≡ true → are_rising (sealed_parts (given_of seats)) ≡ true → are_rising (sealed_parts (with_given s.name o (given_of seats))) ≡ true
      by None front rest = rest
      by (Some x) front rest = content x (has_content (sealed_part (s.name, x))) front rest

  -- with the items of this group the databases have all that their feeds took
  pub all_items : (sorted : List (List ℕ)) (seats : List Seat) → length seats ≡ length sorted → AreSeated sealed items sorted seats → AllGave seats → (n : List ℕ) → has_name sorted n ≡ true → with_items (given_of seats) (first_items (sealed + 1) items) n ≡ items n
  all_items [] seats full is gave n has = absurd (true≢false (sym has))
  all_items (m ∷ sorted) [] full is gave n has = absurd (omega (arith, full))
  all_items (m ∷ sorted) (s ∷ seats) full is gave n has = by s.item gave.0 is.1.0 (λ h. all_items sorted seats (omega (arith, full)) is.1.1 gave.1 n h) (eq_by_cmp name_cmp n s.name) refl
    where
      other : eq_by_cmp name_cmp n s.name ≡ false → has_name sorted n ≡ true
      other e =
          let apart : eq_by_cmp name_cmp m n ≡ false = different m n (λ q. true≢false (sym (same_name n) ∙ ap (λ (k : List ℕ). eq_by_cmp name_cmp n k) (sym (is.0 ∙ q)) ∙ e)) in
          sym (ap (λ (b : Bool). b || has_name sorted n) apart) ∙ has

      by : (o : Option Closed) → IsGiven o → HasGiven sealed (items m) o → (has_name sorted n ≡ true → with_items (given_of seats) (first_items (sealed + 1) items) n ≡ items n) → (c : Bool) → eq_by_cmp name_cmp n s.name ≡ c → with_items (with_given s.name o (given_of seats)) (first_items (sealed + 1) items) n ≡ items n
      by None some own rest c e = absurd some
      by (Some x) some own rest true e =
          let here : n ≡ m = one_name n s.name e ∙ is.0 in
          let front : take (sealed + 1) (items n) ≡ own.0 = ap (λ (k : List ℕ). take (sealed + 1) (items k)) here ∙ front_is own.0 (items m) x (sealed + 1) own.1.0 own.1.1.0 in
          ap (λ (b : Bool). cond b (take (sealed + 1) (items n) ++ x ∷ []) (with_items (given_of seats) (first_items (sealed + 1) items) n)) e
          ∙ ap (λ (l : List Closed). l ++ x ∷ []) front ∙ sym own.1.0 ∙ ap items (sym here)
      by (Some x) some own rest false e =
          ap (λ (b : Bool). cond b (take (sealed + 1) (items n) ++ x ∷ []) (with_items (given_of seats) (first_items (sealed + 1) items) n)) e
          ∙ rest (other e)
