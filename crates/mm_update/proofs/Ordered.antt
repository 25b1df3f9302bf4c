-- Paths in the order of their steps, of which only neighbours can overlap.
use Rattle.std.proofs.Common.{◌≡◌, ◌≢◌, ℕ, zero, suc, ◌+◌, ◌<◌, ◌≤◌, Bool, true, false, List, [], ◌∷◌, ◌++◌, length, get_or, take, drop, map, inl, inr, ◌⊎◌, refl, sym, ap, ◌∙◌, subst, arith}
use Rattle.std.specs.Prelude.{◌&&◌, ◌||◌}
use Rattle.std.specs.declared.cmp.Ordering.{Ordering}
use Rattle.std.specs.declared.cmp.Ordering.TheVariants.{Less, Equal, Greater}
use Rattle.std.specs.Ordering.{nat_cmp, is_eq, ordering_then, ordering_reverse}
use Rattle.std.specs.Cmp.{IsTotalOrder}
use Rattle.std.specs.Cmp.Lexicographic.{slice_cmp, lists_total}
use Rattle.std.proofs.lemmas.Cmp.{nat_list_cmp_total}
use Rattle.std.proofs.lemmas.Map.Text.{is_eq-slice_cmp}
use Rattle.std.specs.Str.{bytes_eq}
use Rattle.mm_bson.specs.Path.{names}
use Rattle.mm_update.specs.Paths.{leads, overlap, overlaps_any, by_steps, IsBefore, IsBeforeAll, AreInOrder, IsPlace, IsFreeAt, IsFreeBefore}
use Rattle.mm_update.proofs.Fields.{bytes_same}
use Rattle.mm_update.proofs.Kept.{same_name}
use Rattle.mm_update.proofs.Steps.{some_step}

pub steps_total : IsTotalOrder by_steps
steps_total = lists_total nat_list_cmp_total

name_total : IsTotalOrder (slice_cmp nat_cmp)
name_total = nat_list_cmp_total

pub equal_names : (a b : List ℕ) → slice_cmp nat_cmp a b ≡ Equal → a ≡ b
equal_names a b e = same_name a b (sym (is_eq-slice_cmp a b) ∙ ap is_eq e)

pub equal_itself : (a : List ℕ) → slice_cmp nat_cmp a a ≡ Equal
equal_itself a = by (slice_cmp nat_cmp a a) refl
  where
    by : (o : Ordering) → slice_cmp nat_cmp a a ≡ o → o ≡ Equal
    by Equal is = refl
    by Less is =
        let wrong : false ≡ true = ap is_eq (sym is) ∙ is_eq-slice_cmp a a ∙ bytes_same a in
        absurd cc
    by Greater is =
        let wrong : false ≡ true = ap is_eq (sym is) ∙ is_eq-slice_cmp a a ∙ bytes_same a in
        absurd cc

both_true : (a b : Bool) → (a && b) ≡ true → (a ≡ true) × (b ≡ true)
both_true true b e = (refl, e)
both_true false b e = absurd cc

-- a path that leads to another one doesn't come behind it
pub leading_first : (a b : List (List ℕ)) → leads a b ≡ true → by_steps a b ≢ Greater
leading_first [] [] is e = cc
leading_first [] (y ∷ b) is e = cc
leading_first (x ∷ a) [] is e = absurd cc
leading_first (x ∷ a) (y ∷ b) is e =
    let both = both_true (bytes_eq x y) (leads a b) is in
    let same : slice_cmp nat_cmp x y ≡ Equal = ap (λ (n : List ℕ). slice_cmp nat_cmp n y) (same_name x y both.0) ∙ equal_itself y in
    leading_first a b both.1 (ap (λ (o : Ordering). ordering_then o (by_steps a b)) (sym same) ∙ e)

-- what lies between a path and one to which it leads, it leads to as well
pub then_first : (o p : Ordering) → ordering_then o p ≢ Greater → o ≢ Greater
then_first Greater p h e = h refl
then_first Less p h e = cc
then_first Equal p h e = cc

pub middle_equal : (x y : List ℕ) → slice_cmp nat_cmp x y ≢ Greater → slice_cmp nat_cmp y x ≢ Greater → slice_cmp nat_cmp x y ≡ Equal
middle_equal x y h k = by (slice_cmp nat_cmp x y) refl h
  where
    by : (o : Ordering) → slice_cmp nat_cmp x y ≡ o → o ≢ Greater → o ≡ Equal
    by Equal is h = refl
    by Greater is h = absurd (h refl)
    by Less is h = absurd (k (name_total.antisymm y x ∙ ap ordering_reverse is))

pub between : (a b c : List (List ℕ)) → leads a c ≡ true → by_steps a b ≢ Greater → by_steps b c ≢ Greater → leads a b ≡ true
between [] b c is h k = refl
between (x ∷ a) b [] is h k = absurd cc
between (x ∷ a) [] (z ∷ c) is h k = absurd (h refl)
between (x ∷ a) (y ∷ b) (z ∷ c) is h k =
    let both = both_true (bytes_eq x z) (leads a c) is in
    let same : x ≡ z = same_name x z both.0 in
    let front : slice_cmp nat_cmp x y ≢ Greater = then_first (slice_cmp nat_cmp x y) (by_steps a b) h in
    let back : slice_cmp nat_cmp y x ≢ Greater = subst (λ n. slice_cmp nat_cmp y n ≢ Greater) (sym same) (then_first (slice_cmp nat_cmp y z) (by_steps b c) k) in
    let equal : slice_cmp nat_cmp x y ≡ Equal = middle_equal x y front back in
    let name : x ≡ y = equal_names x y equal in
    let other : slice_cmp nat_cmp y z ≡ Equal = ap (λ (n : List ℕ). slice_cmp nat_cmp n z) (sym name ∙ same) ∙ equal_itself z in
    let first : bytes_eq x y ≡ true = ap (λ (n : List ℕ). bytes_eq n y) name ∙ bytes_same y in
    let later : leads a b ≡ true = between a b c both.1 (λ e. h (ap (λ (o : Ordering). ordering_then o (by_steps a b)) equal ∙ e)) (λ e. k (ap (λ (o : Ordering). ordering_then o (by_steps b c)) other ∙ e)) in
    rw (first, later) refl

-- equal paths lead to each other
pub equal_leads : (a b : List (List ℕ)) → by_steps a b ≡ Equal → leads b a ≡ true
equal_leads [] [] e = refl
equal_leads [] (y ∷ b) e = absurd cc
equal_leads (x ∷ a) [] e = absurd cc
equal_leads (x ∷ a) (y ∷ b) e = by (slice_cmp nat_cmp x y) refl e (λ tied. equal_leads a b tied)
  where
    by : (o : Ordering) → slice_cmp nat_cmp x y ≡ o → ordering_then o (by_steps a b) ≡ Equal → (by_steps a b ≡ Equal → leads b a ≡ true) → (bytes_eq y x && leads b a) ≡ true
    by Less is e later = absurd cc
    by Greater is e later = absurd cc
    by Equal is e later =
        let same : bytes_eq y x ≡ true = ap (λ (n : List ℕ). bytes_eq y n) (equal_names x y is) ∙ bytes_same y in
        rw (same, later e) refl

-- what comes later doesn't lead to what comes before
later_not_leading : (a b : List (List ℕ)) → by_steps a b ≡ Less → leads b a ≡ false
later_not_leading a b less = by (leads b a) refl
  where
    by : (l : Bool) → leads b a ≡ l → l ≡ false
    by false is = refl
    by true is = absurd (leading_first b a is (steps_total.antisymm b a ∙ ap ordering_reverse less))

pub before_apart : (p q : List ℕ) → IsBefore p q → (overlap p q ≡ false) × (overlap q p ≡ false)
before_apart p q h =
    let back : leads (names q) (names p) ≡ false = later_not_leading (names p) (names q) h.0 in
    (rw (h.1, back) refl, rw (back, h.1) refl)

-- ---- the place of a path

module _ (q : List ℕ) where
  head_after : (p : List ℕ) → by_steps (names p) (names q) ≢ Less → leads (names q) (names p) ≡ false → IsBefore q p
  head_after p h free = by (by_steps (names p) (names q)) refl h
    where
      by : (o : Ordering) → by_steps (names p) (names q) ≡ o → o ≢ Less → IsBefore q p
      by Less is h = absurd (h refl)
      by Greater is h = (steps_total.antisymm (names q) (names p) ∙ ap ordering_reverse is, free)
      by Equal is h =
          let wrong : true ≡ false = sym (equal_leads (names p) (names q) is) ∙ free in
          absurd cc

  -- behind a path that comes later there are only such
  behind_later : (p r : List ℕ) → IsBefore q p → IsBefore p r → IsBefore q r
  behind_later p r h k = (steps_total.trans (names q) (names p) (names r) h.0 k.0, by (leads (names q) (names r)) refl)
    where
      by : (l : Bool) → leads (names q) (names r) ≡ l → l ≡ false
      by false is = refl
      by true is =
          let wrong : true ≡ false = sym (between (names q) (names p) (names r) is (less_not_greater h.0) (less_not_greater k.0)) ∙ h.1 in
          absurd cc
        where
          less_not_greater : {o : Ordering} → o ≡ Less → o ≢ Greater
          less_not_greater less e = cc

  all_later : (p : List ℕ) (ps : List (List ℕ)) → IsBefore q p → IsBeforeAll p ps → IsBeforeAll q ps
  all_later p [] h k = tt
  all_later p (r ∷ ps) h k = (behind_later p r h k.0, all_later p ps h k.1)

  less_not_greater : (o : Ordering) → o ≡ Less → o ≢ Greater
  less_not_greater o less e = cc

  -- the first of several is before this one
  first_before : (p : List ℕ) (ps : List (List ℕ)) (k : ℕ) → IsBeforeAll p ps → by_steps (names p) (names q) ≡ Less → IsPlace k ps q → IsFreeBefore q (suc k) (p ∷ ps) → IsBefore p q
  first_before p ps zero all less place free = (less, free)
  first_before p [] (suc k) all less place free = absurd place
  first_before p (r ∷ ps) (suc k) all less place free = (less, by (leads (names p) (names q)) refl)
    where
      by : (l : Bool) → leads (names p) (names q) ≡ l → l ≡ false
      by false is = refl
      by true is =
          let wrong : true ≡ false = sym (between (names p) (names r) (names q) is (less_not_greater (by_steps (names p) (names r)) all.0.0) (less_not_greater (by_steps (names r) (names q)) place.0)) ∙ all.0.1 in
          absurd cc

  before_all : (p : List ℕ) (k : ℕ) (ps : List (List ℕ)) → IsBefore p q → IsBeforeAll p ps → IsBeforeAll p (take k ps ++ q ∷ drop k ps)
  before_all p zero ps h all = (h, all)
  before_all p (suc k) [] h all = (h, tt)
  before_all p (suc k) (r ∷ ps) h all = (all.0, before_all p k ps h all.1)

  pub in_order_put : (k : ℕ) (ps : List (List ℕ)) → AreInOrder ps → IsPlace k ps q → IsFreeAt q k ps → IsFreeBefore q k ps → AreInOrder (take k ps ++ q ∷ drop k ps)
  in_order_put zero [] order place at before = (tt, tt)
  in_order_put zero (p ∷ ps) order place at before =
      let first = head_after p place.0 at in
      ((first, all_later p ps first order.0), order)
  in_order_put (suc k) [] order place at before = absurd place
  in_order_put (suc k) (p ∷ ps) order place at before =
      (before_all p k ps (first_before p ps k order.0 place.0 place.1 before) order.0, in_order_put k ps order.1 place.1 at (later k ps before))
    where
      later : (k : ℕ) (ps : List (List ℕ)) → IsFreeBefore q (suc k) (p ∷ ps) → IsFreeBefore q k ps
      later zero ps h = tt
      later (suc k) ps h = h

  all_apart : (ps : List (List ℕ)) → IsBeforeAll q ps → overlaps_any ps q ≡ false
  all_apart [] h = refl
  all_apart (p ∷ ps) h = rw ((before_apart q p h.0).1, all_apart ps h.1) refl

  pub none_overlaps : (k : ℕ) (ps : List (List ℕ)) → AreInOrder ps → IsPlace k ps q → IsFreeAt q k ps → IsFreeBefore q k ps → overlaps_any ps q ≡ false
  none_overlaps zero [] order place at before = refl
  none_overlaps zero (p ∷ ps) order place at before =
      let first = head_after p place.0 at in
      all_apart (p ∷ ps) (first, all_later p ps first order.0)
  none_overlaps (suc k) [] order place at before = absurd place
  none_overlaps (suc k) (p ∷ ps) order place at before =
      rw ((before_apart p q (first_before p ps k order.0 place.0 place.1 before)).0, none_overlaps k ps order.1 place.1 at (later k ps before)) refl
    where
      later : (k : ℕ) (ps : List (List ℕ)) → IsFreeBefore q (suc k) (p ∷ ps) → IsFreeBefore q k ps
      later zero ps h = tt
      later (suc k) ps h = h

  or_swap : (a b c : Bool) → (a || (b || c)) ≡ (b || (a || c))
  or_swap true true c = refl
  or_swap true false c = refl
  or_swap false b c = refl

  pub any_put : (k : ℕ) (ps : List (List ℕ)) (r : List ℕ) → overlaps_any (take k ps ++ q ∷ drop k ps) r ≡ (overlap q r || overlaps_any ps r)
  any_put zero ps r = refl
  any_put (suc k) [] r = refl
  any_put (suc k) (p ∷ ps) r = ap (λ (b : Bool). overlap p r || b) (any_put k ps r) ∙ or_swap (overlap p r) (overlap q r) (overlaps_any ps r)

  pub one_overlaps : (j : ℕ) (ps : List (List ℕ)) (d : List ℕ) → j < length ps → overlap (get_or ps j d) q ≡ true → overlaps_any ps q ≡ true
  one_overlaps j [] d lt e = absurd (omega arith)
  one_overlaps zero (p ∷ ps) d lt e = rw e refl
  one_overlaps (suc j) (p ∷ ps) d lt e = rw (one_overlaps j ps d (omega (arith, lt)) e) (by (overlap p q))
    where
      by : (b : Bool) → (b || true) ≡ true
      by true = refl
      by false = refl

  -- what is known of a place by its neighbours
  pub free_at : (k : ℕ) (ps : List (List ℕ)) (d : List ℕ) → (k < length ps → leads (names q) (names (get_or ps k d)) ≡ false) → IsFreeAt q k ps
  free_at zero [] d h = tt
  free_at zero (p ∷ ps) d h = h (omega arith)
  free_at (suc k) [] d h = tt
  free_at (suc k) (p ∷ ps) d h = free_at k ps d (λ lt. h (omega (arith, lt)))

  pub free_before : (k : ℕ) (ps : List (List ℕ)) (d : List ℕ) → ((j : ℕ) → suc j ≡ k → leads (names (get_or ps j d)) (names q) ≡ false) → IsFreeBefore q k ps
  free_before zero ps d h = tt
  free_before (suc k) [] d h = tt
  free_before (suc zero) (p ∷ ps) d h = h 0 refl
  free_before (suc (suc k)) (p ∷ ps) d h = free_before (suc k) ps d (λ j e. h (suc j) (ap suc e))

  -- a place that a search found
  pub place_found : (k : ℕ) (ps : List (List ℕ)) (d : List ℕ) → k ≤ length ps → ((j : ℕ) → j < k → by_steps (names (get_or ps j d)) (names q) ≡ Less) → ((j : ℕ) → k ≤ j → j < length ps → by_steps (names (get_or ps j d)) (names q) ≢ Less)
      → IsPlace k ps q
  place_found zero [] d le h later = tt
  place_found zero (p ∷ ps) d le h later = (later 0 (omega arith) (omega arith), place_found zero ps d (omega arith) (λ j lt. absurd (omega (arith, lt))) (λ j from lt. later (suc j) (omega arith) (omega (arith, lt))))
  place_found (suc k) [] d le h later = absurd (omega (arith, le))
  place_found (suc k) (p ∷ ps) d le h later = (h 0 (omega arith), place_found k ps d (omega (arith, le)) (λ j lt. h (suc j) (omega (arith, lt))) (λ j from lt. later (suc j) (omega (arith, from)) (omega (arith, lt))))

  pub place_within : (k : ℕ) (ps : List (List ℕ)) → IsPlace k ps q → k ≤ length ps
  place_within zero ps place = omega arith
  place_within (suc k) [] place = absurd place
  place_within (suc k) (p ∷ ps) place = omega (arith, place_within k ps place.1)

-- the order of two of them
rises_from : (p : List ℕ) (ps : List (List ℕ)) (j : ℕ) (d : List ℕ) → IsBeforeAll p ps → j < length ps → by_steps (names p) (names (get_or ps j d)) ≡ Less
rises_from p [] j d all lt = absurd (omega (arith, lt))
rises_from p (r ∷ ps) zero d all lt = all.0.0
rises_from p (r ∷ ps) (suc j) d all lt = rises_from p ps j d all.1 (omega (arith, lt))

pub rises : (ps : List (List ℕ)) (i j : ℕ) (d : List ℕ) → AreInOrder ps → i < j → j < length ps → by_steps (names (get_or ps i d)) (names (get_or ps j d)) ≡ Less
rises [] i j d order lt within = absurd (omega (arith, within))
rises (p ∷ ps) i zero d order lt within = absurd (omega (arith, lt))
rises (p ∷ ps) zero (suc j) d order lt within = rises_from p ps j d order.0 (omega (arith, within))
rises (p ∷ ps) (suc i) (suc j) d order lt within = rises ps i j d order.1 (omega (arith, lt)) (omega (arith, within))

or_same : (j m : ℕ) → j ≤ m → (j < m) ⊎ (j ≡ m)
or_same zero zero le = inr refl
or_same zero (suc m) le = inl (omega arith)
or_same (suc j) zero le = absurd (omega (arith, le))
or_same (suc j) (suc m) le = by (or_same j m (omega (arith, le)))
  where
    by : (j < m) ⊎ (j ≡ m) → (suc j < suc m) ⊎ (suc j ≡ suc m)
    by (inl below) = inl (omega (arith, below))
    by (inr same) = inr (ap suc same)

-- a step of the search
module _ (q : List ℕ) (ps : List (List ℕ)) (d : List ℕ) (order : AreInOrder ps) (m : ℕ) (within : m < length ps) where
  pub all_before : by_steps (names (get_or ps m d)) (names q) ≡ Less → (j : ℕ) → j < m + 1 → by_steps (names (get_or ps j d)) (names q) ≡ Less
  all_before less j lt = by (or_same j m (omega (arith, lt)))
    where
      by : (j < m) ⊎ (j ≡ m) → by_steps (names (get_or ps j d)) (names q) ≡ Less
      by (inl below) = steps_total.trans (names (get_or ps j d)) (names (get_or ps m d)) (names q) (rises ps j m d order below within) less
      by (inr same) = rw same less

  pub none_before : by_steps (names (get_or ps m d)) (names q) ≢ Less → (j : ℕ) → m ≤ j → j < length ps → by_steps (names (get_or ps j d)) (names q) ≢ Less
  none_before not_less j le lt less = by (or_same m j le)
    where
      by : (m < j) ⊎ (m ≡ j) → ⊥
      by (inl above) = not_less (steps_total.trans (names (get_or ps m d)) (names (get_or ps j d)) (names q) (rises ps m j d order above lt) less)
      by (inr same) = not_less (rw same less)

-- ---- two paths, step by step

pub decided : (x y : List ℕ) (a b : List (List ℕ)) (o : Ordering) → o ≡ slice_cmp nat_cmp x y → o ≢ Equal → o ≡ by_steps (x ∷ a) (y ∷ b)
decided x y a b o is other = by (slice_cmp nat_cmp x y) is other
  where
    by : (p : Ordering) → o ≡ p → o ≢ Equal → o ≡ ordering_then p (by_steps a b)
    by Less is other = is
    by Greater is other = is
    by Equal is other = absurd (other is)

pub tied : (x y : List ℕ) (a b : List (List ℕ)) → slice_cmp nat_cmp x y ≡ Equal → by_steps (x ∷ a) (y ∷ b) ≡ by_steps a b
tied x y a b e = ap (λ (o : Ordering). ordering_then o (by_steps a b)) e

pub shorter_first : (rest : List ℕ) → by_steps [] (names rest) ≡ Less
shorter_first rest =
    let some = some_step rest in
    rw some.2 refl

pub longer_last : (rest : List ℕ) → by_steps (names rest) [] ≡ Greater
longer_last rest =
    let some = some_step rest in
    rw some.2 refl

-- one of a list that is seen through a function
pub mapped_at : {A B : Type 0} (f : A → B) (xs : List A) (i : ℕ) (r : A) (d : B) → i < length xs → r ≡ get_or xs i r → get_or (map f xs) i d ≡ f r
mapped_at f [] i r d lt e = absurd (omega (arith, lt))
mapped_at f (x ∷ xs) zero r d lt e = ap f (sym e)
mapped_at f (x ∷ xs) (suc i) r d lt e = mapped_at f xs i r d (omega (arith, lt)) e

pub mapped_length : {A B : Type 0} (f : A → B) (xs : List A) → length (map f xs) ≡ length xs
mapped_length f [] = refl
mapped_length f (x ∷ xs) = ap suc (mapped_length f xs)

pub mapped_insert : {A B : Type 0} (f : A → B) (k : ℕ) (x : A) (xs : List A) → map f (take k xs ++ x ∷ drop k xs) ≡ take k (map f xs) ++ f x ∷ drop k (map f xs)
mapped_insert f zero x xs = refl
mapped_insert f (suc k) x [] = refl
mapped_insert {B = B} f (suc k) x (y ∷ xs) = ap (λ (zs : List B). f y ∷ zs) (mapped_insert f k x xs)

-- what is known of an overlap with one of them
module _ (q : List ℕ) (ps : List (List ℕ)) (d : List ℕ) (j : ℕ) (within : j < length ps) where
  pub led_overlaps : leads (names (get_or ps j d)) (names q) ≡ true → overlaps_any ps q ≡ true
  led_overlaps e = one_overlaps q j ps d within (rw e refl)

  pub leading_overlaps : leads (names q) (names (get_or ps j d)) ≡ true → overlaps_any ps q ≡ true
  leading_overlaps e = one_overlaps q j ps d within (rw e (by (leads (names (get_or ps j d)) (names q))))
    where
      by : (b : Bool) → (b || true) ≡ true
      by true = refl
      by false = refl
