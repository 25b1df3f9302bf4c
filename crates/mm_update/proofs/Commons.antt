-- Of paths in order, the neighbours of a place have most steps in common with the path that belongs there.
use Rattle.std.proofs.Common.{◌≡◌, ◌≢◌, ℕ, zero, suc, ◌<◌, ◌≤◌, Bool, true, false, cond, List, [], ◌∷◌, ◌++◌, length, get_or, take, drop, refl, sym, ap, ◌∙◌, subst, arith}
use Rattle.std.specs.Prelude.{max}
use Rattle.std.specs.declared.cmp.Ordering.{Ordering}
use Rattle.std.specs.declared.cmp.Ordering.TheVariants.{Less, Equal, Greater}
use Rattle.std.specs.Ordering.{nat_cmp, ordering_then, ordering_reverse}
use Rattle.std.specs.Cmp.Lexicographic.{slice_cmp}
use Rattle.std.specs.Str.{bytes_eq}
use Rattle.mm_bson.specs.Path.{names}
use Rattle.mm_update.specs.Paths.{by_steps, IsBeforeAll, AreInOrder, IsPlace}
use Rattle.mm_update.specs.Meeting.{common, most_common, common_before, common_at}
use Rattle.mm_update.proofs.Fields.{bytes_same}
use Rattle.mm_update.proofs.Kept.{same_name}
use Rattle.mm_update.proofs.Ordered.{steps_total, equal_names, equal_itself, then_first, middle_equal}

-- where the first and the last of three begin with the same step, the middle one does
same_middle : (x y z : List ℕ) (a b c : List (List ℕ)) → x ≡ z → by_steps (x ∷ a) (y ∷ b) ≢ Greater → by_steps (y ∷ b) (z ∷ c) ≢ Greater → (y ≡ z) × (by_steps a b ≢ Greater) × (by_steps b c ≢ Greater)
same_middle x y z a b c same h k =
    let front : slice_cmp nat_cmp x y ≢ Greater = then_first (slice_cmp nat_cmp x y) (by_steps a b) h in
    let back : slice_cmp nat_cmp y x ≢ Greater = subst (λ n. slice_cmp nat_cmp y n ≢ Greater) (sym same) (then_first (slice_cmp nat_cmp y z) (by_steps b c) k) in
    let equal : slice_cmp nat_cmp x y ≡ Equal = middle_equal x y front back in
    let name : x ≡ y = equal_names x y equal in
    let other : slice_cmp nat_cmp y z ≡ Equal = ap (λ (n : List ℕ). slice_cmp nat_cmp n z) (sym name ∙ same) ∙ equal_itself z in
    (sym name ∙ same, (λ e. h (ap (λ (o : Ordering). ordering_then o (by_steps a b)) equal ∙ e)), (λ e. k (ap (λ (o : Ordering). ordering_then o (by_steps b c)) other ∙ e)))

common_below : (a b c : List (List ℕ)) → by_steps a b ≢ Greater → by_steps b c ≢ Greater → common a c ≤ common b c
common_below [] b c h k = omega arith
common_below (x ∷ a) b [] h k = omega arith
common_below (x ∷ a) [] (z ∷ c) h k = absurd (h refl)
common_below (x ∷ a) (y ∷ b) (z ∷ c) h k = by (bytes_eq x z) refl (λ left right. common_below a b c left right)
  where
    by : (same : Bool) → bytes_eq x z ≡ same → (by_steps a b ≢ Greater → by_steps b c ≢ Greater → common a c ≤ common b c) → cond same (suc (common a c)) 0 ≤ cond (bytes_eq y z) (suc (common b c)) 0
    by false is later = omega arith
    by true is later =
        let tie = same_middle x y z a b c (same_name x z is) h k in
        let first : bytes_eq y z ≡ true = ap (λ (n : List ℕ). bytes_eq n z) tie.0 ∙ bytes_same z in
        let less = later tie.1 tie.2 in
        rw first (omega arith)

common_above : (a b c : List (List ℕ)) → by_steps a b ≢ Greater → by_steps b c ≢ Greater → common c a ≤ common b a
common_above a b [] h k = omega arith
common_above [] b (z ∷ c) h k = omega arith
common_above (x ∷ a) [] (z ∷ c) h k = absurd (h refl)
common_above (x ∷ a) (y ∷ b) (z ∷ c) h k = by (bytes_eq z x) refl (λ left right. common_above a b c left right)
  where
    by : (same : Bool) → bytes_eq z x ≡ same → (by_steps a b ≢ Greater → by_steps b c ≢ Greater → common c a ≤ common b a) → cond same (suc (common c a)) 0 ≤ cond (bytes_eq y x) (suc (common b a)) 0
    by false is later = omega arith
    by true is later =
        let whole : z ≡ x = same_name z x is in
        let tie = same_middle x y z a b c (sym whole) h k in
        let first : bytes_eq y x ≡ true = ap (λ (n : List ℕ). bytes_eq n x) (tie.0 ∙ whole) ∙ bytes_same x in
        let less = later tie.1 tie.2 in
        rw first (omega arith)

not_greater : (o : Ordering) → o ≡ Less → o ≢ Greater
not_greater o less e = cc

module _ (q : List ℕ) where
  turned : (p : List ℕ) → by_steps (names p) (names q) ≢ Less → by_steps (names q) (names p) ≢ Greater
  turned p h e = h (steps_total.antisymm (names p) (names q) ∙ ap ordering_reverse e)

  later_less : (p : List ℕ) (ps : List (List ℕ)) → by_steps (names q) (names p) ≢ Greater → IsBeforeAll p ps → most_common ps (names q) ≤ common (names p) (names q)
  later_less p [] h all = omega arith
  later_less p (r ∷ ps) h all = omega (arith, common_above (names q) (names p) (names r) h (not_greater (by_steps (names p) (names r)) all.0.0), later_less p ps h all.1)

  pub most_near : (k : ℕ) (ps : List (List ℕ)) → AreInOrder ps → IsPlace k ps q → most_common ps (names q) ≡ max (common_before q k ps) (common_at q k ps)
  most_near zero [] order place = omega arith
  most_near zero (p ∷ ps) order place = omega (arith, later_less p ps (turned p place.0) order.0)
  most_near (suc zero) [] order place = absurd place
  most_near (suc zero) (p ∷ ps) order place = omega (arith, most_near zero ps order.1 place.1)
  most_near (suc (suc k)) [] order place = absurd place
  most_near (suc (suc k)) (p ∷ []) order place = absurd place.1
  most_near (suc (suc k)) (p ∷ r ∷ ps) order place =
      omega (arith, common_below (names p) (names r) (names q) (not_greater (by_steps (names p) (names r)) order.0.0.0) (not_greater (by_steps (names r) (names q)) place.1.0), most_near (suc k) (r ∷ ps) order.1 place.1)

  pub before_is : (j : ℕ) (ps : List (List ℕ)) → j < length ps → common_before q (suc j) ps ≡ common (names (get_or ps j [])) (names q)
  before_is j [] lt = absurd (omega (arith, lt))
  before_is zero (p ∷ ps) lt = refl
  before_is (suc j) (p ∷ ps) lt = before_is j ps (omega (arith, lt))

  pub at_is : (j : ℕ) (ps : List (List ℕ)) → j < length ps → common_at q j ps ≡ common (names (get_or ps j [])) (names q)
  at_is j [] lt = absurd (omega (arith, lt))
  at_is zero (p ∷ ps) lt = refl
  at_is (suc j) (p ∷ ps) lt = at_is j ps (omega (arith, lt))

  pub at_none : (j : ℕ) (ps : List (List ℕ)) → length ps ≤ j → common_at q j ps ≡ 0
  at_none j [] le = refl
  at_none zero (p ∷ ps) le = absurd (omega (arith, le))
  at_none (suc j) (p ∷ ps) le = at_none j ps (omega (arith, le))

  pub most_put : (k : ℕ) (ps ms : List (List ℕ)) → most_common (take k ps ++ q ∷ drop k ps) ms ≡ max (common (names q) ms) (most_common ps ms)
  most_put zero ps ms = refl
  most_put (suc k) [] ms = refl
  most_put (suc k) (p ∷ ps) ms = omega (arith, most_put k ps ms)
