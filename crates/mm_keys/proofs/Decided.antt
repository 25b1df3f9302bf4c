-- Which field decides the order of two keys.
use Rattle.std.proofs.Common.{◌≡◌, ◌≢◌, ℕ, zero, suc, pos, negsuc, refl}
use Rattle.std.specs.declared.cmp.Ordering.{Ordering}
use Rattle.std.specs.declared.cmp.Ordering.TheVariants.{Less, Equal, Greater}
use Rattle.std.specs.Ordering.{ordering_then, ordering_reverse}
use Rattle.mm_bson.specs.Tree.{Tree, int32, Elements, no_elements, element}
use Rattle.mm_bson.specs.Order.{compare}
use Rattle.mm_keys.specs.KeyOrder.{by_sign, first_sign, after_first, sign_at, FirstDifferenceDecides, ShorterIsLess, EqualKeysAgree}

signed_equal : (sign : Tree) (o : Ordering) → o ≡ Equal → by_sign sign o ≡ Equal
signed_equal sign o e = rw e (by sign)
  where
    by : (sign : Tree) → by_sign sign Equal ≡ Equal
    by (int32 z) = elim z as (λ w. by_sign (int32 w) Equal ≡ Equal) [ pos n ↦ refl | negsuc n ↦ refl ]
    by _ = refl

pub first_equal : (spec : Elements) (o : Ordering) → o ≡ Equal → first_sign spec o ≡ Equal
first_equal no_elements o e = e
first_equal (element path t spec) o e = signed_equal t o e

decides : (o p : Ordering) → o ≢ Equal → ordering_then o p ≡ o
decides Less p h = refl
decides Equal p h = absurd (h refl)
decides Greater p h = refl

signed_unequal : (sign : Tree) (o : Ordering) → o ≢ Equal → by_sign sign o ≢ Equal
signed_unequal (int32 z) o h = elim z as (λ w. by_sign (int32 w) o ≢ Equal) [ pos n ↦ h | negsuc n ↦ by o h ]
  where
    by : (o : Ordering) → o ≢ Equal → ordering_reverse o ≢ Equal
    by Less h e = cc
    by Equal h e = h refl
    by Greater h e = cc
signed_unequal _ o h = h

first_unequal : (spec : Elements) (o : Ordering) → o ≢ Equal → first_sign spec o ≢ Equal
first_unequal no_elements o h = h
first_unequal (element path t spec) o h = signed_unequal t o h

sign_first : (spec : Elements) (o : Ordering) → sign_at 0 spec o ≡ first_sign spec o
sign_first no_elements o = refl
sign_first (element path t spec) o = refl

sign_after : (i : ℕ) (spec : Elements) (o : Ordering) → sign_at (suc i) spec o ≡ sign_at i (after_first spec) o
sign_after i no_elements o = refl
sign_after i (element path t spec) o = refl

pub difference_decides : FirstDifferenceDecides
difference_decides spec no_elements b i t u agree here there differ = absurd cc
difference_decides spec (element n v es) no_elements i t u agree here there differ = absurd cc
difference_decides spec (element n v es) (element m w fs) zero t u agree here there differ =
    let one : v ≡ t = cc in
    let two : w ≡ u = cc in
    rw (one, two, sign_first spec (compare t u)) (decides (first_sign spec (compare t u)) _ (first_unequal spec (compare t u) differ))
difference_decides spec (element n v es) (element m w fs) (suc i) t u agree here there differ =
    rw (first_equal spec (compare v w) agree.0, sign_after i spec (compare t u)) (difference_decides (after_first spec) es fs i t u agree.1 here there differ)

pub shorter_is_less : ShorterIsLess
shorter_is_less spec no_elements no_elements i u agree here there = absurd cc
shorter_is_less spec no_elements (element m w fs) i u agree here there = refl
shorter_is_less spec (element n v es) no_elements zero u agree here there = absurd cc
shorter_is_less spec (element n v es) no_elements (suc i) u agree here there = absurd agree
shorter_is_less spec (element n v es) (element m w fs) zero u agree here there = absurd cc
shorter_is_less spec (element n v es) (element m w fs) (suc i) u agree here there =
    rw (first_equal spec (compare v w) agree.0) (shorter_is_less (after_first spec) es fs i u agree.1 here there)

pub equal_keys_agree : EqualKeysAgree
equal_keys_agree spec no_elements no_elements i agree here there = refl
equal_keys_agree spec no_elements (element m w fs) zero agree here there = absurd cc
equal_keys_agree spec no_elements (element m w fs) (suc i) agree here there = absurd agree
equal_keys_agree spec (element n v es) no_elements zero agree here there = absurd cc
equal_keys_agree spec (element n v es) no_elements (suc i) agree here there = absurd agree
equal_keys_agree spec (element n v es) (element m w fs) zero agree here there = absurd cc
equal_keys_agree spec (element n v es) (element m w fs) (suc i) agree here there =
    rw (first_equal spec (compare v w) agree.0) (equal_keys_agree (after_first spec) es fs i agree.1 here there)
