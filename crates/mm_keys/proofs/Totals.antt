-- The order of keys by a specification is total.
use Rattle.std.proofs.Common.{◌≡◌, pos, negsuc, refl, sym, ap, ◌∙◌}
use Rattle.std.specs.declared.cmp.Ordering.{Ordering}
use Rattle.std.specs.declared.cmp.Ordering.TheVariants.{Less, Equal, Greater}
use Rattle.std.specs.Ordering.{ordering_then, ordering_reverse}
use Rattle.std.specs.Cmp.{IsTotalOrder, alike_right}
use Rattle.mm_bson.specs.Tree.{Tree, int32, Elements, no_elements, element}
use Rattle.mm_bson.specs.Order.{compare}
use Rattle.mm_bson.proofs.Orders.{compare_total}
use Rattle.mm_keys.specs.KeyOrder.{by_sign, first_sign, after_first, key_compare}

reverse_then : (o p : Ordering) → ordering_reverse (ordering_then o p) ≡ ordering_then (ordering_reverse o) (ordering_reverse p)
reverse_then Less p = refl
reverse_then Equal p = refl
reverse_then Greater p = refl

reverse_equal : (o : Ordering) → ordering_reverse o ≡ Equal → o ≡ Equal
reverse_equal Less e = cc
reverse_equal Equal e = refl
reverse_equal Greater e = cc

-- turned round, it is total again
turned_total : {K : Type 0} (R : K → K → Ordering) → IsTotalOrder R → IsTotalOrder (λ x y. ordering_reverse (R x y))
turned_total R o = record {
  antisymm = λ x y. ap ordering_reverse (o.antisymm x y);
  trans = λ x y z e f.
      let back : R y x ≡ Less = o.antisymm y x ∙ e in
      let more : R z y ≡ Less = o.antisymm z y ∙ f in
      sym (o.antisymm z x) ∙ o.trans z y x more back;
  congr = λ x y z e. ap ordering_reverse (o.congr x y z (reverse_equal (R x y) e));
}

signed_total : (sign : Tree) → IsTotalOrder (λ t u. by_sign sign (compare t u))
signed_total (int32 z) = elim z as (λ w. IsTotalOrder (λ t u. by_sign (int32 w) (compare t u))) [ pos n ↦ compare_total | negsuc n ↦ turned_total compare compare_total ]
signed_total _ = compare_total

first_total : (spec : Elements) → IsTotalOrder (λ t u. first_sign spec (compare t u))
first_total no_elements = compare_total
first_total (element path t spec) = signed_total t

-- the first pair decides, else what comes after it
module _ {K : Type 0} (R : K → K → Ordering) (o : IsTotalOrder R) where
  pairs_chain : (x y z : K) (k l m : Ordering) → (k ≡ Less → l ≡ Less → m ≡ Less) → (r s : Ordering) → R x y ≡ r → R y z ≡ s
      → ordering_then r k ≡ Less → ordering_then s l ≡ Less → ordering_then (R x z) m ≡ Less
  pairs_chain x y z k l m on Less Less p q e f = rw (o.trans x y z p q) refl
  pairs_chain x y z k l m on Less Equal p q e f = rw (sym (alike_right o y z x q) ∙ p) refl
  pairs_chain x y z k l m on Less Greater p q e f = absurd cc
  pairs_chain x y z k l m on Equal s p q e f = rw (o.congr x y z p ∙ q) (by s f)
    where
      by : (s : Ordering) → ordering_then s l ≡ Less → ordering_then s m ≡ Less
      by Less f = refl
      by Equal f = on e f
      by Greater f = absurd cc
  pairs_chain x y z k l m on Greater s p q e f = absurd cc

  pairs_alike : (x y z : K) (k l m : Ordering) → (k ≡ Equal → l ≡ m) → (r : Ordering) → R x y ≡ r → ordering_then r k ≡ Equal → ordering_then (R x z) l ≡ ordering_then (R y z) m
  pairs_alike x y z k l m on Less p e = absurd cc
  pairs_alike x y z k l m on Equal p e = rw (o.congr x y z p, on e) refl
  pairs_alike x y z k l m on Greater p e = absurd cc

antisymm : (spec a b : Elements) → key_compare spec a b ≡ ordering_reverse (key_compare spec b a)
antisymm spec no_elements no_elements = refl
antisymm spec no_elements (element m u fs) = refl
antisymm spec (element n t es) no_elements = refl
antisymm spec (element n t es) (element m u fs) =
    ap (λ o. ordering_then o (key_compare (after_first spec) es fs)) ((first_total spec).antisymm t u)
    ∙ ap (ordering_then (ordering_reverse (first_sign spec (compare u t)))) (antisymm (after_first spec) es fs)
    ∙ sym (reverse_then (first_sign spec (compare u t)) (key_compare (after_first spec) fs es))

trans : (spec a b c : Elements) → key_compare spec a b ≡ Less → key_compare spec b c ≡ Less → key_compare spec a c ≡ Less
trans spec no_elements no_elements c e f = f
trans spec no_elements (element m u fs) no_elements e f = absurd cc
trans spec no_elements (element m u fs) (element l v gs) e f = refl
trans spec (element n t es) no_elements c e f = absurd cc
trans spec (element n t es) (element m u fs) no_elements e f = absurd cc
trans spec (element n t es) (element m u fs) (element l v gs) e f =
    pairs_chain (λ x y. first_sign spec (compare x y)) (first_total spec) t u v
    (key_compare (after_first spec) es fs) (key_compare (after_first spec) fs gs) (key_compare (after_first spec) es gs)
    (trans (after_first spec) es fs gs) (first_sign spec (compare t u)) (first_sign spec (compare u v)) refl refl e f

congr : (spec a b c : Elements) → key_compare spec a b ≡ Equal → key_compare spec a c ≡ key_compare spec b c
congr spec no_elements no_elements c e = refl
congr spec no_elements (element m u fs) c e = absurd cc
congr spec (element n t es) no_elements c e = absurd cc
congr spec (element n t es) (element m u fs) no_elements e = refl
congr spec (element n t es) (element m u fs) (element l v gs) e =
    pairs_alike (λ x y. first_sign spec (compare x y)) (first_total spec) t u v
    (key_compare (after_first spec) es fs) (key_compare (after_first spec) es gs) (key_compare (after_first spec) fs gs)
    (congr (after_first spec) es fs gs) (first_sign spec (compare t u)) refl e

pub key_compare_total : (spec : Elements) → IsTotalOrder (key_compare spec)
key_compare_total spec = record { antisymm = antisymm spec; trans = trans spec; congr = congr spec }
