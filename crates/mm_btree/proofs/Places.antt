-- Whether two places are one.
use Rattle.std.proofs.Common.{◌≡◌, Bool, true, false, refl, ap, subst}
use Rattle.std.specs.declared.cmp.Ordering.{Ordering}
use Rattle.std.specs.declared.cmp.Ordering.TheVariants.{Less, Equal, Greater}
use Rattle.std.specs.Ordering.{int_cmp, is_eq}
use Rattle.std.proofs.lemmas.Cmp.{int_cmp_total, on_total, then_total, eq_by_cmp_equiv}
use Rattle.std.proofs.lemmas.Map.Lookups.{exact_pairs, exact_signed}
use Rattle.mm_base.specs.declared.place.DiskLoc.{DiskLoc}
use Rattle.mm_base.proofs.PlaceLaws.{place_same}
use Rattle.mm_bucket.specs.Order.{place_compare}
use Rattle.mm_btree.specs.Nodes.{place_eq}

is_equal : (o : Ordering) → is_eq o ≡ true → o ≡ Equal
is_equal Less e = absurd cc
is_equal Equal e = refl
is_equal Greater e = absurd cc

pub place_eq-true : (p q : DiskLoc) → place_eq p q ≡ true → p ≡ q
place_eq-true p q e =
    let f = exact_pairs int_cmp int_cmp exact_signed exact_signed (p.file, p.ofs) (q.file, q.ofs) (is_equal (place_compare p q) e) in
    place_same p q (ap (λ x. x.0) f) (ap (λ x. x.1) f)

itself : (p : DiskLoc) → place_eq p p ≡ true
itself p = (eq_by_cmp_equiv (then_total (on_total (λ (x : DiskLoc). x.file) int_cmp_total) (on_total (λ (x : DiskLoc). x.ofs) int_cmp_total))).refl p

pub place_eq-is : (p q : DiskLoc) → p ≡ q → place_eq p q ≡ true
place_eq-is p q e = subst (λ (x : DiskLoc). place_eq p x ≡ true) e (itself p)

pub place_differ : (p q : DiskLoc) → (p ≡ q → ⊥) → place_eq p q ≡ false
place_differ p q f = known (place_eq p q) refl
  where
    known : (b : Bool) → place_eq p q ≡ b → place_eq p q ≡ false
    known true e = absurd (f (place_eq-true p q e))
    known false e = e
