-- Places in numbers.
use Rattle.std.proofs.Common.{◌≡◌, ℕ, ℤ, pos, negsuc, true, false, Option, Some, None, refl, sym, ◌∙◌, ap, arith, to_z, of_z}
use Rattle.std.specs.Prelude.{◌≤ℤ◌, ◌<ℤ◌, FitsSigned, IfNone}
use Rattle.std.specs.Int.{w32}
use Rattle.std.proofs.lemmas.Int.{ints}
use lib.Signed.{lt_z}
use Rattle.mm_base.specs.Places.{place_made}
use Rattle.mm_base.specs.declared.place.DiskLoc.{DiskLoc}
use Rattle.mm_base.proofs.PlaceLaws.{made_again, not_null_is}
use Rattle.mm_links.specs.Links.{Place}
use Rattle.mm_extents.specs.Changes.{loc, loc_or, IsLow, LowOr}

pub low_file : (p : Place) → IsLow p → ((loc p).file ≡ pos p.0) × ((loc p).ofs ≡ pos p.1)
low_file p l = let a = l.file in let b = l.ofs in not_null_is (pos p.0) (pos p.1) (λ e. cc) (record { sfits = omega (arith, a) }) (record { sfits = omega (arith, b) })

pub is_place_of : (at : DiskLoc) (o : Option Place) (f a : ℕ) → at ≡ loc_or o → LowOr o → at.file ≡ pos f → at.ofs ≡ pos a → o ≡ Some (f, a)
is_place_of at None f a e l ef ea = absurd (let x : negsuc 0 ≡ pos f = ap (λ (q : DiskLoc). q.file) (sym e) ∙ ef in cc)
is_place_of at (Some p) f a e l ef ea =
    let t = low_file p l in
    let x : pos p.0 ≡ pos f = sym t.0 ∙ ap (λ (q : DiskLoc). q.file) (sym e) ∙ ef in
    let y : pos p.1 ≡ pos a = sym t.1 ∙ ap (λ (q : DiskLoc). q.ofs) (sym e) ∙ ea in
    let xf : p.0 ≡ f = cc in
    let ya : p.1 ≡ a = cc in
    λ i. Some (xf i, ya i)

pub is_none_of : (at : DiskLoc) (o : Option Place) → at ≡ loc_or o → LowOr o → at.file <ℤ pos 0 → o ≡ None
is_none_of at None e l lt = refl
is_none_of at (Some p) e l lt = absurd (let t = (low_file p l).0 in let x : at.file ≡ pos p.0 = ap (λ (q : DiskLoc). q.file) e ∙ t in omega (arith, ints, x, lt))

pub ofs_nonneg : (at : DiskLoc) (o : Option Place) → at ≡ loc_or o → LowOr o → pos 0 ≤ℤ at.file → pos 0 ≤ℤ at.ofs
ofs_nonneg at None e l le = absurd (let x : at.file ≡ negsuc 0 = ap (λ (q : DiskLoc). q.file) e in omega (arith, ints, x, le))
ofs_nonneg at (Some p) e l le = let x : at.ofs ≡ pos p.1 = ap (λ (q : DiskLoc). q.ofs) e ∙ (low_file p l).1 in omega (arith, ints, x)

pub none_of : {X : Type 0} (P : Type 0) (o : Option X) → IfNone o P → ((x : X) → o ≡ Some x → ⊥) → P
none_of P None p other = p
none_of P (Some x) p other = absurd (other x refl)

pub below_zero : (z : ℤ) → FitsSigned w32 z → lt_z (to_z w32 (of_z w32 z)) (pos 0) ≡ true → z <ℤ pos 0
below_zero z f e = grind (arith, ints)

pub from_zero : (z : ℤ) → FitsSigned w32 z → lt_z (to_z w32 (of_z w32 z)) (pos 0) ≡ false → pos 0 ≤ℤ z
from_zero z f e = grind (arith, ints)

pub place_is : (q : DiskLoc) (f a : ℕ) → q.file ≡ pos f → q.ofs ≡ pos a → q ≡ place_made (pos f) (pos a)
place_is q f a e g = sym (made_again q) ∙ (λ i. place_made (e i) (g i))
