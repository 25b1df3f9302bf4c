-- Lists by length, and links as places.
use Rattle.std.proofs.Common.{◌≡◌, ℕ, ℤ, pos, negsuc, suc, ◌+◌, ◌-◌, ◌*◌, ◌^◌, ◌<◌, ◌≤◌, inl, inr, zero, true, false, sym, ◌∙◌, ap, arith}
use Rattle.std.specs.Prelude.{nat_lt, ◌≤ℤ◌}
use Rattle.std.proofs.lemmas.Bool.{cases_Bool}
use Rattle.std.proofs.lemmas.Bool.Decides.{nat_tests}
use Rattle.std.proofs.Math.Nat.{pow-suc}
use Rattle.std.proofs.Math.Pow.{pow_mono}
use Rattle.mm_base.specs.Places.{place_made, null}
use Rattle.mm_base.specs.declared.place.DiskLoc.{DiskLoc}
use Rattle.mm_base.proofs.PlaceLaws.{made_again}
use Rattle.mm_links.proofs.LinkLaws.{if_true, if_false}
use Rattle.mm_records.specs.Shape.{list_from, list_for}
use Rattle.mm_records.specs.Freeing.{loc_in}

pub size_step : (i s : ℕ) → s ≡ 32 * 2 ^ i → s * 2 ≡ 32 * 2 ^ (i + 1)
size_step i s e =
    let one : i + 1 ≡ suc i = omega arith in
    let up = pow-suc 2 i in
    let same : 2 ^ (i + 1) ≡ 2 ^ i * 2 = ap (λ (n : ℕ). 2 ^ n) one ∙ up in
    omega (arith, same, e)

pub size_bound : (i s : ℕ) → i < 18 → s ≡ 32 * 2 ^ i → s * 2 < 2 ^ 32
size_bound i s lt e = let m : 2 ^ i ≤ 2 ^ 17 = pow_mono {i = i} {j = 17} (omega arith) in omega (arith, m, e)

pub list_step : (i len s : ℕ) → i < 18 → s ≡ 32 * 2 ^ i → s ≤ len → list_from i (18 - i) len ≡ list_from (i + 1) (18 - (i + 1)) len
list_step i len s lt e le =
    let n : 18 - i ≡ suc (17 - i) = omega arith in
    let m : 17 - i ≡ 18 - (i + 1) = omega arith in
    let next : suc i ≡ i + 1 = omega arith in
    let no : nat_lt len (32 * 2 ^ i) ≡ false = grind (arith, nat_tests) in
    ap (λ (k : ℕ). list_from i k len) n ∙ if_false (nat_lt len (32 * 2 ^ i)) i (list_from (suc i) (17 - i) len) no ∙ (λ j. list_from (next j) (m j) len)

pub list_here : (i len s : ℕ) → i < 18 → s ≡ 32 * 2 ^ i → len < s → list_from i (18 - i) len ≡ i
list_here i len s lt e below =
    let n : 18 - i ≡ suc (17 - i) = omega arith in
    let yes' : nat_lt len (32 * 2 ^ i) ≡ true = grind (arith, nat_tests) in
    ap (λ (k : ℕ). list_from i k len) n ∙ if_true (nat_lt len (32 * 2 ^ i)) i (list_from (suc i) (17 - i) len) yes'

pub list_last : (i len : ℕ) → 18 ≤ i → i ≤ 18 → list_from i (18 - i) len ≡ 18
list_last i len a b = let e : i ≡ 18 = omega arith in ap (λ (k : ℕ). list_from k (18 - k) len) e

pub link_place : (q : DiskLoc) (f : ℕ) (z : ℤ) → pos 0 ≤ℤ z → q.file ≡ pos f → q.ofs ≡ z → q ≡ loc_in f z
link_place q f (pos a) le e g = sym (made_again q) ∙ (λ i. place_made (e i) (g i))
link_place q f (negsuc n) le e g = absurd (omega arith)

pub null_place : (f : ℕ) (z : ℤ) (n : ℕ) → z ≡ negsuc n → null ≡ loc_in f z
null_place f z n e = ap (loc_in f) (sym e)

-- there are nineteen lists
from_most : (i n len : ℕ) → list_from i n len ≤ i + n
from_most i zero len = omega arith
from_most i (suc n) len = elim (cases_Bool (nat_lt len (32 * 2 ^ i))) [
  | inl y ↦ let e = if_true (nat_lt len (32 * 2 ^ i)) i (list_from (suc i) n len) y in omega (arith, e)
  | inr m ↦ let e = if_false (nat_lt len (32 * 2 ^ i)) i (list_from (suc i) n len) m in let l = from_most (suc i) n len in omega (arith, e, l)
]

pub list_low : (len : ℕ) → list_for len < 19
unfolding list_for
list_low len = let m = from_most 0 18 len in omega (arith, m)
