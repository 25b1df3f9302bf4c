-- A merge weighs no more than its two parts.
use Rattle.std.proofs.Common.{◌≡◌, ◌+◌, ◌≤◌, true, false, List, [], ◌∷◌, ◌∙◌, ap, arith, inl, inr, sum_by}
use Rattle.std.proofs.lemmas.Bool.{cases_Bool}
use Rattle.std.proofs.lemmas.Bool.Decides.{nat_tests}
use Rattle.std.proofs.lemmas.List.Sums.{sum_by-cons}
use Rattle.mm_ranges.specs.Places.{Range, is_before, is_spaced, joined, swallowed, inserted, merged, weight_of}
use Rattle.mm_ranges.proofs.Order.{spaced_parts}
use Rattle.mm_ranges.proofs.Inserting.{IsReached, reached_rest, swallowed-apart, swallowed-touch, inserted-past, inserted-here, is_spaced-inserted}

weight-joined : (n r : Range) → is_before n r ≡ false → is_before r n ≡ false → weight_of (joined n r) ≤ weight_of n + weight_of r
weight-joined n r a b = grind (arith, nat_tests)

weight-swallowed : (n : Range) (rs : List Range) → is_spaced rs ≡ true → IsReached n rs → sum_by weight_of (swallowed n rs) ≤ weight_of n + sum_by weight_of rs
weight-swallowed n [] h reached = omega (arith, sum_by-cons weight_of n [])
weight-swallowed n (r ∷ rs) h reached = elim (cases_Bool (is_before n r)) [
  | inl apart ↦
      let is = ap (sum_by weight_of) (swallowed-apart n r rs apart) ∙ sum_by-cons weight_of n (r ∷ rs) in
      omega arith
  | inr touch ↦
      let is = ap (sum_by weight_of) (swallowed-touch n r rs touch) in
      let rest = weight-swallowed (joined n r) rs (spaced_parts r rs h).rest (reached_rest n r rs h touch reached) in
      let one = weight-joined n r touch reached in
      let all = sum_by-cons weight_of r rs in
      omega arith
]

pub weight-inserted : (n : Range) (rs : List Range) → is_spaced rs ≡ true → sum_by weight_of (inserted n rs) ≤ weight_of n + sum_by weight_of rs
weight-inserted n [] h = omega (arith, sum_by-cons weight_of n [])
weight-inserted n (r ∷ rs) h = elim (cases_Bool (is_before r n)) [
  | inl past ↦
      let is = ap (sum_by weight_of) (inserted-past n r rs past) ∙ sum_by-cons weight_of r (inserted n rs) in
      let rest = weight-inserted n rs (spaced_parts r rs h).rest in
      let all = sum_by-cons weight_of r rs in
      omega arith
  | inr here ↦
      let is = ap (sum_by weight_of) (inserted-here n r rs here) in
      let some = weight-swallowed n (r ∷ rs) h here in
      omega arith
]

pub weight-merged : (rs ss : List Range) → is_spaced rs ≡ true → is_spaced ss ≡ true → sum_by weight_of (merged rs ss) ≤ sum_by weight_of rs + sum_by weight_of ss
weight-merged rs [] h k = omega arith
weight-merged rs (s ∷ ss) h k =
    let parts = spaced_parts s ss k in
    let rest = weight-merged (inserted s rs) ss (is_spaced-inserted s rs parts.span h) parts.rest in
    let one = weight-inserted s rs h in
    let all = sum_by-cons weight_of s ss in
    omega arith
