-- The least of numbers, one after another.
use Rattle.std.proofs.Common.{◌≡◌, inl, inr, ℕ, ◌+◌, ◌<◌, ◌≤◌, List, get_or, ap, arith}
use Rattle.std.proofs.lemmas.Bool.{cases_lt}

-- the same of the first so many
pub record IsLeastOf (n : ℕ) (xs : List ℕ) (count one : ℕ) : Type 0 where
  pub low : (i : ℕ) → i < count → n ≤ get_or xs i 0
  pub most : n ≤ one
  pub greatest : (m : ℕ) → m ≤ one → ((i : ℕ) → i < count → m ≤ get_or xs i 0) → m ≤ n

pub no_less : (n : ℕ) (xs : List ℕ) (count one x : ℕ) → x ≡ get_or xs count 0 → n ≤ x → IsLeastOf n xs count one → IsLeastOf n xs (count + 1) one
no_less n xs count one x is le l = record {
  low = λ i lt. elim (cases_lt i count) [
    | inl earlier ↦ l.low i earlier
    | inr last ↦ let here : i ≡ count = omega (arith, last, lt) in omega (arith, le, is, ap (λ k. get_or xs k 0) here)
  ];
  most = l.most;
  greatest = λ m le all. l.greatest m le (λ i lt. all i (omega (arith, lt)));
}

pub less : (n : ℕ) (xs : List ℕ) (count one x : ℕ) → x ≡ get_or xs count 0 → x < n → IsLeastOf n xs count one → IsLeastOf x xs (count + 1) one
less n xs count one x is lt l = record {
  low = λ i inside. elim (cases_lt i count) [
    | inl earlier ↦ omega (arith, l.low i earlier, lt)
    | inr last ↦ let here : i ≡ count = omega (arith, last, inside) in omega (arith, is, ap (λ k. get_or xs k 0) here)
  ];
  most = omega (arith, l.most, lt);
  greatest = λ m le all. omega (arith, all count (omega arith), is);
}
