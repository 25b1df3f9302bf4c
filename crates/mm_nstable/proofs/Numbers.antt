-- The number of a name, byte by byte.
use Rattle.std.proofs.Common.{◌≡◌, ℕ, suc, ◌+◌, ◌*◌, ◌%◌, ◌^◌, ◌<◌, List, [], ◌∷◌, ◌++◌, length, ◌∙◌, ap, arith, length-append}
use Rattle.std.proofs.Math.Nat.{pow-suc, mod-add-mod}
use Rattle.std.proofs.lemmas.Nat.{le_or_r, mul-mod_first}
use Rattle.std.specs.Prelude.{bit_and}
use Rattle.mm_nstable.specs.Hash.{number_of, hash_of}

shifted : (b p r n : ℕ) → b * (p * 131) + (r * 131 + n) ≡ (b * p + r) * 131 + n
shifted b p r n = omega arith

pub number_of-push : (xs : List ℕ) (b : ℕ) → number_of (xs ++ b ∷ []) ≡ number_of xs * 131 + b
unfolding number_of
number_of-push [] b = omega arith
number_of-push (x ∷ xs) b =
    let len : length (xs ++ b ∷ []) ≡ suc (length xs) = length-append xs (b ∷ []) ∙ omega arith in
    let power : 131 ^ length (xs ++ b ∷ []) ≡ 131 ^ length xs * 131 = ap (λ (n : ℕ). 131 ^ n) len ∙ pow-suc 131 (length xs) in
    ap (λ (p : ℕ). x * p + number_of (xs ++ b ∷ [])) power ∙ ap (λ (r : ℕ). x * (131 ^ length xs * 131) + r) (number_of-push xs b) ∙ shifted x (131 ^ length xs) (number_of xs) b

pub number_step : (n b m : ℕ) → (n % m * 131 % m + b) % m ≡ (n * 131 + b) % m
number_step n b m = ap (λ (k : ℕ). (k + b) % m) (mul-mod_first n 131 m) ∙ mod-add-mod (n * 131) m b

pub hash_some : (name : List ℕ) → 0 < hash_of name
unfolding hash_of
hash_some name = let least = le_or_r (bit_and (number_of name % 2 ^ 32) 0x7fffffff) 0x08000000 in omega (arith, least)
