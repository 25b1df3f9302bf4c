use Rattle.std.proofs.Common.{◌∙◌, ◌%◌, ◌^◌, ℕ, List, ap, arith}
use Rattle.std.specs.Prelude.{bit_and, bit_or}
use Rattle.std.proofs.lemmas.Nat.{le_or_r}
use Rattle.mm_nstable.specs.Hash.{number_of, hash_of}
use Rattle.mm_nstable.proofs.hash.hash.Goals as goal

pub returns-clause-is : goal.returns-clause-is
unfolding hash_of
returns-clause-is c = ap (λ (n : ℕ). bit_or (bit_and n 0x7fffffff) 0x08000000) (c.number.ensures ∙ ap (λ (xs : List ℕ). number_of xs % 2 ^ 32) c.bytes.ensures.is)

pub returns-clause-some : goal.returns-clause-some
returns-clause-some c = let least = le_or_r (bit_and c.number.result 0x7fffffff) 0x08000000 in omega (arith, least)
