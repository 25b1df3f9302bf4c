use Rattle.std.proofs.Common.{ℕ, ap}
use Rattle.std.specs.Prelude.{bit_and, bit_or}
use Rattle.mm_nstable.specs.Hash.{hash_of}
use Rattle.mm_check.proofs.hash.hash.Goals as goal

pub returns : goal.returns
unfolding hash_of
returns c = ap (λ (n : ℕ). bit_or (bit_and n 0x7fffffff) 0x08000000) c.number.ensures
