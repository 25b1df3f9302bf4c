-- The hash of a name in the `.ns` file, by which a search begins.
use Rattle.std.specs.Prelude.{ℕ, ◌+◌, ◌*◌, ◌%◌, ◌^◌, List, [], ◌∷◌, length, bit_and, bit_or}

-- the number whose digits in base 131 are these, the highest first
unfoldable pub number_of : List ℕ → ℕ
number_of [] = 0
number_of (b ∷ bs) = b * 131 ^ length bs + number_of bs

-- the low 31 bits of that number, with bit 27 set, so that no name has the hash 0
unfoldable pub hash_of : List ℕ → ℕ
hash_of name = bit_or (bit_and (number_of name % 2 ^ 32) 0x7fffffff) 0x08000000
