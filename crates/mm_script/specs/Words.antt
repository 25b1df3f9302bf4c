-- Lines are words parted by spaces, and documents among them. A part of a line stands behind one or more spaces; of the first part of a
-- line this is said as if a space stood before the line.
use Rattle.std.specs.Prelude.{◌≡◌, ◌≢◌, ℕ, suc, ◌==◌, Bool, true, not, List, [], ◌∷◌, ◌++◌, replicate}
use Rattle.std.specs.List.{list_all}

abbrev pub is_space : ℕ → Bool
is_space b = b == 0x20

abbrev pub is_other : ℕ → Bool
is_other b = not (is_space b)

abbrev pub spaces : ℕ → List ℕ
spaces n = replicate n 0x20

-- nothing but spaces
abbrev pub IsBlank : List ℕ → Type 0
IsBlank text = (n : ℕ) × (text ≡ spaces n)

-- one or more bytes, none of them a space
pub record IsWord (word : List ℕ) : Type 0 where
  pub some : word ≢ []
  pub whole : list_all is_other word ≡ true

-- the text ends here, or a space stands here
abbrev pub Ends : List ℕ → Type 0
Ends [] = Unit {0}
Ends (b ∷ rest) = is_space b ≡ true

-- behind one or more spaces the text goes on with a text of P, and rest is what follows it
abbrev pub Next : (List ℕ → Type 0) → List ℕ → List ℕ → Type 0
Next P text rest = (n : ℕ) × (part : List ℕ) × (text ≡ spaces (suc n) ++ (part ++ rest)) × P part

abbrev pub Is : List ℕ → List ℕ → Type 0
Is word part = part ≡ word

-- the next word of the text, and what follows it
pub record NextWord (word text rest : List ℕ) : Type 0 where
  pub word_is : IsWord word
  pub next : Next (Is word) text rest
  pub ends : Ends rest
