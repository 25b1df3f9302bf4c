-- The words of the program, without its name.
use Rattle.std.specs.Prelude.{◌≡◌, ℕ, List, [], ◌∷◌, ◌⊎◌, codes}

-- a command's name and a folder
abbrev pub HasCommand : List ℕ → List (List ℕ) → Type 0
HasCommand name words = (folder : List ℕ) × (words ≡ name ∷ folder ∷ [])

abbrev pub IsPlay : List (List ℕ) → Type 0
IsPlay words = HasCommand (codes "play") words

abbrev pub IsDump : List (List ℕ) → Type 0
IsDump words = HasCommand (codes "dump") words

-- the words are those of some command
abbrev pub IsAnyCommand : List (List ℕ) → Type 0
IsAnyCommand words = IsPlay words ⊎ IsDump words
