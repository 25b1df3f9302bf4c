-- The first of the files that are there, in the byte order of their names.
use Rattle.std.specs.Prelude.{◌≡◌, ℕ, List, [], ◌∷◌, Option, Some, None}

abbrev pub IsFirstFile : Option (List ℕ) → List (List ℕ) → Type 0
IsFirstFile None names = names ≡ []
IsFirstFile (Some name) names = (others : List (List ℕ)) × (names ≡ name ∷ others)
