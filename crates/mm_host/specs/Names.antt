-- The names of a folder disk: a file of the folder itself, or of its subfolder `journal`. Names and paths are their UTF-8 bytes.
use Rattle.std.specs.Prelude.{◌≡◌, ◌≢◌, ◌⊎◌, ℕ, List, [], ◌∷◌, ◌++◌, Contains}
use lib.Chars.{codes}

-- `/`
abbrev pub slash : ℕ
slash = 47

-- one part of a path, which is neither the folder that it stands in nor the one above
pub record IsPart (name : List ℕ) : Type 0 where
  pub some : name ≢ []
  pub not_here : name ≢ codes "."
  pub not_above : name ≢ codes ".."
  pub no_slash : ¬ Contains name slash

abbrev pub journal_prefix : List ℕ
journal_prefix = codes "journal/"

-- a name that a folder disk joins to its folder's path
abbrev pub IsFileName : List ℕ → Type 0
IsFileName name = IsPart name ⊎ ((part : List ℕ) × (name ≡ journal_prefix ++ part) × IsPart part)

-- the path of the folder that a disk was given. An empty text is the folder in which the process runs.
abbrev pub root_of : List ℕ → List ℕ
root_of [] = codes "."
root_of (byte ∷ bytes) = byte ∷ bytes

-- the path of what stands in a folder under a name
abbrev pub path_below : List ℕ → List ℕ → List ℕ
path_below folder name = folder ++ slash ∷ name
