-- What stands at a path (MongoDB 2.6, dot notation for embedded documents).
use Rattle.std.specs.Prelude.{ℕ, List, [], ◌∷◌, Option, Some, None, option_and_then, ◌==◌, if◌then◌else◌}
use Rattle.std.specs.Str.{bytes_eq}
use Rattle.mm_bson.specs.Tree.{Tree, document, Elements, no_elements, element}

-- the names of a path, which dots part
abbrev pub with_first : ℕ → List (List ℕ) → List (List ℕ)
with_first b [] = (b ∷ []) ∷ []
with_first b (name ∷ others) = (b ∷ name) ∷ others

abbrev pub names : List ℕ → List (List ℕ)
names [] = [] ∷ []
names (b ∷ path) = if b == 46 then [] ∷ names path else with_first b (names path)

-- the first value of the name
abbrev pub find : List ℕ → Elements → Option Tree
find name no_elements = None
find name (element n t es) = if bytes_eq n name then Some t else find name es

-- what the names after it make of a value: each step but the last leads to a document
abbrev pub members : Tree → Option Elements
members (document es) = Some es
members _ = None

abbrev pub onward : List (List ℕ) → (Elements → Option Tree) → Tree → Option Tree
onward [] inside t = Some t
onward (next ∷ others) inside t = option_and_then inside (members t)

abbrev pub value_at : List (List ℕ) → Elements → Option Tree
value_at [] es = None
value_at (name ∷ others) es = option_and_then (onward others (value_at others)) (find name es)

abbrev pub value_at_path : List ℕ → Elements → Option Tree
value_at_path path es = value_at (names path) es
