-- The names of collections.
use Rattle.std.specs.Prelude.{◌≡◌, ℕ, List, true}
use Rattle.mm_model.specs.WellFormed.{is_collection_name}

-- a collection's name: 1 to 60 letters, digits, `_` and `.`, which don't begin with `system.`
abbrev pub IsCollection : List ℕ → Type 0
IsCollection name = is_collection_name name ≡ true
