-- What an index of a draft's names knows.
use Rattle.std.specs.Prelude.{◌≡◌, ℕ, suc, List, [], ◌∷◌, Option, Some, None, option_map, if◌then◌else◌}
use Rattle.std.specs.Borrow.{Bor}
use Rattle.std.specs.Str.{bytes_eq}
use Rattle.std.specs.HashMap.{HashMap, get_by}
use Rattle.mm_update.specs.declared.draft.Entry.{Entry}

-- the place of the first entry of the name, taken out or not
abbrev pub first_named : List ℕ → List Entry → Option ℕ
first_named name [] = None
first_named name (e ∷ es) = if bytes_eq e.name.now name then Some 0 else option_map suc (first_named name es)

-- each name is at the place of its first entry, and no other is there
abbrev pub Knows : {S : Type 0} → HashMap (Bor (List ℕ)) ℕ S → List Entry → Type 0
Knows m es = (name : List ℕ) → get_by (λ k. bytes_eq name k.now) m ≡ first_named name es

-- there is none, or it is one of these entries
abbrev pub IsIndex : {S : Type 0} → Option (HashMap (Bor (List ℕ)) ℕ S) → List Entry → Type 0
IsIndex None es = Unit {0}
IsIndex (Some m) es = Knows m es
