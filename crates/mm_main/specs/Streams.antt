-- A source that is read to its end, and a sink that takes a text.
use Rattle.std.specs.Prelude.{◌≡◌, ℕ, ◌≤◌, List, [], ◌++◌, length, take, drop, Option, Some}

-- A source gave its first n bytes, or all where it has fewer, and the rest is still to come.
abbrev pub ReadsUpTo : ℕ → List ℕ → Option (List ℕ) → Option (List ℕ) → Type 0
ReadsUpTo n read before after = (coming : List ℕ) → before ≡ Some coming → (read ≡ take n coming) × (after ≡ Some (drop n coming))

-- A sink that tells took this text.
abbrev pub Says : List ℕ → Option (List ℕ) → Option (List ℕ) → Type 0
Says text before after = (taken : List ℕ) → before ≡ Some taken → after ≡ Some (taken ++ text)

-- A sink that tells took some front of this text.
abbrev pub SaysSome : List ℕ → Option (List ℕ) → Option (List ℕ) → Type 0
SaysSome text before after = (taken : List ℕ) → before ≡ Some taken → (n : ℕ) × (after ≡ Some (taken ++ take n text))

-- A source gave n bytes, which stand behind the old ones now. 0 is the end.
pub record Gave (n : ℕ) (old new coming : List ℕ) (left : Option (List ℕ)) : Type 0 where
  pub few : n ≤ length coming
  pub more : new ≡ old ++ take n coming
  pub rest : left ≡ Some (drop n coming)
  pub end : n ≡ 0 → coming ≡ []

abbrev pub ReadsMore : ℕ → List ℕ → List ℕ → Option (List ℕ) → Option (List ℕ) → Type 0
ReadsMore n old new before after = (coming : List ℕ) → before ≡ Some coming → Gave n old new coming after
