-- Chains of places: what stands behind a place, and what a chain is without one of its places.
use Rattle.std.specs.Prelude.{◌≡◌, ℕ, Bool, true, false, ◌&&◌, ◌||◌, ◌==◌, not, if◌then◌else◌, List, [], ◌∷◌, ◌++◌, Option, Some, None}

-- a file and an offset in it
abbrev pub Place : Type 0
Place = ℕ × ℕ

-- the two are one place
abbrev pub same : Place → Place → Bool
same p q = p.0 == q.0 && p.1 == q.1

-- the place is on the chain
abbrev pub has : List Place → Place → Bool
has [] p = false
has (x ∷ xs) p = same x p || has xs p

-- no place is on the chain twice
abbrev pub once : List Place → Bool
once [] = true
once (x ∷ xs) = not (has xs x) && once xs

-- the first of a chain
abbrev pub first_of : List Place → Option Place
first_of [] = None
first_of (x ∷ xs) = Some x

-- the last of a chain
abbrev pub last_of : List Place → Option Place
last_of [] = None
last_of (x ∷ []) = Some x
last_of (x ∷ y ∷ ys) = last_of (y ∷ ys)

-- what stands behind a place of the chain
abbrev pub next_in : List Place → Place → Option Place
next_in [] p = None
next_in (x ∷ xs) p = if same x p then first_of xs else next_in xs p

-- the chain without a place
abbrev pub without : Place → List Place → List Place
without p [] = []
without p (x ∷ xs) = if same x p then without p xs else x ∷ without p xs

-- the chain with one more place behind its last
abbrev pub appended : List Place → Place → List Place
appended xs p = xs ++ p ∷ []

-- whether it is that place
abbrev pub is : Option Place → Place → Bool
is None p = false
is (Some x) p = same x p

-- what stands before a place of a chain: another, or nothing before the first
abbrev pub StandsBefore : List Place → Option Place → Place → Type 0
StandsBefore xs None p = first_of xs ≡ Some p
StandsBefore xs (Some x) p = next_in xs x ≡ Some p

-- A doubly linked chain: each place names the one behind it, that one names it, and the first names none before it.
pub record IsLinked {A : Type 0} (of : Option Place → A) (xs : List Place) (next prev : Place → A) : Type 0 where
  pub no_twice : once xs ≡ true
  pub behind : (p : Place) → has xs p ≡ true → next p ≡ of (next_in xs p)
  pub before : (p q : Place) → next_in xs p ≡ Some q → prev q ≡ of (Some p)
  pub first : (p : Place) → first_of xs ≡ Some p → prev p ≡ of None
