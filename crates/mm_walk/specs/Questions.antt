-- What is first wrong, where questions are asked in an order.
use Rattle.std.specs.Prelude.{◌≡◌, ℕ, ◌+◌, ◌==◌, Bool, if◌then◌else◌, List, [], ◌∷◌, Option, Some, None}
use Rattle.mm_walk.specs.Tiles.{Block}

-- where something is asked, and whether it holds
pub record Question (P : Type 0) : Type 0 where
  pub at : P
  pub holds : Bool

-- the place of the first that fails
abbrev pub first_failing : {P : Type 0} → List (Question P) → Option P
first_failing [] = None
first_failing (q ∷ qs) = if q.holds then first_failing qs else Some q.at

-- each block begins where the one before ends, and the last ends at the end
abbrev pub gap_questions : ℕ → List Block → ℕ → List (Question ℕ)
gap_questions from [] end = record { at = end; holds = from == end } ∷ []
gap_questions from (b ∷ bs) end = record { at = b.0; holds = from == b.0 } ∷ gap_questions (b.0 + b.1) bs end
