-- The first question that fails.
use Rattle.std.proofs.Common.{◌≡◌, ℕ, ◌+◌, ◌⊎◌, inl, inr, Bool, true, false, List, [], ◌∷◌, ◌++◌, Option, Some, None, refl, ap, ◌∙◌}
use Rattle.std.specs.Prelude.{◌==◌, if◌then◌else◌}
use Rattle.mm_walk.specs.Tiles.{Block, first_gap}
use Rattle.mm_walk.specs.Questions.{Question, first_failing, gap_questions}

abbrev pub or_else : {P : Type 0} → Option P → Option P → Option P
or_else None o = o
or_else (Some p) o = Some p

if_or : {P : Type 0} (b : Bool) (x o : Option P) (p : P) → (if b then or_else x o else Some p) ≡ or_else (if b then x else Some p) o
if_or true x o p = refl
if_or false x o p = refl

-- of two lists in a row, the first's finding goes first
pub failing_append : {P : Type 0} (qs rs : List (Question P)) → first_failing (qs ++ rs) ≡ or_else (first_failing qs) (first_failing rs)
failing_append [] rs = refl
failing_append (q ∷ qs) rs = ap (λ x. if q.holds then x else Some q.at) (failing_append qs rs) ∙ if_or q.holds (first_failing qs) (first_failing rs) q.at

-- the first gap is the first question that fails
pub gap_is_failing : (from : ℕ) (bs : List Block) (end : ℕ) → first_gap from bs end ≡ first_failing (gap_questions from bs end)
gap_is_failing from [] end = refl
gap_is_failing from (b ∷ bs) end = ap (λ (x : Option ℕ). if from == b.0 then x else Some b.0) (gap_is_failing (b.0 + b.1) bs end)
