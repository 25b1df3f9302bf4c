-- Two words, of which the first is a command's name.
use Rattle.std.proofs.Common.{◌≡◌, ℕ, List, [], ◌∷◌, length, map, get_or, ap, ◌∙◌, sym, arith}
use Rattle.mm_main.specs.Words.{HasCommand}

pub command_is : {X : Type 0} (f : X → List ℕ) (name : List ℕ) (words : List X) (command : X) → length words ≡ 2 → command ≡ get_or words 0 command → f command ≡ name → HasCommand name (map f words)
command_is f name [] command two is same = absurd (omega arith)
command_is f name (a ∷ []) command two is same = absurd (omega arith)
command_is f name (a ∷ b ∷ []) command two is same = (f b, ap (λ w. w ∷ f b ∷ []) (ap f (sym is) ∙ same))
command_is f name (a ∷ b ∷ c ∷ words) command two is same = absurd (omega arith)

pub is_command : {X : Type 0} (f : X → List ℕ) (name : List ℕ) (words : List X) (command : X) → command ≡ get_or words 0 command → HasCommand name (map f words) → f command ≡ name
is_command f name [] command is has = cc (has.1)
is_command f name (a ∷ words) command is has = ap f is ∙ cc (has.1)
