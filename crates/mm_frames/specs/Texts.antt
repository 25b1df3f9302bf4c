-- The text of a zero padded field.
use Rattle.std.specs.Prelude.{ℕ, ◌==◌, not, List, take}
use Rattle.std.specs.List.{prefix_len}

-- what stands in a field before the first zero
unfoldable pub text_in : List ℕ → List ℕ
text_in field = take (prefix_len (λ b. not (b == 0)) field) field
