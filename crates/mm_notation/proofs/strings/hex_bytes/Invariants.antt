use Rattle.std.proofs.Common.{◌≡◌, ℕ, ◌≤◌, [], ◌∷◌, ◌++◌, length}
use Rattle.mm_notation.specs.Reading.{many_for, many_at, hex_item}
use Rattle.mm_notation.proofs.Loops.{prepend}
use Rattle.mm_notation.proofs.strings.hex_bytes.Given as goal

abbrev pub invariant-bytes : goal.invariant-bytes
invariant-bytes l = (fuel : ℕ) × (length l.rest ≤ fuel)
    × (prepend (λ a b. a ++ b) l.found.items (many_for [] (λ b bytes. b ∷ bytes) hex_item fuel l.rest) ≡ many_at [] (λ b bytes. b ∷ bytes) hex_item l.text)
    × (length l.rest ≤ length l.text)

abbrev pub decreases-bytes : goal.decreases-bytes
decreases-bytes l = length l.rest
