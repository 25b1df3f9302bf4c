use Rattle.std.proofs.Common.{◌≡◌, ℕ, ◌≤◌, [], ◌++◌, length}
use Rattle.mm_notation.specs.Reading.{many_for, many_at, piece_item}
use Rattle.mm_notation.proofs.Loops.{prepend}
use Rattle.mm_notation.proofs.strings.inside.Given as goal

abbrev pub invariant-pieces : goal.invariant-pieces
invariant-pieces l = (fuel : ℕ) × (length l.rest ≤ fuel)
    × (prepend (λ a b. a ++ b) l.found.items (many_for [] (λ piece bytes. piece ++ bytes) (piece_item l.named) fuel l.rest)
    ≡ many_at [] (λ piece bytes. piece ++ bytes) (piece_item l.named) l.text)
    × (length l.rest ≤ length l.text)

abbrev pub decreases-pieces : goal.decreases-pieces
decreases-pieces l = length l.rest
