use Rattle.std.proofs.Common.{◌≡◌, ℕ, ◌+◌, ◌*◌, ◌≤◌, length}
use Rattle.std.specs.Prelude.{IfSome}
use Rattle.mm_bson.specs.Tree.{Elements}
use Rattle.mm_bson.specs.Reading.{elements_at, nested_at}
use Rattle.mm_bson.proofs.Loop.{with_front}
use Rattle.mm_bson.proofs.checking.+check.Given as goal

abbrev pub decreases-nested : goal.decreases-nested
decreases-nested l = 3 * l.levels

abbrev pub decreases-inside : goal.decreases-inside
decreases-inside l = 3 * l.levels + 1

abbrev pub decreases-elements : goal.decreases-elements
decreases-elements l = 3 * l.levels + 2

abbrev pub decreases-elements-elements : goal.decreases-elements-elements
decreases-elements-elements l = length l.rest

abbrev pub invariant-elements-elements : goal.invariant-elements-elements
invariant-elements-elements l = record {
  within : length l.rest ≤ length l.bytes;
  small : IfSome l.due (λ i. i + length l.rest ≤ length l.bytes);
  so_far : (front : Elements) × (most : ℕ) × (length l.rest ≤ most)
      × (with_front front (elements_at (nested_at l.levels) l.due l.start l.end most l.rest)
      ≡ elements_at (nested_at l.levels) l.fn.first l.start l.end (length l.bytes) l.bytes);
}
