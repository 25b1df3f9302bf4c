use Rattle.std.proofs.Common.{ℕ, ◌<◌, ◌≤◌, List}
use Rattle.mm_records.specs.Shape.{Shape, list_for}
use Rattle.mm_records.specs.Map.{name_at}
use Rattle.mm_records.specs.InHand.{StandsWith}
use Rattle.mm_records.specs.Searching.{AllShorter}
use Rattle.mm_records.proofs.search.find_block.Given as goal

abbrev pub invariant-loop-list : goal.invariant-loop-list
invariant-loop-list l = (list_for l.room ≤ l.list) × ((free : List ℕ) (s : Shape) → StandsWith l.draft.image free s l.node l.counts → (i : ℕ) → list_for l.room ≤ i → i < l.list → AllShorter s.heap l.room (s.lists (name_at l.draft.image l.node) i))
