use Rattle.std.proofs.Common.{List}
use Rattle.mm_links.specs.Links.{Place}
use Rattle.mm_records.specs.Searching.{IsList, IsWalked}
use Rattle.mm_records.proofs.search.first_fit.Given as goal

abbrev pub invariant-loop-step : goal.invariant-loop-step
invariant-loop-step l = (blocks : List Place) → IsList l.draft.image blocks l.fn.head → IsWalked l.draft.image blocks l.room l.step l.before l.next
