use Rattle.std.proofs.Common.{List}
use Rattle.mm_links.specs.Links.{Place}
use Rattle.mm_extents.specs.FreeExtents.{IsChain, IsWalked}
use Rattle.mm_extents.proofs.free_chain.first_long.Given as goal

abbrev pub invariant-loop-step : goal.invariant-loop-step
invariant-loop-step l = (chain : List Place) → IsChain l.draft.image chain l.fn.head → IsWalked l.draft.image chain l.len l.step l.next
