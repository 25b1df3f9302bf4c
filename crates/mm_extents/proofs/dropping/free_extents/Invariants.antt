use Rattle.std.proofs.Common.{◌+◌, ◌*◌, ◌≤◌, List}
use Rattle.mm_views.specs.State.{weight_in}
use Rattle.mm_links.specs.Links.{Place}
use Rattle.mm_extents.specs.Heap.{Heap}
use Rattle.mm_extents.specs.Changes.{KeepsHeaders}
use Rattle.mm_extents.specs.FreeExtents.{HasFree}
use Rattle.mm_extents.specs.Dropping.{AreUsed}
use Rattle.mm_extents.proofs.DropWalks.{IsDropped}
use Rattle.mm_extents.proofs.dropping.free_extents.Given as goal

-- the extents before the next one are free ones
abbrev pub invariant-loop-step : goal.invariant-loop-step
invariant-loop-step l = record {
  walked : (heap : Heap) (chain ps : List Place) → HasFree l.fn.draft.image l.name heap chain l.fn.free → AreUsed heap l.name ps l.fn.first → IsDropped l.draft.image l.name heap chain ps l.free l.step l.next;
  kept : KeepsHeaders l.fn.draft.image l.draft.image;
  weight : weight_in l.draft.made l.draft.declared ≤ weight_in l.fn.draft.made l.fn.draft.declared + 376 * l.step;
}
