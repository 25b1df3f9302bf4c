-- The place that a frame names is a low one.
use Rattle.std.proofs.Common.{◌≡◌, Option, Some, subst}
use Rattle.mm_links.specs.Links.{Place}
use Rattle.mm_extents.specs.Heap.{Heap}
use Rattle.mm_extents.specs.Changes.{IsLow, LowOr}
use Rattle.mm_records.specs.Taking.{IsBlockAt, BlockOr}

pub low_named : (o : Option Place) (p : Place) → o ≡ Some p → LowOr o → IsLow p
low_named o p e l = subst (λ (x : Option Place). LowOr x) e l

pub block_named : (heap : Heap) (o : Option Place) (p : Place) → o ≡ Some p → BlockOr heap o → IsBlockAt heap p
block_named heap o p e b = subst (λ (x : Option Place). BlockOr heap x) e b
