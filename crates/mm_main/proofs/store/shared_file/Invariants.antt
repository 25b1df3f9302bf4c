use Rattle.std.proofs.Common.{◌-◌, length}
use Rattle.mm_ranges.specs.Overlay.{bytes_at}
use Rattle.mm_main.proofs.StoreSteps.{Reading}
use Rattle.mm_main.proofs.store.shared_file.Given as goal

abbrev pub invariant-pieces : goal.invariant-pieces
invariant-pieces l = Reading (bytes_at l.views.shared 0) l.file.items

abbrev pub decreases-pieces : goal.decreases-pieces
decreases-pieces l = 1_048_576 - length l.file.items
