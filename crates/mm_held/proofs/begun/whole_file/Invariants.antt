use Rattle.std.proofs.Common.{◌-◌, length}
use Rattle.mm_ranges.specs.Overlay.{bytes_at}
use Rattle.mm_held.proofs.Loading.{Reading}
use Rattle.mm_held.proofs.begun.whole_file.Given as goal

abbrev pub invariant-pieces : goal.invariant-pieces
invariant-pieces l = Reading (bytes_at l.views.shared l.file) l.bytes.items

abbrev pub decreases-pieces : goal.decreases-pieces
decreases-pieces l = l.len - length l.bytes.items
