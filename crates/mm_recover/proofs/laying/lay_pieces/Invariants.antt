use Rattle.std.proofs.Common.{◌≤◌, [], ◌∷◌, take}
use Rattle.mm_outside.specs.Ask.{Makes}
use Rattle.mm_crash.specs.Asks.{lay_asks}
use Rattle.mm_recover.specs.Laying.{piece_entry}
use Rattle.mm_recover.proofs.LayAsks.{all_entries}
use Rattle.mm_recover.proofs.laying.lay_pieces.Given as goal

abbrev pub invariant-loop-piece : goal.invariant-loop-piece
invariant-loop-piece g l = record {
  told : Makes (lay_asks (all_entries (λ x. piece_entry l.name x ∷ []) (take l.piece-index l.pieces))) (g.D.Disk.told l.fn.disk) (g.D.Disk.told l.disk);
  faults : g.D.Disk.faults l.fn.disk ≤ g.D.Disk.faults l.disk;
}
