use Rattle.std.proofs.Common.{◌≤◌, length}
use Rattle.mm_main.proofs.StreamSteps.{Printing}
use Rattle.mm_main.proofs.output.print.Given as goal

abbrev pub invariant-writes : goal.invariant-writes
invariant-writes g l = Printing l.text l.rest (g.K.Sink.taken l.fn.sink) (g.K.Sink.taken l.sink) × (g.K.Sink.faults l.fn.sink ≤ g.K.Sink.faults l.sink)

abbrev pub decreases-writes : goal.decreases-writes
decreases-writes g l = length l.rest
