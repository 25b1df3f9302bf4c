use Rattle.std.proofs.Common.{◌≤◌, ◌-◌, length}
use Rattle.mm_main.proofs.StreamSteps.{ReadSoFar}
use Rattle.mm_main.proofs.input.read_all.Given as goal

abbrev pub invariant-reads : goal.invariant-reads
invariant-reads g l = ReadSoFar l.bytes.items (g.S.Source.coming l.fn.source) (g.S.Source.coming l.source) × (length l.bytes.items ≤ 67_108_865) × (g.S.Source.faults l.fn.source ≤ g.S.Source.faults l.source)

abbrev pub decreases-reads : goal.decreases-reads
decreases-reads g l = 67_108_865 - length l.bytes.items
