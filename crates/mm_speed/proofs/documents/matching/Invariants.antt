use Rattle.std.proofs.Common.{length}
use Rattle.mm_speed.proofs.documents.matching.Given as goal

abbrev pub decreases-loop-first : goal.decreases-loop-first
decreases-loop-first l = length l.rest
