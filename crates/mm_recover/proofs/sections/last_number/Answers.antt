use Rattle.std.proofs.Common.{arith}
use Rattle.mm_recover.proofs.ReadTo.{is_last}
use Rattle.mm_recover.proofs.sections.last_number.Goals as goal

pub returns-else-count-eq0-clause-some : goal.returns-else-count-eq0-clause-some
returns-else-count-eq0-clause-some c = is_last c.args.sections.now c.index-sections-count.result (omega arith) c.requires.small
