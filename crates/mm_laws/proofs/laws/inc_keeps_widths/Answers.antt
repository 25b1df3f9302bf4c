use Rattle.mm_laws.proofs.Changing.{narrow_stays, narrow_widens, wide_stays, operand_widens}
use Rattle.mm_laws.proofs.laws.inc_keeps_widths.Goals as goal

pub returns-clause-narrow : goal.returns-clause-narrow
returns-clause-narrow c = narrow_stays

pub returns-clause-wider : goal.returns-clause-wider
returns-clause-wider c = narrow_widens

pub returns-clause-wide : goal.returns-clause-wide
returns-clause-wide c = wide_stays

pub returns-clause-operand : goal.returns-clause-operand
returns-clause-operand c = operand_widens
