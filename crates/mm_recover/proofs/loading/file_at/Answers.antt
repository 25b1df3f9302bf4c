use Rattle.std.proofs.Common.{◌-◌, ◌∙◌, arith}
use Rattle.mm_recover.proofs.Loads.{small_file, small_order}
use Rattle.mm_recover.proofs.loading.file_at.Goals as goal

pub returns-else-place-eq0-clause-file : goal.returns-else-place-eq0-clause-file
returns-else-place-eq0-clause-file c = small_file (c.args.place - 1) (omega (arith, c.requires, c.if-place-eq0.false))

pub returns-else-place-eq0-clause-order : goal.returns-else-place-eq0-clause-order
returns-else-place-eq0-clause-order c = small_order (c.args.place - 1) (omega (arith, c.requires, c.if-place-eq0.false)) ∙ omega (arith, c.if-place-eq0.false)
