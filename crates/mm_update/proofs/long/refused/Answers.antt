use Rattle.std.proofs.Common.{arith}
use Rattle.mm_update.proofs.Deep.{long_refused, deep_refused}
use Rattle.mm_update.proofs.long.refused.Goals as goal

pub returns-then-len-gt-MAX_LEN : goal.returns-then-len-gt-MAX_LEN
returns-then-len-gt-MAX_LEN c = long_refused c.args.steps.now c.args.doc.now c.in-Ok.len c.in-Ok.ensures (omega arith)

pub returns-else-len-gt-MAX_LEN : goal.returns-else-len-gt-MAX_LEN
returns-else-len-gt-MAX_LEN c = deep_refused c.args.steps.now c.args.doc.now c.in-Ok.len c.in-Ok.ensures c.requires.apart c.requires.long (omega arith)
