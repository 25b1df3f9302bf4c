use Rattle.std.proofs.Common.{sym}
use Rattle.mm_ranges.proofs.First.{found, not_found}
use Rattle.mm_ranges.proofs.spans.first_from.Goals as goal

pub returns-in-Some : goal.returns-in-Some
returns-in-Some c = sym (found c.args.file c.args.at c.args.starts.now.entries c.range.result c.next.«new».self _ (c.range.ensures.between tt) c.in-Some.ensures.steps)

pub returns-in-None : goal.returns-in-None
returns-in-None c = sym (not_found c.args.file c.args.at c.args.starts.now.entries c.range.result (c.range.ensures.between tt) c.in-None.ensures.steps.0)
