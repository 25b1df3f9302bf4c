use Rattle.mm_records.proofs.Askings.{whole_is}
use Rattle.mm_records.proofs.asking.whole_of.Goals as goal

pub returns-clause-is : goal.returns-clause-is
returns-clause-is c = whole_is c.args.len
