use Rattle.std.proofs.Common.{arith}
use Rattle.std.proofs.lemmas.Bool.Decides.{nat_tests}
use Rattle.mm_keys.proofs.Lengths.{fields_are}
use Rattle.mm_keys.proofs.specification.has_few.Goals as goal

pub returns-then-not-is_empty-clause-some : goal.returns-then-not-is_empty-clause-some
returns-then-not-is_empty-clause-some c = grind (arith, nat_tests, fields_are c.args.fields.now)

pub returns-then-not-is_empty-clause-few : goal.returns-then-not-is_empty-clause-few
returns-then-not-is_empty-clause-few c = grind (arith, nat_tests, fields_are c.args.fields.now)

pub returns-then-not-is_empty-clause-exactly : goal.returns-then-not-is_empty-clause-exactly
returns-then-not-is_empty-clause-exactly c = grind (arith, nat_tests, fields_are c.args.fields.now)
