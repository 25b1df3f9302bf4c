use Rattle.std.proofs.Common.{length, Err, ap, arith}
use Rattle.mm_script.proofs.SpecSteps.{short_yes, short_no}
use Rattle.mm_script.proofs.documents.spec_of.Goals as goal

pub returns-then-bytes-gt-MOST_SPECIFICATION-clause-none : goal.returns-then-bytes-gt-MOST_SPECIFICATION-clause-none
returns-then-bytes-gt-MOST_SPECIFICATION-clause-none c = short_no c.args.doc.now (λ is. absurd (omega (arith, is.short, ap length c.bytes.ensures.spelled)))

pub returns-in-Ok-clause-some : goal.returns-in-Ok-clause-some
returns-in-Ok-clause-some c = (c.in-Ok.ensures.ok, short_yes c.args.doc.now c.in-Ok.ensures.accepted (omega (arith, ap length c.bytes.ensures.spelled)))

pub returns-in-Err-BadSpec-clause-none : goal.returns-in-Err-BadSpec-clause-none
returns-in-Err-BadSpec-clause-none c = short_no c.args.doc.now (λ is. c.in-Err-BadSpec.ensures.refused (ap Err c.in-Err-BadSpec.field-0-is) is.specification)
