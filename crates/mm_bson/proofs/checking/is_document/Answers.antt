use Rattle.std.proofs.Common.{arith}
use Rattle.mm_bson.proofs.Checks.{judged}
use Rattle.mm_bson.proofs.checking.is_document.Goals as goal

pub returns : goal.returns
returns c = rw c.is_ok.ensures.value (judged c.check.result c.args.bytes.now (λ i. omega (arith, c.type_inv.bytes i)) c.check.ensures)
