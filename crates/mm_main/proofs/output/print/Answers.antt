use Rattle.std.proofs.Common.{◌≡◌, length, arith, rules}
use Rattle.mm_main.proofs.StreamSteps.{printing_more, printing_all}
use Rattle.mm_main.proofs.output.print.Goals as goal

pub writes-preserved : goal.writes-preserved
writes-preserved g c = (rw c.split_at.ensures.back (printing_more _ _ _ _ _ _ c.writes.invariant.0 c.in_ok-n.ensures.bytes), omega (arith, c.write.ensures.cause.later))

pub returns-clause-all : goal.returns-clause-all
returns-clause-all g c =
    let none : length c.writes.rest.now ≡ 0 = search rules in
    printing_all _ _ _ _ c.writes.invariant.0 none
