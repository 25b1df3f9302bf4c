use Rattle.std.proofs.Common.{arith, ◌≡◌, length}
use Rattle.mm_main.proofs.StreamSteps.{read_more, read_up_to, read_to_end}
use Rattle.mm_main.proofs.input.read_all.Goals as goal

pub reads-preserved : goal.reads-preserved
reads-preserved g c = (
  read_more _ _ _ _ _ _ c.in_ok-read_more.ensures.len c.reads.invariant.0 c.in_ok-read_more.ensures.came,
  omega (arith, c.in_ok-read_more.ensures.few, c.in_ok-read_more.ensures.len),
  omega (arith, c.read_more.ensures.later),
)

pub returns-then-branch-eq0-clause-read : goal.returns-then-branch-eq0-clause-read
returns-then-branch-eq0-clause-read g c = read_to_end 67_108_865 _ c.reads.bytes.items _ _ _ _ c.if-branch-eq0.true (omega arith) c.reads.invariant.0 c.in_ok-read_more.ensures.came

pub returns-clause-read : goal.returns-clause-read
returns-clause-read g c =
    let most : length c.reads.bytes.items ≡ 67_108_865 = omega arith in
    read_up_to 67_108_865 _ _ _ most c.reads.invariant.0
