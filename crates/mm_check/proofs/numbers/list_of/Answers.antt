use Rattle.std.proofs.Common.{◌∙◌, refl, sym, arith}
use Rattle.mm_records.specs.Shape.{list_for}
use Rattle.mm_records.proofs.Numbers.{size_step, size_bound, list_step, list_here, list_last}
use Rattle.mm_check.proofs.numbers.list_of.Goals as goal

pub loop-list-init : goal.loop-list-init
unfolding list_for
loop-list-init c = (refl, omega arith, refl)

pub returns-then-len-size-clause-is : goal.returns-then-len-size-clause-is
returns-then-len-size-clause-is c = sym (c.loop-list.invariant.2 ∙ list_here c.loop-list.list c.args.len c.loop-list.size c.loop-list-test.true c.loop-list.invariant.0 c.if-len-size.true)

pub overflow_mul-size : goal.overflow_mul-size
overflow_mul-size c = let b = size_bound c.loop-list.list c.loop-list.size c.loop-list-test.true c.loop-list.invariant.0 in omega (arith, b)

pub loop-list-preserved : goal.loop-list-preserved
loop-list-preserved c =
    let lt = c.loop-list-test.true in (
      size_step c.loop-list.list c.loop-list.size c.loop-list.invariant.0,
      omega (arith, lt),
      c.loop-list.invariant.2 ∙ list_step c.loop-list.list c.args.len c.loop-list.size lt c.loop-list.invariant.0 c.if-len-size.false,
    )

pub returns-clause-is : goal.returns-clause-is
returns-clause-is c = sym (c.loop-list.invariant.2 ∙ list_last c.loop-list.list c.args.len c.loop-list-test.false c.loop-list.invariant.1)
