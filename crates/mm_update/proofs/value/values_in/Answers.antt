use Rattle.std.proofs.Common.{refl}
use Rattle.mm_update.proofs.Listed.{value_on, values_done}
use Rattle.mm_update.proofs.value.values_in.Goals as goal

pub loop-value-preserved : goal.loop-value-preserved
loop-value-preserved c = value_on c.loop-value.found.items c.values-values.result.now c.loop-value.value-index c.args.list.now c.loop-value.invariant c.value-item.result _ c.push.new.self.items c.loop-value-test.true c.value-item.is c.in_ok-push.ensures.items refl

pub returns : goal.returns
returns c = values_done c.loop-value.found.items c.values-values.result.now c.loop-value.value-index c.args.list.now c.loop-value.invariant c.loop-value-test.false
