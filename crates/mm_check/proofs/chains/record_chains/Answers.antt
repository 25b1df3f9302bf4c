use Rattle.std.proofs.Common.{refl}
use Rattle.mm_check.specs.Phases.{reading_of, record_chain}
use Rattle.mm_check.proofs.Chained.{pushed_map, mapped_all, item_has}
use Rattle.mm_check.proofs.chains.record_chains.Goals as goal

pub record_chain-requires : goal.record_chain-requires
record_chain-requires c = c.requires _ (item_has c.args.extents.now c.loop-i.i _ (0, 0) c.loop-i-test.true refl)

pub loop-i-preserved : goal.loop-i-preserved
loop-i-preserved c =
    pushed_map reading_of (record_chain c.args.views.now.private) c.loop-i.chains.items _ c.args.extents.now c.loop-i.i c.record_chain.result _ (0, 0) c.loop-i.invariant c.loop-i-test.true refl c.in_ok-push.ensures.items c.record_chain.ensures

pub returns : goal.returns
returns c = mapped_all reading_of (record_chain c.args.views.now.private) c.loop-i.chains.items c.args.extents.now c.loop-i.i c.loop-i.invariant c.loop-i-test.false
