use Rattle.std.proofs.Common.{arith}
use Rattle.mm_jfiles.proofs.Asking.{some_all}
use Rattle.mm_durable.specs.Own.{own_of}
use Rattle.mm_recover.proofs.LayAsks.{laid_next, laid_cut, laid_done, named_at, made_as, some_as}
use Rattle.mm_durable.proofs.Owning.{parts_are}
use Rattle.mm_durable.proofs.flushing.lay_section.Goals as goal

pub returns-in_err-lay_own-clause-cut : goal.returns-in_err-lay_own-clause-cut
returns-in_err-lay_own-clause-cut g c = some_as _ _ _ _ (parts_are c.args.name.now c.args.parts.now)
    (laid_cut (own_of c.args.name.now) c.args.parts.now c.loop-part.part-index c.part-item.result c.loop-part-test.true c.part-item.is _ _ _ c.loop-part.invariant.told c.lay_own.ensures.cut)

pub loop-part-preserved : goal.loop-part-preserved
loop-part-preserved g c = record {
  told = laid_next (own_of c.args.name.now) c.args.parts.now c.loop-part.part-index c.part-item.result c.loop-part-test.true c.part-item.is _ _ _ c.loop-part.invariant.told c.in_ok-lay_own.ensures.made;
  faults = omega arith;
}

pub returns-clause-made : goal.returns-clause-made
returns-clause-made g c = made_as _ _ _ _ (parts_are c.args.name.now c.args.parts.now) (laid_done (own_of c.args.name.now) c.args.parts.now c.loop-part.part-index _ _ c.loop-part-test.false c.loop-part.invariant.told)

pub returns-clause-cut : goal.returns-clause-cut
returns-clause-cut g c = some_all _ _ _ (returns-clause-made g c)

pub lay_own-requires : goal.lay_own-requires
lay_own-requires g c = named_at c.args.parts.now c.loop-part.part-index c.part-item.result c.loop-part-test.true c.part-item.is c.requires
