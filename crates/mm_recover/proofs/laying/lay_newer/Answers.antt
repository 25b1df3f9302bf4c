use Rattle.std.proofs.Common.{arith}
use Rattle.mm_jfiles.proofs.Asking.{some_all}
use Rattle.mm_recover.specs.Laying.{newer_entries}
use Rattle.mm_recover.proofs.LayAsks.{laid_next, laid_cut, laid_done, made_as, some_as}
use Rattle.mm_recover.proofs.NewerAsks.{newer_all, can_named}
use Rattle.mm_recover.proofs.laying.lay_newer.Goals as goal

pub lay_section-requires : goal.lay_section-requires
lay_section-requires g c = can_named c.args.sections.now c.loop-section.section-index c.section-item.result c.loop-section-test.true c.section-item.is c.requires

pub returns-in_err-lay_section-clause-cut : goal.returns-in_err-lay_section-clause-cut
returns-in_err-lay_section-clause-cut g c = some_as _ _ _ _ (newer_all c.args.lsn c.args.sections.now) (laid_cut (newer_entries c.args.lsn) c.args.sections.now c.loop-section.section-index c.section-item.result c.loop-section-test.true c.section-item.is _ _ _ c.loop-section.invariant.told c.lay_section.ensures.cut)

pub loop-section-preserved : goal.loop-section-preserved
loop-section-preserved g c = record {
  told = laid_next (newer_entries c.args.lsn) c.args.sections.now c.loop-section.section-index c.section-item.result c.loop-section-test.true c.section-item.is _ _ _ c.loop-section.invariant.told c.in_ok-lay_section.ensures.made;
  faults = omega arith;
}

pub returns-clause-made : goal.returns-clause-made
returns-clause-made g c = made_as _ _ _ _ (newer_all c.args.lsn c.args.sections.now) (laid_done (newer_entries c.args.lsn) c.args.sections.now c.loop-section.section-index _ _ c.loop-section-test.false c.loop-section.invariant.told)

pub returns-clause-cut : goal.returns-clause-cut
returns-clause-cut g c = some_all _ _ _ (returns-clause-made g c)
