use Rattle.std.proofs.Common.{arith, ap, sym, subst}
use Rattle.mm_jfiles.proofs.Asking.{some_all}
use Rattle.mm_recover.specs.Laying.{AreNamed}
use Rattle.mm_recover.proofs.LayAsks.{laid_next, laid_cut, laid_done, made_as, some_as}
use Rattle.mm_durable.specs.Own.{own_of_parts}
use Rattle.mm_durable.proofs.Owning.{own_in_section, sections_are, section_named}
use Rattle.mm_durable.proofs.flushing.lay_sections.Goals as goal

pub returns-in_err-lay_section-clause-cut : goal.returns-in_err-lay_section-clause-cut
returns-in_err-lay_section-clause-cut g c = some_as _ _ _ _ (sections_are c.args.name.now c.args.sections.now)
    (laid_cut (own_in_section c.args.name.now) c.args.sections.now c.loop-section.section-index c.section-item.result c.loop-section-test.true c.section-item.is _ _ _ c.loop-section.invariant.told
    (some_as _ _ _ _ (ap (own_of_parts c.args.name.now) c.as_slice.ensures) c.lay_section.ensures.cut))

pub loop-section-preserved : goal.loop-section-preserved
loop-section-preserved g c = record {
  told = laid_next (own_in_section c.args.name.now) c.args.sections.now c.loop-section.section-index c.section-item.result c.loop-section-test.true c.section-item.is _ _ _ c.loop-section.invariant.told
      (made_as _ _ _ _ (ap (own_of_parts c.args.name.now) c.as_slice.ensures) c.in_ok-lay_section.ensures.made);
  faults = omega arith;
}

pub returns-clause-made : goal.returns-clause-made
returns-clause-made g c = made_as _ _ _ _ (sections_are c.args.name.now c.args.sections.now) (laid_done (own_in_section c.args.name.now) c.args.sections.now c.loop-section.section-index _ _ c.loop-section-test.false c.loop-section.invariant.told)

pub returns-clause-cut : goal.returns-clause-cut
returns-clause-cut g c = some_all _ _ _ (returns-clause-made g c)

pub lay_section-requires : goal.lay_section-requires
lay_section-requires g c = subst AreNamed (sym c.as_slice.ensures) (section_named c.args.sections.now c.loop-section.section-index c.section-item.result c.loop-section-test.true c.section-item.is c.requires)
