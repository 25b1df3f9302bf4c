use Rattle.mm_recover.specs.Laying.{newer_entries}
use Rattle.mm_recover.proofs.NewerAsks.{can_named, newer_all}
use Rattle.mm_recover.proofs.LaidOver.{lays_none, lays_next, lays_done, lays_as}
use Rattle.mm_recover.specs.Overlaid.{own_name}
use Rattle.mm_recover.proofs.overlaying.overlay.Goals as goal

pub loop-section-init : goal.loop-section-init
loop-section-init c = lays_none (own_name c.args.file.now) c.args.content

pub lay_section-requires-clause-named : goal.lay_section-requires-clause-named
lay_section-requires-clause-named c = can_named c.args.sections.now c.loop-section.section-index c.section-item.result c.loop-section-test.true c.section-item.is c.requires.can

pub loop-section-preserved : goal.loop-section-preserved
loop-section-preserved c = lays_next (newer_entries c.args.lsn) (own_name c.args.file.now) c.args.sections.now c.loop-section.section-index c.section-item.result c.loop-section-test.true c.section-item.is c.args.content c.loop-section.content c.in_ok-content.content c.loop-section.invariant c.in_ok-content.ensures

pub returns : goal.returns
returns c = lays_as (own_name c.args.file.now) _ _ c.args.content c.loop-section.content (newer_all c.args.lsn c.args.sections.now) (lays_done (newer_entries c.args.lsn) (own_name c.args.file.now) c.args.sections.now c.loop-section.section-index c.args.content c.loop-section.content c.loop-section-test.false c.loop-section.invariant)
