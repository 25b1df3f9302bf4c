use Rattle.std.proofs.Common.{List, ◌∙◌, ap}
use Rattle.std.proofs.lemmas.List.{take_all}
use Rattle.mm_section.specs.declared.section.Section.{Section}
use Rattle.mm_recover.specs.Laying.{newer_entries}
use Rattle.mm_recover.specs.Touched.{is_touched}
use Rattle.mm_recover.proofs.LayAsks.{all_entries}
use Rattle.mm_recover.proofs.NewerAsks.{can_named, newer_all}
use Rattle.mm_recover.proofs.TouchedNames.{text_none, touched_next}
use Rattle.mm_recover.proofs.touched.touched_set.Goals as goal

pub loop-section-init : goal.loop-section-init
loop-section-init c = λ file. text_none c.new-names.result file c.new-names.ensures.empty

pub add_section-requires : goal.add_section-requires
add_section-requires c = can_named c.args.sections.now c.loop-section.section-index c.section-item.result c.loop-section-test.true c.section-item.is c.requires

pub loop-section-preserved : goal.loop-section-preserved
loop-section-preserved c = touched_next (newer_entries c.args.lsn) c.args.sections.now c.loop-section.section-index c.section-item.result c.loop-section-test.true c.section-item.is c.loop-section.names c.in_ok-names.names c.loop-section.invariant c.in_ok-names.ensures

pub returns : goal.returns
returns c = λ file. c.loop-section.invariant file ∙ ap (λ (l : List Section). is_touched file (all_entries (newer_entries c.args.lsn) l)) (take_all c.loop-section.section-index c.args.sections.now c.loop-section-test.false) ∙ ap (is_touched file) (newer_all c.args.lsn c.args.sections.now)
