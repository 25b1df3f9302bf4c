use Rattle.mm_recover.specs.Laying.{part_entries}
use Rattle.mm_recover.proofs.LayAsks.{parts_all, named_at}
use Rattle.mm_recover.proofs.TouchedNames.{adds_none, adds_next, adds_done, adds_as}
use Rattle.mm_recover.proofs.touched.add_parts.Goals as goal

pub loop-part-init : goal.loop-part-init
loop-part-init c = adds_none c.args.names

pub add_part-requires : goal.add_part-requires
add_part-requires c = named_at c.args.parts.now c.loop-part.part-index c.part-item.result c.loop-part-test.true c.part-item.is c.requires

pub loop-part-preserved : goal.loop-part-preserved
loop-part-preserved c = adds_next part_entries c.args.parts.now c.loop-part.part-index c.part-item.result c.loop-part-test.true c.part-item.is c.args.names c.loop-part.names c.in_ok-names.names c.loop-part.invariant c.in_ok-names.ensures

pub returns : goal.returns
returns c = adds_as _ _ c.args.names c.loop-part.names (parts_all c.args.parts.now) (adds_done part_entries c.args.parts.now c.loop-part.part-index c.args.names c.loop-part.names c.loop-part-test.false c.loop-part.invariant)
