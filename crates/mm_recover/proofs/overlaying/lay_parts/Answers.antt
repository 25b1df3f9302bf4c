use Rattle.mm_recover.specs.Laying.{part_entries}
use Rattle.mm_recover.proofs.LayAsks.{parts_all, named_at}
use Rattle.mm_recover.proofs.LaidOver.{lays_none, lays_next, lays_done, lays_as}
use Rattle.mm_recover.specs.Overlaid.{own_name}
use Rattle.mm_recover.proofs.overlaying.lay_parts.Goals as goal

pub loop-part-init : goal.loop-part-init
loop-part-init c = lays_none (own_name c.args.file.now) c.args.content

pub lay_part-requires-clause-name : goal.lay_part-requires-clause-name
lay_part-requires-clause-name c = named_at c.args.parts.now c.loop-part.part-index c.part-item.result c.loop-part-test.true c.part-item.is c.requires.named

pub loop-part-preserved : goal.loop-part-preserved
loop-part-preserved c = lays_next part_entries (own_name c.args.file.now) c.args.parts.now c.loop-part.part-index c.part-item.result c.loop-part-test.true c.part-item.is c.args.content c.loop-part.content c.in_ok-content.content c.loop-part.invariant c.in_ok-content.ensures

pub returns : goal.returns
returns c = lays_as (own_name c.args.file.now) _ _ c.args.content c.loop-part.content (parts_all c.args.parts.now) (lays_done part_entries (own_name c.args.file.now) c.args.parts.now c.loop-part.part-index c.args.content c.loop-part.content c.loop-part-test.false c.loop-part.invariant)
