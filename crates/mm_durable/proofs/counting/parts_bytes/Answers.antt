use Rattle.std.proofs.Common.{arith}
use Rattle.mm_durable.specs.Flushed.{own_bytes}
use Rattle.mm_durable.proofs.Counted.{more_counts, still_fits, one_fits, all_counted}
use Rattle.mm_durable.proofs.counting.parts_bytes.Goals as goal

pub part_bytes-count-requires : goal.part_bytes-count-requires
part_bytes-count-requires c = one_fits (own_bytes c.args.name.now) c.args.parts.now c.loop-part.part-index c.part-item.result c.loop-part-test.true c.part-item.is c.requires

pub overflow_add-count : goal.overflow_add-count
overflow_add-count c =
    let fits = still_fits (own_bytes c.args.name.now) c.args.parts.now c.loop-part.part-index c.part-item.result c.loop-part.count c.part_bytes-count.result c.loop-part-test.true c.part-item.is c.loop-part.invariant c.part_bytes-count.ensures c.requires in
    omega (arith, fits)

pub loop-part-preserved : goal.loop-part-preserved
loop-part-preserved c = more_counts (own_bytes c.args.name.now) c.args.parts.now c.loop-part.part-index c.part-item.result c.loop-part.count c.part_bytes-count.result c.loop-part-test.true c.part-item.is c.loop-part.invariant c.part_bytes-count.ensures

pub returns : goal.returns
returns c = all_counted (own_bytes c.args.name.now) c.args.parts.now c.loop-part.part-index c.loop-part.count c.loop-part-test.false c.loop-part.invariant
