use Rattle.std.proofs.Common.{◌<◌, ◌^◌, List, sum_by, ◌∙◌, sym, ap, subst, arith}
use Rattle.mm_ranges.specs.declared.part.Part.{Part}
use Rattle.mm_durable.specs.Flushed.{own_bytes, own_bytes_in}
use Rattle.mm_durable.proofs.Counted.{more_counts, still_fits, one_fits, all_counted}
use Rattle.mm_durable.proofs.counting.flushed_bytes.Goals as goal

pub parts_bytes-count-requires : goal.parts_bytes-count-requires
parts_bytes-count-requires c = subst (λ (l : List Part). sum_by (own_bytes c.args.name.now) l < 2 ^ 64) (sym c.as_slice.ensures) (one_fits (own_bytes_in c.args.name.now) c.args.sections.now c.loop-section.section-index c.section-item.result c.loop-section-test.true c.section-item.is c.requires)

pub overflow_add-count : goal.overflow_add-count
overflow_add-count c =
    let fits = still_fits (own_bytes_in c.args.name.now) c.args.sections.now c.loop-section.section-index c.section-item.result c.loop-section.count c.parts_bytes-count.result c.loop-section-test.true c.section-item.is c.loop-section.invariant
    (c.parts_bytes-count.ensures ∙ ap (sum_by (own_bytes c.args.name.now)) c.as_slice.ensures) c.requires in
    omega (arith, fits)

pub loop-section-preserved : goal.loop-section-preserved
loop-section-preserved c =
    more_counts (own_bytes_in c.args.name.now) c.args.sections.now c.loop-section.section-index c.section-item.result c.loop-section.count c.parts_bytes-count.result c.loop-section-test.true c.section-item.is c.loop-section.invariant
    (c.parts_bytes-count.ensures ∙ ap (sum_by (own_bytes c.args.name.now)) c.as_slice.ensures)

pub returns : goal.returns
returns c = all_counted (own_bytes_in c.args.name.now) c.args.sections.now c.loop-section.section-index c.loop-section.count c.loop-section-test.false c.loop-section.invariant
