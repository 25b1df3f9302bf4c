use Rattle.std.proofs.Common.{◌<◌, ap, ◌∙◌, drop, ◌+◌, arith}
use Rattle.mm_bson.specs.Tree.{depth}
use Rattle.mm_update.specs.Drafted.{drafted, one_entry}
use Rattle.mm_update.proofs.Listed.{first_entry_is}
use Rattle.mm_update.proofs.Entries.{depth_first}
use Rattle.mm_update.proofs.measure.+shallow.Goals as goal

pub is_shallow-entry_is_shallow-requires : goal.is_shallow-entry_is_shallow-requires
is_shallow-entry_is_shallow-requires t c =
    let first = c.entry-item.result in
    let es = drafted (drop (c.entries.entry-index + 1) c.entries-entries.result.now) in
    let split = first_entry_is first c.entries-entries.result.now c.entries.entry-index c.entries-test.true c.entry-item.is in
    let deep = ap depth split ∙ depth_first first.name.now first.node es in
    (omega (arith, c.decreases, c.entries.invariant.shallow, deep), c.requires)

pub is_shallow-entries-preserved : goal.is_shallow-entries-preserved
is_shallow-entries-preserved t c =
    let first = c.entry-item.result in
    let es = drafted (drop (c.entries.entry-index + 1) c.entries-entries.result.now) in
    let split = first_entry_is first c.entries-entries.result.now c.entries.entry-index c.entries-test.true c.entry-item.is in
    let deep = ap depth split ∙ depth_first first.name.now first.node es in
    let here : depth (one_entry first) < c.args.limit = c.entry_is_shallow.ensures.0 c.if-not-entry_is_shallow.false in
    record {
      same = (λ lt. c.entries.invariant.same.0 (omega (arith, here, lt, deep)), λ lt. omega (arith, c.entries.invariant.same.1 lt, deep));
      shallow = omega (arith, c.entries.invariant.shallow, deep);
    }
