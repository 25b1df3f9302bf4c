use Rattle.std.proofs.Common.{◌∙◌, ap, arith}
use Rattle.std.specs.Prelude.{is_some}
use Rattle.mm_ranges.proofs.Steps.{taken_out, turned}
use Rattle.mm_ranges.proofs.spans.swallow.Goals as goal

pub without-requires-clause-order : goal.without-requires-clause-order
without-requires-clause-order c =
    (taken_out c.loop-span.starts.entries c.loop-span.whole c.in-Some.span c.loop-span.invariant.kept c.loop-span.invariant.joins c.in-Some.ensures.some.0 c.in-Some.ensures.some.1).order

pub without-requires-clause-places : goal.without-requires-clause-places
without-requires-clause-places c =
    let out = taken_out c.loop-span.starts.entries c.loop-span.whole c.in-Some.span c.loop-span.invariant.kept c.loop-span.invariant.joins c.in-Some.ensures.some.0 c.in-Some.ensures.some.1 in
    omega (arith, out.places_less, c.loop-span.invariant.counts.places_counted)

pub without-requires-clause-ranges : goal.without-requires-clause-ranges
without-requires-clause-ranges c =
    let out = taken_out c.loop-span.starts.entries c.loop-span.whole c.in-Some.span c.loop-span.invariant.kept c.loop-span.invariant.joins c.in-Some.ensures.some.0 c.in-Some.ensures.some.1 in
    omega (arith, out.ranges_less, c.loop-span.invariant.counts.ranges_counted)

pub loop-span-smaller : goal.loop-span-smaller
loop-span-smaller c =
    let out = taken_out c.loop-span.starts.entries c.loop-span.whole c.in-Some.span c.loop-span.invariant.kept c.loop-span.invariant.joins c.in-Some.ensures.some.0 c.in-Some.ensures.some.1 in
    let gone = ap is_some (c.remove.ensures.value ∙ out.there) in
    let len = rw gone at c.remove.ensures.len in
    omega arith

pub loop-span-preserved : goal.loop-span-preserved
loop-span-preserved c =
    let out = taken_out c.loop-span.starts.entries c.loop-span.whole c.in-Some.span c.loop-span.invariant.kept c.loop-span.invariant.joins c.in-Some.ensures.some.0 c.in-Some.ensures.some.1 in
    let t = turned c.loop-span.starts.entries c.remove.«new».self.entries c.loop-span.tally c.without.result c.loop-span.whole c.in-Some.span c.min.result out c.loop-span.invariant.counts
    c.remove.ensures.entries c.min.ensures c.without.ensures.places c.without.ensures.ranges in
    record { kept = t.kept; counts = t.counts; joins = t.joins; same = t.same ∙ c.loop-span.invariant.same }
