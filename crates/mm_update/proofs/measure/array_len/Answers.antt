use Rattle.std.proofs.Common.{length, ap, arith}
use Rattle.mm_bson.specs.Spelling.{values_spelling}
use Rattle.mm_bson.proofs.Building.{array_spelling_len}
use Rattle.mm_update.specs.Drafted.{values_at}
use Rattle.mm_update.proofs.Listed.{no_value_at}
use Rattle.mm_update.proofs.measure.array_len.Goals as goal

pub returns : goal.returns
returns c =
    let none = ap (λ vs. length (values_spelling c.loop-next.place vs)) (no_value_at c.args.values.now c.loop-next.next-index c.loop-next-test.false) in
    omega (arith, c.loop-next.invariant.counted, none, array_spelling_len (values_at c.args.values.now))
