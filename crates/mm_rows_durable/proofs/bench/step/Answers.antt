use Rattle.std.proofs.Common.{◌≡◌, length, refl, arith, rules}
use Rattle.std.specs.Vec.{vec_len}
use Rattle.mm_rows_durable.proofs.Keeping.{sided_bench, there}
use Rattle.mm_rows_durable.proofs.bench.step.Goals as goal

pub step-requires : goal.step-requires
step-requires c =
    let sides = c.args.bench.now.sides in
    let len : vec_len sides ≡ length sides.items = search rules in
    let at = there sides.items _ c.index_mut.result.now (omega (arith, len, c.len.ensures, c.if-at-len.false)) c.index_mut.ensures.value in
    (c.requires.each _ _ at).side_is

pub returns : goal.returns
returns c =
    let sides = c.args.bench.now.sides in
    let len : vec_len sides ≡ length sides.items = search rules in
    let at = there sides.items _ c.index_mut.result.now (omega (arith, len, c.len.ensures, c.if-at-len.false)) c.index_mut.ensures.value in
    sided_bench c.args.bench.now _ _ _ _ c.requires c.requires.orderly c.requires.going refl refl refl refl refl at c.step.ensures.side c.step.ensures.same.ring_same
