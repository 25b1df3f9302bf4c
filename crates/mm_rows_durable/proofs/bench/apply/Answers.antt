use Rattle.std.proofs.Common.{◌≡◌, length, refl, arith, rules}
use Rattle.std.specs.Vec.{vec_len}
use Rattle.mm_rows_durable.proofs.Keeping.{sided_bench, there}
use Rattle.mm_rows_durable.proofs.bench.apply.Goals as goal

pub apply-requires : goal.apply-requires
apply-requires c =
    let sides = c.args.bench.now.sides in
    let len : vec_len sides ≡ length sides.items = search rules in
    let at = there sides.items _ c.index_mut.result.now (omega (arith, len, c.len.ensures, c.if-at-len.true)) c.index_mut.ensures.value in
    (c.requires.each _ _ at).side_is

pub returns-then-at-len : goal.returns-then-at-len
returns-then-at-len c =
    let sides = c.args.bench.now.sides in
    let len : vec_len sides ≡ length sides.items = search rules in
    let at = there sides.items _ c.index_mut.result.now (omega (arith, len, c.len.ensures, c.if-at-len.true)) c.index_mut.ensures.value in
    sided_bench c.args.bench.now _ _ _ _ c.requires c.requires.orderly c.requires.going refl refl refl refl refl at c.apply.ensures.side c.apply.ensures.same.ring_same
