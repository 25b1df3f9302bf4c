use Rattle.std.proofs.Common.{◌≡◌, length, refl, sym, ◌∙◌, ap, arith, rules}
use Rattle.std.proofs.lemmas.Option.{same_Some}
use Rattle.std.specs.Vec.{vec_len}
use Rattle.mm_rows_durable.specs.declared.subject.Side.{Side}
use Rattle.mm_rows_durable.proofs.Seats.{kept_side, stays_all, stays_then}
use Rattle.mm_rows_durable.proofs.Keeping.{sided_bench, sealed_as, there, on_ok1}
use Rattle.mm_rows_durable.proofs.bench.lay.Goals as goal

pub flush-requires : goal.flush-requires
flush-requires c =
    let bench = c.args.bench.now in
    let len : vec_len bench.sides ≡ length bench.sides.items = search rules in
    let at = there bench.sides.items c.args.db.0 c.index_mut.result.now (omega (arith, len, c.len.ensures, c.if-at-len.false)) c.index_mut.ensures.value in
    let seen = there bench.sides.items c.args.db.0 c.index.result.now (omega (arith, len, c.len.ensures, c.if-at-len.false)) c.index.ensures in
    let same = same_Some c.index.result.now c.index_mut.result.now (sym seen ∙ at) in
    record {
      orderly = c.requires.orderly;
      going = c.requires.going;
      db = omega (arith, len, c.len.ensures, c.if-at-len.false, c.requires.count);
      own = (c.requires.each c.args.db.0 c.index_mut.result.now at).own;
      applied = omega (arith, c.if-synced-applied.false, c.applied-applied.ensures, c.synced-synced.ensures, ap (λ (s : Side). s.held.images.applied) same);
    }

pub returns : goal.returns
returns c =
    let bench = c.args.bench.now in
    let len : vec_len bench.sides ≡ length bench.sides.items = search rules in
    let side = c.index_mut.result.now in
    let at = there bench.sides.items c.args.db.0 side (omega (arith, len, c.len.ensures, c.if-at-len.false)) c.index_mut.ensures.value in
    let stays = stays_then side.held side.held c.flush.new.from (stays_all side.held) c.flush.ensures.origin in
    let same = c.flush.ensures.same in
    on_ok1 c.flush.result
    (λ going.
    sided_bench bench _ c.args.db.0 side _ c.requires c.flush.ensures.orderly going same.run.names same.same_taken.lists_same same.same_taken.rings_same (sealed_as bench.durable c.flush.new.self same.run) refl at
    (kept_side side _ (c.requires.each c.args.db.0 side at).side_is stays refl refl refl) stays.ring)
    c.flush.ensures.going
