use Rattle.std.proofs.Common.{length, arith}
use Rattle.mm_ranges.specs.declared.part.Piece.{Piece}
use Rattle.mm_durable.proofs.Counted.{more_counts, still_fits, all_counted}
use Rattle.mm_durable.proofs.counting.range_bytes.Goals as goal

pub overflow_add-count : goal.overflow_add-count
overflow_add-count c =
    let fits = still_fits (λ (p : Piece). length p.bytes) c.args.pieces.now c.loop-piece.piece-index c.piece-item.result c.loop-piece.count c.len.result c.loop-piece-test.true c.piece-item.is c.loop-piece.invariant c.len.ensures c.requires in
    omega (arith, fits)

pub loop-piece-preserved : goal.loop-piece-preserved
loop-piece-preserved c = more_counts (λ (p : Piece). length p.bytes) c.args.pieces.now c.loop-piece.piece-index c.piece-item.result c.loop-piece.count c.len.result c.loop-piece-test.true c.piece-item.is c.loop-piece.invariant c.len.ensures

pub returns : goal.returns
returns c = all_counted (λ (p : Piece). length p.bytes) c.args.pieces.now c.loop-piece.piece-index c.loop-piece.count c.loop-piece-test.false c.loop-piece.invariant
