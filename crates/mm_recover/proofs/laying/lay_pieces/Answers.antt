use Rattle.std.proofs.Common.{[], ◌∷◌, arith}
use Rattle.mm_jfiles.proofs.Asking.{some_all}
use Rattle.mm_recover.specs.Laying.{piece_entry}
use Rattle.mm_recover.proofs.LayAsks.{laid_next, laid_cut, laid_done, map_all, made_as, some_as}
use Rattle.mm_recover.proofs.laying.lay_pieces.Goals as goal

pub returns-in_err-lay_one_piece-clause-cut : goal.returns-in_err-lay_one_piece-clause-cut
returns-in_err-lay_one_piece-clause-cut g c = some_as _ _ _ _ (map_all (piece_entry c.args.name.now) c.args.pieces.now) (laid_cut (λ x. piece_entry c.args.name.now x ∷ []) c.args.pieces.now c.loop-piece.piece-index c.piece-item.result c.loop-piece-test.true c.piece-item.is _ _ _ c.loop-piece.invariant.told c.lay_one_piece.ensures.cut)

pub loop-piece-preserved : goal.loop-piece-preserved
loop-piece-preserved g c = record {
  told = laid_next (λ x. piece_entry c.args.name.now x ∷ []) c.args.pieces.now c.loop-piece.piece-index c.piece-item.result c.loop-piece-test.true c.piece-item.is _ _ _ c.loop-piece.invariant.told c.in_ok-lay_one_piece.ensures.made;
  faults = omega arith;
}

pub returns-clause-made : goal.returns-clause-made
returns-clause-made g c = made_as _ _ _ _ (map_all (piece_entry c.args.name.now) c.args.pieces.now) (laid_done (λ x. piece_entry c.args.name.now x ∷ []) c.args.pieces.now c.loop-piece.piece-index _ _ c.loop-piece-test.false c.loop-piece.invariant.told)

pub returns-clause-cut : goal.returns-clause-cut
returns-clause-cut g c = some_all _ _ _ (returns-clause-made g c)
