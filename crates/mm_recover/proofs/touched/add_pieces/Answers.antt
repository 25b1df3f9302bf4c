use Rattle.std.proofs.Common.{[], ◌∷◌, refl}
use Rattle.mm_recover.specs.Laying.{piece_entry}
use Rattle.mm_recover.proofs.LayAsks.{map_all}
use Rattle.mm_recover.proofs.TouchedNames.{adds_none, adds_one, adds_next, adds_done, adds_as}
use Rattle.mm_recover.proofs.touched.add_pieces.Goals as goal

pub loop-piece-init : goal.loop-piece-init
loop-piece-init c = adds_none c.args.names

pub loop-piece-preserved : goal.loop-piece-preserved
loop-piece-preserved c = adds_next (λ x. piece_entry c.args.name.now x ∷ []) c.args.pieces.now c.loop-piece.piece-index c.piece-item.result c.loop-piece-test.true c.piece-item.is c.args.names c.loop-piece.names c.in_ok-names.names c.loop-piece.invariant
    (adds_one (piece_entry c.args.name.now c.piece-item.result) _ c.loop-piece.names c.in_ok-names.names refl c.in_ok-names.ensures)

pub returns : goal.returns
returns c = adds_as _ _ c.args.names c.loop-piece.names (map_all (piece_entry c.args.name.now) c.args.pieces.now) (adds_done (λ x. piece_entry c.args.name.now x ∷ []) c.args.pieces.now c.loop-piece.piece-index c.args.names c.loop-piece.names c.loop-piece-test.false c.loop-piece.invariant)
