use Rattle.std.proofs.Common.{[], ◌∷◌}
use Rattle.mm_recover.specs.Laying.{piece_entry}
use Rattle.mm_recover.proofs.LayAsks.{map_all}
use Rattle.mm_recover.proofs.LaidOver.{lays_none, lays_next, lays_done, lays_as}
use Rattle.mm_recover.specs.Overlaid.{own_name}
use Rattle.mm_recover.proofs.overlaying.lay_pieces.Goals as goal

pub loop-piece-init : goal.loop-piece-init
loop-piece-init c = lays_none (own_name c.args.file.now) c.args.content

pub loop-piece-preserved : goal.loop-piece-preserved
loop-piece-preserved c = lays_next (λ x. piece_entry c.args.name.now x ∷ []) (own_name c.args.file.now) c.args.pieces.now c.loop-piece.piece-index c.piece-item.result c.loop-piece-test.true c.piece-item.is c.args.content c.loop-piece.content c.in_ok-content.content c.loop-piece.invariant c.in_ok-content.ensures

pub returns : goal.returns
returns c = lays_as (own_name c.args.file.now) _ _ c.args.content c.loop-piece.content (map_all (piece_entry c.args.name.now) c.args.pieces.now) (lays_done (λ x. piece_entry c.args.name.now x ∷ []) (own_name c.args.file.now) c.args.pieces.now c.loop-piece.piece-index c.args.content c.loop-piece.content c.loop-piece-test.false c.loop-piece.invariant)
