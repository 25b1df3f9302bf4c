use Rattle.std.proofs.Common.{◌≡◌, drop}
use Rattle.mm_ranges.specs.Overlay.{laid_over}
use Rattle.mm_views.specs.State.{PiecesInside}
use Rattle.mm_views.proofs.parts.lay_all.Given as goal

abbrev pub invariant-loop-piece : goal.invariant-loop-piece
invariant-loop-piece l = record {
  same : laid_over (drop l.piece-index l.pieces) l.image ≡ laid_over l.pieces l.fn.image;
  inside : PiecesInside l.image (drop l.piece-index l.pieces);
}
