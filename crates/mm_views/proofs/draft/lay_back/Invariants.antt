use Rattle.std.proofs.Common.{◌≡◌, vec_len}
use Rattle.std.specs.Prelude.{reverse}
use Rattle.mm_ranges.specs.Overlay.{laid_over}
use Rattle.mm_views.specs.State.{PiecesInside}
use Rattle.mm_views.proofs.draft.lay_back.Given as goal

abbrev pub invariant-loop-piece : goal.invariant-loop-piece
invariant-loop-piece l = record {
  same : laid_over (reverse l.saved.items) l.image ≡ laid_over (reverse l.fn.saved.items) l.fn.image;
  inside : PiecesInside l.image (reverse l.saved.items);
}

abbrev pub decreases-loop-piece : goal.decreases-loop-piece
decreases-loop-piece l = vec_len l.saved
