use Rattle.std.proofs.Common.{◌≡◌, ◌<◌, ◌+◌, List, ◌∷◌, drop, length, sym, ◌∙◌, ap, subst, arith}
use Rattle.std.proofs.lemmas.List.{drop_more}
use Rattle.mm_ranges.specs.Overlay.{Image, laid, laid_over}
use Rattle.mm_ranges.specs.declared.part.Piece.{Piece}
use Rattle.mm_views.specs.State.{PiecesInside}
use Rattle.mm_views.proofs.Lengths.{pieces_inside_rest}
use Rattle.mm_views.proofs.parts.lay_all.Goals as goal

pub loop-piece-preserved : goal.loop-piece-preserved
loop-piece-preserved c =
    let ps = c.args.pieces.now in
    let i = c.loop-piece.piece-index in
    let p = c.piece-item.result in
    let lt : c.loop-piece.piece-index < length c.args.pieces.now = omega arith in
    let split : drop i ps ≡ p ∷ drop (i + 1) ps = drop_more ps i p lt ∙ ap (λ (x : Piece). x ∷ drop (i + 1) ps) (sym c.piece-item.is) in
    let is : c.lay.«new».self ≡ laid p.file p.at p.bytes c.loop-piece.image = c.lay.ensures ∙ ap (λ bytes. laid p.file p.at bytes c.loop-piece.image) c.as_slice.ensures in
    record {
      same = ap (laid_over (drop (i + 1) ps)) is ∙ sym (ap (λ (xs : List Piece). laid_over xs c.loop-piece.image) split) ∙ c.loop-piece.invariant.same;
      inside = subst (λ (image : Image). PiecesInside image (drop (i + 1) ps)) (sym is) (pieces_inside_rest p (drop (i + 1) ps) c.loop-piece.image (subst (λ (xs : List Piece). PiecesInside c.loop-piece.image xs) split c.loop-piece.invariant.inside));
    }
