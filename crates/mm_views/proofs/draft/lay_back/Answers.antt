use Rattle.std.proofs.Common.{◌≡◌, List, [], ◌∷◌, sym, ◌∙◌, ap, subst}
use Rattle.std.specs.Prelude.{reverse}
use Rattle.std.proofs.lemmas.List.{reverse-append}
use Rattle.mm_ranges.specs.Overlay.{Image, laid, laid_over}
use Rattle.mm_ranges.specs.declared.part.Piece.{Piece}
use Rattle.mm_views.specs.State.{PiecesInside}
use Rattle.mm_views.proofs.Lengths.{pieces_inside_rest}
use Rattle.mm_views.proofs.draft.lay_back.Goals as goal

pub loop-piece-preserved : goal.loop-piece-preserved
loop-piece-preserved c =
    let p = c.in-Some.piece in
    let rest = c.pop.«new».self.items in
    let image = c.loop-piece.image in
    let turned : reverse c.loop-piece.saved.items ≡ p ∷ reverse rest = ap reverse c.in-Some.ensures.items ∙ reverse-append rest (p ∷ []) in
    let is : c.lay.«new».self ≡ laid p.file p.at p.bytes image = c.lay.ensures ∙ ap (λ bytes. laid p.file p.at bytes image) c.as_slice.ensures in
    record {
      same = ap (laid_over (reverse rest)) is ∙ sym (ap (λ (ps : List Piece). laid_over ps image) turned) ∙ c.loop-piece.invariant.same;
      inside = subst (λ (a : Image). PiecesInside a (reverse rest)) (sym is) (pieces_inside_rest p (reverse rest) image (subst (λ (ps : List Piece). PiecesInside image ps) turned c.loop-piece.invariant.inside));
    }
