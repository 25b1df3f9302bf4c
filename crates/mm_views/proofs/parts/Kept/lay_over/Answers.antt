use Rattle.std.proofs.Common.{◌∙◌, List, ap, sym, subst}
use Rattle.mm_ranges.specs.Overlay.{Image, laid_over}
use Rattle.mm_ranges.specs.declared.part.Part.{Part}
use Rattle.mm_ranges.specs.declared.part.Piece.{Piece}
use Rattle.mm_views.specs.Fresh.{zero_files, are_files}
use Rattle.mm_views.specs.State.{PiecesInside}
use Rattle.mm_views.proofs.FreshLemmas.{files_of_made, put_for}
use Rattle.mm_views.proofs.parts.Kept.lay_over.Goals as goal

pub put_all-requires : goal.put_all-requires
put_all-requires c =
    ap are_files (c.self.invariant ∙ ap (λ (p : Part). zero_files p.made) c.self.view_is) ∙ files_of_made c.args.self.made c.requires.allowed

pub lay_all-requires : goal.lay_all-requires
lay_all-requires c =
    let put = put_for c.self.inside.part c.args.self c.self.inside.fresh.items c.args.image.now c.put_all.«new».image c.self.invariant c.self.view_is c.put_all.ensures in
    subst (λ (ps : List Piece). PiecesInside c.put_all.«new».image ps) (sym (c.as_slice.ensures ∙ ap (λ (p : Part). p.pieces) c.self.view_is))
    (subst (λ (image : Image). PiecesInside image c.args.self.pieces) (sym put) c.requires.inside)

pub returns : goal.returns
returns c =
    let put = put_for c.self.inside.part c.args.self c.self.inside.fresh.items c.args.image.now c.put_all.«new».image c.self.invariant c.self.view_is c.put_all.ensures in
    c.lay_all.ensures
    ∙ ap (λ (ps : List Piece). laid_over ps c.put_all.«new».image) (c.as_slice.ensures ∙ ap (λ (p : Part). p.pieces) c.self.view_is)
    ∙ ap (laid_over c.args.self.pieces) put
