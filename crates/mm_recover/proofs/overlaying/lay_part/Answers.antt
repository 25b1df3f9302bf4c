use Rattle.std.proofs.Common.{◌≡◌, ℕ, List, ◌++◌, ◌∙◌, ap}
use Rattle.std.proofs.lemmas.Result.{IfOk-weaker}
use Rattle.mm_ranges.specs.declared.part.Made.{Made}
use Rattle.mm_ranges.specs.declared.part.Piece.{Piece}
use Rattle.mm_recover.specs.Laying.{made_entries, piece_entries, part_entries}
use Rattle.mm_recover.proofs.LaidOver.{lays_both, lays_as}
use Rattle.mm_recover.specs.Overlaid.{own_name}
use Rattle.mm_recover.proofs.overlaying.lay_part.Goals as goal

pub returns : goal.returns
returns c =
    let name = c.as_slice-name.result.now in
    let part = c.args.part.now in
    let file = own_name c.args.file.now in
    let parts : made_entries name c.as_slice.result.now ++ piece_entries name c.as_slice-2.result.now ≡ part_entries part =
    ap (λ (n : List ℕ). made_entries n c.as_slice.result.now ++ piece_entries n c.as_slice-2.result.now) c.as_slice-name.ensures
    ∙ ap (λ (l : List Made). made_entries part.name l ++ piece_entries part.name c.as_slice-2.result.now) c.as_slice.ensures
    ∙ ap (λ (l : List Piece). made_entries part.name part.made ++ piece_entries part.name l) c.as_slice-2.ensures in
    IfOk-weaker c.lay_pieces.result _ _ (λ new lays. lays_as file _ _ c.args.content new parts (lays_both file (made_entries name c.as_slice.result.now) (piece_entries name c.as_slice-2.result.now) c.args.content c.in_ok-content.content new c.in_ok-content.ensures lays)) c.lay_pieces.ensures
