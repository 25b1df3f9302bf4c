use Rattle.std.proofs.Common.{List, ℕ, Some, ◌∙◌, ap}
use Rattle.mm_bytes.specs.Files.{overwritten}
use Rattle.mm_recover.specs.Laying.{piece_entry}
use Rattle.mm_recover.proofs.LaidOver.{lays_own}
use Rattle.mm_recover.specs.Overlaid.{own_name}
use Rattle.mm_recover.proofs.overlaying.lay_one_piece.Goals as goal

pub returns : goal.returns
returns c =
    let piece = c.args.piece.now in
    lays_own (piece_entry c.args.name.now piece) (own_name c.args.file.now) c.is_own.result c.args.content (Some c.overwrite.new.file) c.is_own.ensures c.if-not-is_own.false
    (ap (λ (l : List ℕ). Some l) (c.in_ok-overwrite.ensures ∙ ap (λ (l : List ℕ). overwritten piece.at l c.bytes_in-bytes.result.items) c.as_slice.ensures ∙ ap (λ (l : List ℕ). overwritten piece.at piece.bytes l) c.bytes_in-bytes.ensures))
