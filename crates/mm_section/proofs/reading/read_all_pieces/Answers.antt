use Rattle.std.proofs.Common.{◌≡◌, ◌+◌, ℕ, List, [], ◌∷◌, length, drop, map, sym, ◌∙◌, ap, subst, arith, rules}
use Rattle.mm_ranges.specs.declared.part.Piece.{Piece}
use Rattle.mm_section.specs.Spells.{put_of}
use Rattle.mm_section.specs.Reading.{Reads}
use Rattle.mm_section.proofs.Found.{reads_more}
use Rattle.mm_section.proofs.reading.read_all_pieces.Goals as goal

pub loop-all-preserved : goal.loop-all-preserved
loop-all-preserved c =
    let at = c.loop-all.at in
    let bytes = c.args.bytes.now in
    let piece = c.in-Some.piece in
    let one : Reads (put_of piece ∷ []) (length piece.bytes + 12) (drop at bytes) = search rules in
    let more = reads_more put_of c.loop-all.all.items piece at (length piece.bytes + 12) bytes c.loop-all.invariant one in
    let end : at + (length piece.bytes + 12) ≡ at + (12 + c.len.result) = omega (arith, c.len.ensures) in
    subst (λ (n : ℕ). Reads (map put_of c.push.new.self.items) n bytes) end (subst (λ (all : List Piece). Reads (map put_of all) (at + (length piece.bytes + 12)) bytes) (sym c.in_ok-push.ensures.items) more)
