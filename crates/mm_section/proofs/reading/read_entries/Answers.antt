use Rattle.std.proofs.Common.{◌≡◌, ◌+◌, ℕ, List, length, drop, sym, ◌∙◌, ap, subst, arith, rules, refl}
use Rattle.mm_ranges.specs.declared.part.Part.{Part}
use Rattle.mm_section.specs.Reading.{ReadsMade, ReadsPieces, ReadsPart}
use Rattle.mm_section.proofs.Found.{entries_found, part_same, PartOf}
use Rattle.mm_section.proofs.reading.read_entries.Goals as goal

pub returns : goal.returns
returns c =
    let bytes = c.args.bytes.now in
    let name = c.args.name.now in
    let made = c.in_ok-made.made.items in
    let pieces = c.in_ok-pieces.pieces.items in
    let at = length name + 5 in
    let k = c.in_ok-made.made_len in
    let j = c.in_ok-pieces.pieces_len in
    let m : ReadsMade made k (drop at bytes) = subst (λ (l : List ℕ). ReadsMade made k l) c.tail.ensures c.in_ok-made.ensures in
    let p : ReadsPieces pieces j (drop (at + k) bytes) = subst (λ (l : List ℕ). ReadsPieces pieces j l) c.tail-2.ensures c.in_ok-pieces.ensures in
    let copied : c.in_ok-to_vec.field-0.items ≡ name = search rules in
    let same : PartOf c.new.result c.new-2.result c.new-3.result ≡ PartOf name made pieces = part_same c.new.result name c.new-2.result made c.new-3.result pieces (c.new.ensures ∙ copied) c.new-2.ensures c.new-3.ensures in
    subst (λ (x : Part). ReadsPart x (at + k + j) bytes) (sym same) (entries_found name made pieces at k j bytes refl c.requires m p)
