use Rattle.std.proofs.Common.{◌≡◌, ℕ, ◌+◌, ◌-◌, List, [], ◌∷◌, length, take, drop, arith, rules, sym, ap, ◌∙◌, subst}
use Rattle.mm_base.specs.Bytes.{part}
use Rattle.mm_base.proofs.Spelled.{AreBytes}
use Rattle.mm_section.specs.Spells.{Puts}
use Rattle.mm_section.specs.Reading.{Reads, IsHead}
use Rattle.mm_section.proofs.Found.{piece_found, bytes_from}
use Rattle.mm_section.proofs.reading.piece_at.Goals as goal

pub returns-clause-some : goal.returns-clause-some
unfolding part
returns-clause-some c =
    let now = c.tail-rest.result.now in
    let head = c.in-Some.head in
    let are : AreBytes now = subst AreBytes (sym c.tail-rest.ensures) (bytes_from c.args.at c.args.bytes.now (λ i. (c.type_inv.bytes i).fits)) in
    let is_head : IsHead head now = search rules in
    let copied : c.in_ok-there.there.items ≡ take (12 + head.len - 12) (drop 12 now) = search rules in
    let there : c.new.result ≡ take head.len (drop 12 now) = c.new.ensures ∙ copied ∙ ap (λ n. take n (drop 12 now)) (omega arith) in
    subst (λ (l : List ℕ). Reads (Puts head.file head.ofs c.new.result ∷ []) (length c.new.result + 12) l) c.tail-rest.ensures (piece_found now head c.new.result are is_head there)
