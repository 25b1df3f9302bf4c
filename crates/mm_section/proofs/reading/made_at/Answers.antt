use Rattle.std.proofs.Common.{ℕ, List, [], ◌∷◌, arith, sym, ◌∙◌, subst}
use Rattle.mm_base.proofs.Spelled.{AreBytes}
use Rattle.mm_section.specs.Spells.{Makes}
use Rattle.mm_section.specs.Reading.{Reads, HasNoMade}
use Rattle.mm_section.proofs.Found.{made_found, made_too_long, made_other_word, bytes_from}
use Rattle.mm_section.proofs.reading.made_at.Goals as goal

pub returns-then-rest-lt-MADE_ENTRY_LEN-clause-none : goal.returns-then-rest-lt-MADE_ENTRY_LEN-clause-none
returns-then-rest-lt-MADE_ENTRY_LEN-clause-none c = subst HasNoMade c.tail-rest.ensures (made_too_long c.tail-rest.result.now c.if-rest-lt-MADE_ENTRY_LEN.true)

pub returns-then-read_u32-clause-none : goal.returns-then-read_u32-clause-none
returns-then-read_u32-clause-none c = subst HasNoMade c.tail-rest.ensures (made_other_word c.tail-rest.result.now (λ is. let no = c.if-read_u32.true in no (c.read_u32.ensures ∙ is)))

pub returns-clause-some : goal.returns-clause-some
returns-clause-some c =
    let entry = c.read_made_entry-entry.result in
    let are : AreBytes c.tail-rest.result.now = subst AreBytes (sym c.tail-rest.ensures) (bytes_from c.args.at c.args.bytes.now (λ i. (c.type_inv.bytes i).fits)) in
    subst (λ (l : List ℕ). Reads (Makes entry.file entry.len ∷ []) 12 l) c.tail-rest.ensures
    (made_found c.tail-rest.result.now entry c.if-rest-lt-MADE_ENTRY_LEN.false are (sym c.read_u32.ensures ∙ c.if-read_u32.false) c.read_made_entry-entry.ensures)
