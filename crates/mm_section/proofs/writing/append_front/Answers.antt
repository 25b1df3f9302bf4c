use Rattle.std.proofs.Common.{◌≡◌, ℕ, ◌+◌, ◌-◌, ◌≤◌, List, ◌++◌, length, sym, ap, ◌∙◌, arith, rules, length-append}
use Rattle.mm_base.specs.Bytes.{overwritten}
use Rattle.mm_base.proofs.Parts.{length-overwritten}
use Rattle.mm_frames.specs.SectionHeader.{section_header_bytes}
use Rattle.mm_frames.specs.declared.section_header.SectionHeader.{SectionHeader}
use Rattle.mm_frames.proofs.JournalFrames.{length-section_header_bytes}
use Rattle.mm_section.specs.Spells.{parts_bytes, sealed_len}
use Rattle.mm_section.proofs.Loops.{front_done, kept_append, written_back}
use Rattle.mm_section.proofs.writing.append_front.Goals as goal

pub returns-clause-ok : goal.returns-clause-ok
returns-clause-ok c =
    let old = c.args.out.now.items in
    let section = c.args.section.now in
    let entries = parts_bytes section.parts in
    let first : SectionHeader = record { len = 0; number = section.number; file_id = c.args.id } in
    let last : SectionHeader = record { len = sealed_len entries; number = section.number; file_id = c.args.id } in
    let header_bytes = λ (n : ℕ). section_header_bytes (record { len = n; number = section.number; file_id = c.args.id }) in
    let b = c.append.new.out.items in
    let d = c.append_parts.new.out.items in
    let new = c.put_section_header.new.bytes in
    let header = length-section_header_bytes first in
    let again = length-section_header_bytes last in
    let eb : b ≡ old ++ section_header_bytes first = search rules in
    let ed : d ≡ b ++ entries = search rules in
    let room : length old + 20 ≤ length d = omega (arith, ap length ed, length-append b entries, ap length eb, length-append old (section_header_bytes first), header) in
    let start : c.len-start.result ≡ length old = omega arith in
    let len : c.len.result - c.len-start.result + 32 ≡ sealed_len entries = omega (arith, ap length ed, length-append b entries, ap length eb, length-append old (section_header_bytes first), header) in
    let wrote : new ≡ overwritten (length old) (section_header_bytes last) d =
    c.put_section_header.ensures.spelled
    ∙ ap (λ n. overwritten n (header_bytes (c.len.result - c.len-start.result + 32)) c.deref_mut.result.now) start
    ∙ ap (λ n. overwritten (length old) (header_bytes n) c.deref_mut.result.now) len
    ∙ ap (overwritten (length old) (section_header_bytes last)) c.deref_mut.ensures.value in
    written_back _ new d (ap length wrote ∙ length-overwritten (length old) (section_header_bytes last) d (omega (arith, room, again))) (omega arith)
    ∙ front_done old (section_header_bytes first) (section_header_bytes last) entries b d new (header ∙ sym again) eb ed wrote

pub returns-clause-kept : goal.returns-clause-kept
returns-clause-kept c = kept_append c.args.out.now.items _ _ (returns-clause-ok c)
