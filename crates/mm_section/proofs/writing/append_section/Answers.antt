use Rattle.std.proofs.Common.{◌≡◌, ℕ, ◌+◌, ◌-◌, List, ◌++◌, length, drop, sym, ap, ◌∙◌, arith, rules, length-append, length-drop}
use Rattle.std.proofs.lemmas.List.{take_all}
use Rattle.mm_base.specs.Bytes.{zeros}
use Rattle.mm_frames.specs.Footer.{footer_bytes}
use Rattle.mm_frames.specs.SectionHeader.{section_header_bytes}
use Rattle.mm_frames.specs.declared.footer.Footer.{Footer}
use Rattle.mm_frames.specs.declared.section_header.SectionHeader.{SectionHeader}
use Rattle.mm_frames.proofs.JournalFrames.{length-section_header_bytes}
use Rattle.mm_section.specs.Spells.{parts_bytes, sealed_len, front_bytes, hash_of, padding}
use Rattle.mm_section.proofs.Loops.{section_done, appended_is}
use Rattle.mm_section.proofs.writing.append_section.Goals as goal

pub returns-clause-ok : goal.returns-clause-ok
returns-clause-ok c =
    let old = c.args.out.now.items in
    let section = c.args.section.now in
    let entries = parts_bytes section.parts in
    let front = front_bytes section.number c.args.id entries in
    let header : SectionHeader = record { len = sealed_len entries; number = section.number; file_id = c.args.id } in
    let footer : Footer = record { hash = hash_of front } in
    let b = c.append_front.new.out.items in
    let eb : b ≡ old ++ front = search rules in
    let long : length front ≡ 20 + length entries = omega (arith, length-append (section_header_bytes header) entries, length-section_header_bytes header) in
    let start : c.len-start.result ≡ length old = omega arith in
    let hashed : c.hash.result ≡ hash_of front =
    c.hash.ensures ∙ ap hash_of (take_all (length c.deref.result.now - c.len-start.result) (drop c.len-start.result c.deref.result.now) (omega (arith, length-drop c.len-start.result c.deref.result.now)) ∙ ap (λ n. drop n c.deref.result.now) start ∙ ap (drop (length old)) c.deref.ensures.value ∙ appended_is old front b eb) in
    let wrote : c.append.new.out.items ≡ b ++ c.footer_frame.result = search rules in
    let ed : c.append.new.out.items ≡ b ++ footer_bytes footer =
    wrote ∙ ap (λ (l : List ℕ). b ++ l) (c.footer_frame.ensures.spelled ∙ ap (λ (h : List ℕ). footer_bytes (record { hash = h })) hashed) in
    let len : c.len.result - c.len-start.result + 32 ≡ sealed_len entries = omega (arith, ap length eb, length-append old front, long) in
    let padded : c.padding.result ≡ padding (sealed_len entries) = c.padding.ensures.is ∙ ap padding len in
    let filled : c.append_zeros.new.out.items ≡ c.append.new.out.items ++ zeros c.padding.result = search rules in
    let en : c.append_zeros.new.out.items ≡ c.append.new.out.items ++ zeros (padding (sealed_len entries)) = filled ∙ ap (λ n. c.append.new.out.items ++ zeros n) padded in
    section_done old front (footer_bytes footer) (zeros (padding (sealed_len entries))) b c.append.new.out.items _ eb ed en
