use Rattle.std.proofs.Common.{arith}
use Rattle.mm_section.proofs.Seals.{sealed_only, too_short}
use Rattle.mm_section.proofs.sealing.unseal.Goals as goal

pub returns-then-input-lt-SECTION_HEADER_LEN-clause-none : goal.returns-then-input-lt-SECTION_HEADER_LEN-clause-none
returns-then-input-lt-SECTION_HEADER_LEN-clause-none c = too_short c.args.id c.args.input.now (omega arith)

pub returns-then-not-is_possible-clause-none : goal.returns-then-not-is_possible-clause-none
returns-then-not-is_possible-clause-none c = λ number entries rest small short is.
    let header = c.read_section_header-header in
    let u = sealed_only c.args.id number entries rest c.args.input.now header.result (omega arith) small short is header.ensures in
    absurd (let yes = u.is_sealed.possible in let no = c.if-not-is_possible.true in let said = c.is_possible.ensures in cc)

pub returns-else-is_whole-clause-none : goal.returns-else-is_whole-clause-none
returns-else-is_whole-clause-none c = λ number entries rest small short is.
    let header = c.read_section_header-header in
    let u = sealed_only c.args.id number entries rest c.args.input.now header.result (omega arith) small short is header.ensures in
    absurd (let yes = c.is_whole.ensures.1 u.is_sealed.whole in let no = c.if-is_whole.false in cc)
