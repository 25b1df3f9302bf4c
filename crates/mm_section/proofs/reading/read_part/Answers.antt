use Rattle.std.proofs.Common.{sym, ◌∙◌}
use Rattle.mm_section.proofs.Found.{wrong_part}
use Rattle.mm_section.proofs.Limits.{part_only}
use Rattle.mm_section.proofs.reading.read_part.Goals as goal

pub returns-else-is_part-clause-none : goal.returns-else-is_part-clause-none
returns-else-is_part-clause-none c =
    wrong_part c.in_ok-part.part c.in_ok-part.len c.args.bytes.now c.in_ok-part.ensures (λ is. absurd (let yes = part_only c.in_ok-part.part is in let no = sym c.is_part.ensures ∙ c.if-is_part.false in cc))
