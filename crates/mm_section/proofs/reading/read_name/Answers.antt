use Rattle.std.proofs.Common.{length, take, arith, sym, ap, ◌∙◌}
use Rattle.std.specs.List.{prefix_len}
use Rattle.mm_section.proofs.Found.{passes, name_found, name_too_long, name_other_word, name_endless}
use Rattle.mm_section.proofs.reading.read_name.Goals as goal

pub returns-then-bytes-lt-WORD_LEN-clause-none : goal.returns-then-bytes-lt-WORD_LEN-clause-none
returns-then-bytes-lt-WORD_LEN-clause-none c = name_too_long c.args.bytes.now (omega arith)

pub returns-then-read_u32-ne-NAME_WORD-clause-none : goal.returns-then-read_u32-ne-NAME_WORD-clause-none
returns-then-read_u32-ne-NAME_WORD-clause-none c = name_other_word c.args.bytes.now (λ is. let other = c.if-read_u32-ne-NAME_WORD.true in other (c.read_u32.ensures ∙ is))

pub returns-then-len-rest-clause-some : goal.returns-then-len-rest-clause-some
returns-then-len-rest-clause-some c =
    let n = c.len_before_zero-len.result in
    name_found c.args.bytes.now (take n c.tail-rest.result.now) n c.if-bytes-lt-WORD_LEN.false (λ i. (c.type_inv.bytes i).fits) (sym c.read_u32.ensures ∙ c.if-read_u32-ne-NAME_WORD.false)
    (c.len_before_zero-len.ensures ∙ ap (prefix_len passes) c.tail-rest.ensures) (omega (arith, c.if-len-rest.true, ap length c.tail-rest.ensures)) (ap (take n) c.tail-rest.ensures)

pub returns-else-len-rest-clause-none : goal.returns-else-len-rest-clause-none
returns-else-len-rest-clause-none c =
    name_endless c.args.bytes.now c.len_before_zero-len.result (c.len_before_zero-len.ensures ∙ ap (prefix_len passes) c.tail-rest.ensures) (omega (arith, c.if-len-rest.false, ap length c.tail-rest.ensures))
