use Rattle.std.proofs.Common.{arith}
use Rattle.std.proofs.lemmas.Bool.Decides.{nat_tests}
use Rattle.mm_section.proofs.Found.{piece_too_long, piece_other}
use Rattle.mm_section.proofs.reading.head_of.Goals as goal

pub returns-then-bytes-lt-ENTRY_HEAD_LEN-clause-none : goal.returns-then-bytes-lt-ENTRY_HEAD_LEN-clause-none
returns-then-bytes-lt-ENTRY_HEAD_LEN-clause-none c = piece_too_long c.args.bytes.now (omega arith)

pub returns-else-is_range_len-clause-none : goal.returns-else-is_range_len-clause-none
returns-else-is_range_len-clause-none c = piece_other c.args.bytes.now c.read_entry_head-head.result c.read_entry_head-head.ensures (λ some short inside. absurd (let no = c.if-is_range_len.false in let is = c.is_range_len.ensures in grind (arith, nat_tests)))
