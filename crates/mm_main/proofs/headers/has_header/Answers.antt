use Rattle.std.proofs.Common.{sym, ◌∙◌}
use Rattle.std.proofs.lemmas.Bool.{false≢true}
use Rattle.mm_main.proofs.HeaderSteps.{has_file_header, numbers_of, file_header_zeros}
use Rattle.mm_main.proofs.headers.has_header.Goals as goal

pub returns-then-not-has_numbers : goal.returns-then-not-has_numbers
returns-then-not-has_numbers c = (λ never. absurd (cc), λ has. absurd (false≢true (sym c.if-not-has_numbers.true ∙ c.has_numbers.ensures.1 (numbers_of c.args.file.now c.args.unused _ c.read_file_header-header.ensures has))))

pub returns : goal.returns
returns c = (
  λ zero. has_file_header c.args.file.now c.args.unused _ c.read_file_header-header.ensures (c.has_numbers.ensures.0 c.if-not-has_numbers.false) (c.is_zero.ensures.0 zero),
  λ has. c.is_zero.ensures.1 (file_header_zeros c.args.file.now c.args.unused has),
)
