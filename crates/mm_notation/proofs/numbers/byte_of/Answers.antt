use Rattle.std.proofs.Common.{Err, sym, ap, ◌∙◌}
use Rattle.std.proofs.lemmas.Result.{err_from_is_err_and}
use Rattle.mm_notation.proofs.Digits.{byte_read, byte_refused}
use Rattle.mm_notation.proofs.numbers.byte_of.Goals as goal

pub returns-in_err-byte : goal.returns-in_err-byte
returns-in_err-byte c =
    let p = err_from_is_err_and c.from_residual.result c.from_residual.ensures.1 in
    let told = rw c.as_slice.ensures at c.in_err-byte.ensures in
    p.1 ∙ ap Err p.2 ∙ byte_refused c.args.high c.args.low c.in_err-byte.field-0.0 (sym told)

pub returns : goal.returns
returns c =
    let told = rw c.as_slice.ensures at c.in_ok-byte.ensures in
    byte_read c.args.high c.args.low c.in_ok-byte.field-0 (sym told)
