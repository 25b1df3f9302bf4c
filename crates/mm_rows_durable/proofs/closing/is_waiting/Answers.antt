use Rattle.std.proofs.Common.{◌≡◌, ℕ, ◌<◌, true, nat_lt, length, arith, rules}
use Rattle.std.proofs.lemmas.Bool.Decides.{nat_tests}
use Rattle.std.specs.Vec.{vec_len}
use Rattle.mm_rows_durable.proofs.Keeping.{there}
use Rattle.mm_rows_durable.proofs.closing.is_waiting.Goals as goal

positive : (n : ℕ) → nat_lt 0 n ≡ true → 0 < n
positive n is = grind (arith, nat_tests)

pub returns : goal.returns
returns c = λ is.
    let sides = c.args.bench.now.sides in
    let len : vec_len sides ≡ length sides.items = search rules in
    (c.index.result.now, (there sides.items c.args.db.0 c.index.result.now (omega (arith, len, c.len.ensures, c.if-at-len.false)) c.index.ensures, omega (arith, positive c.waiting.result is, c.waiting.ensures)))
