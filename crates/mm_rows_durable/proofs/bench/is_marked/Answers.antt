use Rattle.std.proofs.Common.{◌≡◌, ◌+◌, arith}
use Rattle.std.proofs.lemmas.Bool.Decides.{nat_tests}
use Rattle.mm_durable.specs.Log.{synced}
use Rattle.mm_rows_durable.proofs.Keeping.{all_are_marked}
use Rattle.mm_rows_durable.proofs.bench.is_marked.Goals as goal

pub returns : goal.returns
returns c = λ is.
    let log = c.args.bench.now.durable.log in
    let same : log.last + log.mark ≡ log.last + synced log = grind (arith, nat_tests, is, c.marked.ensures, c.synced.ensures) in
    all_are_marked log c.requires.bench.orderly.sound c.requires.none same
