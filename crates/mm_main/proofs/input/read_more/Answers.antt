use Rattle.std.proofs.Common.{arith, ◌≡◌, ◌+◌, ◌++◌, length, take}
use Rattle.std.proofs.lemmas.Grind.{common_steps}
use Rattle.std.proofs.lemmas.List.{take_at, drop_at}
use Rattle.mm_main.proofs.StreamSteps.{gave}
use Rattle.mm_main.proofs.input.read_more.Goals as goal

pub returns-in-Ok-clause-came : goal.returns-in-Ok-clause-came
returns-in-Ok-clause-came g c = λ coming is.
    let kept : c.truncate.new.self.items ≡ take (length c.args.bytes.now.items + c.in-Ok.n) (c.args.bytes.now.items ++ c.read.new.out) = grind (arith, common_steps, take_at, drop_at) in
    gave _ c.args.bytes.now.items _ _ _ _ _ (c.in-Ok.ensures.bytes coming is) kept
