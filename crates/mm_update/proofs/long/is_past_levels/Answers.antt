use Rattle.std.proofs.Common.{◌≡◌, suc, length, refl, arith}
use Rattle.mm_update.specs.Paths.{behind}
use Rattle.mm_update.proofs.Steps.{some_step}
use Rattle.mm_update.proofs.long.is_past_levels.Goals as goal

pub returns-then-steps-eq-MAX_LEVELS : goal.returns-then-steps-eq-MAX_LEVELS
returns-then-steps-eq-MAX_LEVELS c = λ is.
    let some = some_step c.in-Some.here.now in
    let there : length (behind c.loop-rest.rest) ≡ suc (length some.1) = rw (c.in-Some.is, some.2) refl in
    omega (arith, there, c.loop-rest.invariant.counted, c.if-steps-eq-MAX_LEVELS.true)
