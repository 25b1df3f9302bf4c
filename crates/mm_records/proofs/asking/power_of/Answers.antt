use Rattle.std.proofs.Common.{◌≡◌, ℕ, ◌+◌, ◌^◌, inl, inr, refl, ap, arith}
use Rattle.std.proofs.lemmas.Bool.{cases_lt}
use Rattle.mm_records.proofs.Askings.{power_is, power_bound, power_twice}
use Rattle.mm_records.proofs.asking.power_of.Goals as goal

pub loop-step-init : goal.loop-step-init
loop-step-init c = record { is = refl; less = λ j lt. absurd (omega (arith, lt)); most = omega arith }

pub returns-then-size-len-clause-is : goal.returns-then-size-len-clause-is
returns-then-size-len-clause-is c = power_is c.args.len c.loop-step.size c.loop-step.step c.loop-step.invariant.is c.if-size-len.true c.loop-step.invariant.less

pub returns-then-size-len-clause-most : goal.returns-then-size-len-clause-most
returns-then-size-len-clause-most c = power_bound c.args.len c.loop-step.size (power_is c.args.len c.loop-step.size c.loop-step.step c.loop-step.invariant.is c.if-size-len.true c.loop-step.invariant.less) c.requires

pub loop-step-preserved : goal.loop-step-preserved
loop-step-preserved c =
    let few = c.if-size-len.false in
    let le = c.requires in
    let is = c.loop-step.invariant.is in
    record {
      is = power_twice c.loop-step.size c.loop-step.step is;
      less = λ j lt. elim (cases_lt j c.loop-step.step) [
        | inl old ↦ c.loop-step.invariant.less j old
        | inr here ↦ let same : j ≡ c.loop-step.step = omega (arith, lt, here) in let p : 2 ^ (5 + j) ≡ 2 ^ (5 + c.loop-step.step) = ap (λ (k : ℕ). 2 ^ (5 + k)) same in omega (arith, p, is, few)
      ];
      most = omega (arith, few, le);
    }

pub unreachable-requires : goal.unreachable-requires
unreachable-requires c =
    let past = c.loop-step-test.false in
    let le = c.requires in
    let few = c.loop-step.invariant.less 17 (omega (arith, past)) in
    omega (arith, few, le)
