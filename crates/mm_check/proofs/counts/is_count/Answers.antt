use Rattle.std.proofs.Common.{ℤ, ◌^◌, ◌-◌, arith, ap, subst, ◌∙◌, rules}
use Rattle.std.specs.Prelude.{FitsSigned}
use Rattle.std.specs.Int.{w64}
use Rattle.std.proofs.lemmas.Int.{to_z-of_z}
use Rattle.mm_check.specs.RecordChain.{is_pos}
use Rattle.mm_check.proofs.PhaseLoops.{is_pos_least}
use Rattle.mm_check.proofs.counts.is_count.Goals as goal

pub returns : goal.returns
returns c m e =
    let f : FitsSigned w64 c.args.z = search rules in
    c.is_number.ensures ∙ ap (λ (z : ℤ). is_pos z c.args.n) (to_z-of_z w64 c.args.z f)
    ∙ is_pos_least c.args.z m c.args.n (2 ^ 64 - 1) e (λ k s. let lt = (subst (FitsSigned w64) s f).sfits in omega (arith, lt))
