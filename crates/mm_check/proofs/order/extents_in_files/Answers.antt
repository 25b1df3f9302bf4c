use Rattle.std.proofs.Common.{[], ℕ, Vec, Global}
use Rattle.mm_model.specs.declared.finding.What.TheVariants.{Extent}
use Rattle.mm_walk.specs.Walk.{BreaksFirst}
use Rattle.mm_check.specs.Findings.{file_chains}
use Rattle.mm_check.proofs.CheckSteps.{broken_finds}
use Rattle.mm_check.proofs.order.extents_in_files.Goals as goal

pub file_extents-requires : goal.file_extents-requires
file_extents-requires c = c.requires.files

pub returns-in-Ok : goal.returns-in-Ok
returns-in-Ok c = record { clear = record { before = c.requires; whole = c.in-Ok.ensures.whole }; found = tt }

pub returns-in-Err : goal.returns-in-Err
returns-in-Err c =
    record {
      clear = tt;
      found = broken_finds (Vec (Vec (ℕ × ℕ) Global) Global) (Vec (Vec (ℕ × ℕ) Global) Global) c.args.name.now c.args.views.now.private Extent (λ at. BreaksFirst [] (file_chains c.args.views.now.private) at) c.in-Err.broken c.fault.result c.fault.ensures c.in-Err.ensures.broken (λ at h. record { before = c.requires; is = h });
    }
