use Rattle.std.proofs.Common.{List, Vec, Global, ℕ, map, sym, subst}
use Rattle.mm_check.specs.Findings.{Clear3}
use Rattle.mm_check.proofs.CheckSteps.{finds_again}
use Rattle.mm_check.proofs.order.check_chained.Goals as goal

pub extents_in_files-requires : goal.extents_in_files-requires
extents_in_files-requires c = c.requires.clear

pub check_extents-requires : goal.check_extents-requires
check_extents-requires c = record { clear = subst (λ (vs : List (Vec (ℕ × ℕ) Global)). Clear3 c.args.name.now c.args.views.now.private (map (λ ps. ps.items) vs)) (sym c.deref.ensures.value) c.in-Ok.ensures.clear; forms = c.requires.forms }

pub returns-in-Err : goal.returns-in-Err
returns-in-Err c = record { clear = tt; found = finds_again (Vec (Vec (ℕ × ℕ) Global) Global) (Unit {0}) c.args.name.now c.args.views.now.private c.in-Err.fault c.in-Err.ensures.found }

pub returns-in-Ok : goal.returns-in-Ok
returns-in-Ok c = record { clear = c.check_extents.ensures.clear; found = c.check_extents.ensures.found }
