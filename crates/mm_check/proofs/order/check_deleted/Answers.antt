use Rattle.std.proofs.Common.{List, Vec, Global, ℕ, map, sym, subst}
use Rattle.mm_check.specs.Findings.{Clear7}
use Rattle.mm_check.proofs.CheckSteps.{finds_again}
use Rattle.mm_check.proofs.order.check_deleted.Goals as goal

pub blocks_of-requires : goal.blocks_of-requires
blocks_of-requires c = record { clear = c.requires.clear; owned = c.requires.owned; seen = c.requires.seen }

pub check_placed-requires : goal.check_placed-requires
check_placed-requires c =
    record {
      clear = subst (λ (vs : List (Vec (ℕ × ℕ) Global)). Clear7 c.args.name.now c.args.views.now.private (map (λ ps. ps.items) c.args.chains.now) (map (λ ps. ps.items) c.args.records.now) (map (λ ps. ps.items) vs)) (sym c.deref.ensures.value) c.in-Ok.ensures.clear;
      owned = c.requires.owned;
      extents = c.requires.extents;
    }

pub returns-in-Err : goal.returns-in-Err
returns-in-Err c = record { clear = tt; found = finds_again (Vec (Vec (ℕ × ℕ) Global) Global) (Unit {0}) c.args.name.now c.args.views.now.private c.in-Err.fault c.in-Err.ensures.found }

pub returns-in-Ok : goal.returns-in-Ok
returns-in-Ok c = record { clear = c.check_placed.ensures.clear; found = c.check_placed.ensures.found }
