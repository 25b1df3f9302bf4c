use Rattle.std.proofs.Common.{map}
use Rattle.mm_check.specs.Findings.{IsClear, Clear9}
use Rattle.mm_check.proofs.CheckSteps.{on_ok_mapped}
use Rattle.mm_check.proofs.order.check_placed.Goals as goal

pub check_gaps-requires : goal.check_gaps-requires
check_gaps-requires c = record { clear = c.requires.clear; extents = c.requires.extents }

pub check_counts-requires : goal.check_counts-requires
check_counts-requires c = record { clear = c.in-Ok.ensures.clear; owned = c.requires.owned }

pub returns-in-Err : goal.returns-in-Err
returns-in-Err c = record { clear = tt; found = c.in-Err.ensures.found }

pub returns-in-Ok : goal.returns-in-Ok
returns-in-Ok c =
    record {
      clear = on_ok_mapped c.check_counts.result (Clear9 c.args.name.now c.args.views.now.private (map (λ ps. ps.items) c.args.chains.now) (map (λ ps. ps.items) c.args.records.now) (map (λ ps. ps.items) c.args.blocks.now)) (IsClear c.args.name.now c.args.views.now.private)
          (λ h. record { chains = _; records = _; blocks = _; clear = h }) c.check_counts.ensures.clear;
      found = c.check_counts.ensures.found;
    }
