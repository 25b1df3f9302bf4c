use Rattle.std.proofs.Common.{ap, ◌∙◌}
use Rattle.std.specs.Prelude.{flat_map}
use Rattle.mm_check.specs.Findings.{Owner}
use Rattle.mm_check.proofs.order.check_kept.Goals as goal

pub check_owned-requires : goal.check_owned-requires
check_owned-requires c =
    record {
      clear = c.requires.clear;
      owned = c.requires.owned;
      extents = c.deref.ensures.value ∙ c.in-Ok.ensures ∙ ap (flat_map (λ (o : Owner). o.extents)) c.requires.owned;
    }

pub returns-in-Err : goal.returns-in-Err
returns-in-Err c = record { clear = tt; found = tt }

pub returns-in-Ok : goal.returns-in-Ok
returns-in-Ok c = record { clear = c.check_owned.ensures.clear; found = c.check_owned.ensures.found }
