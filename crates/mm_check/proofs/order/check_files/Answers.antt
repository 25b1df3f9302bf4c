use Rattle.mm_check.proofs.OneFinding.{only_found, found_or_clear, none_found}
use Rattle.mm_check.proofs.CheckStands.{some_stands, none_stands}
use Rattle.mm_check.proofs.order.check_files.Goals as goal

pub returns-in-Ok : goal.returns-in-Ok
returns-in-Ok c =
    record {
      clear = c.check_phases.ensures.clear;
      none = none_found c.args.name.now c.args.views.now.private c.check_phases.result c.check_phases.ensures.clear;
      found = c.check_phases.ensures.found;
      only = only_found c.args.name.now c.args.views.now.private c.check_phases.result c.check_phases.ensures.found;
      unclear = found_or_clear c.args.name.now c.args.views.now.private c.check_phases.result c.check_phases.ensures.found;
      stands = some_stands c.args.name.now c.args.views.now.private c.check_phases.result c.check_phases.ensures.clear;
      nowhere =
          none_stands c.args.name.now c.args.views.now.private c.check_phases.result
          (found_or_clear c.args.name.now c.args.views.now.private c.check_phases.result c.check_phases.ensures.found);
    }
