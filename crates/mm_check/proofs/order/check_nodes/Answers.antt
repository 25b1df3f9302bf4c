use Rattle.std.proofs.Common.{sym, ◌∙◌}
use Rattle.mm_model.specs.declared.finding.What.TheVariants.{Node}
use Rattle.mm_check.proofs.CheckSteps.{outcome_clear, outcome_finds}
use Rattle.mm_check.proofs.order.check_nodes.Goals as goal

pub returns-in-Ok : goal.returns-in-Ok
returns-in-Ok c =
    record {
      clear = outcome_clear _ c.in-Ok.at Node c.outcome.result c.outcome.ensures (λ e. record { files = c.requires.files; nodes = sym (c.in-Ok.ensures c.args.name.now c.requires.forms) ∙ e });
      found = outcome_finds c.args.name.now c.args.views.now.private c.in-Ok.at Node c.outcome.result c.outcome.ensures (λ p e. record { files = c.requires.files; is = sym (c.in-Ok.ensures c.args.name.now c.requires.forms) ∙ e });
    }
