use Rattle.std.proofs.Common.{◌<◌, List, inl, map, sym, ap, ◌∙◌}
use Rattle.std.specs.Prelude.{flat_map}
use Rattle.mm_model.specs.declared.finding.What.TheVariants.{Counts}
use Rattle.mm_links.specs.Links.{has}
use Rattle.mm_nstable.specs.Nodes.{count_of}
use Rattle.mm_records.specs.Stands.{ns_in}
use Rattle.mm_walk.specs.Questions.{first_failing}
use Rattle.mm_check.specs.Findings.{Owner, joined, count_questions}
use Rattle.mm_check.specs.Phases.{owner_of}
use Rattle.mm_check.proofs.CheckLaws.{owners_below, all_mapped, placed_inside}
use Rattle.mm_check.proofs.Insides.{inside_owners, has_in}
use Rattle.mm_check.proofs.CheckSteps.{outcome_clear, outcome_finds}
use Rattle.mm_check.proofs.order.check_counts.Goals as goal

pub wrong_counts-requires : goal.wrong_counts-requires
wrong_counts-requires c =
    let image = c.args.views.now.private in
    record {
      nodes = all_mapped (λ (o : Owner). o.node < count_of (ns_in image)) owner_of c.args.owned.now _ c.requires.owned (owners_below c.args.name.now image _);
      extents = λ p h. inside_owners c.args.name.now image _ c.requires.clear.before.before.before p (ap (λ (os : List Owner). has (flat_map (λ o. o.extents) os) p) (sym c.requires.owned) ∙ h);
      records = λ p h. placed_inside c.args.name.now image _ _ _ c.requires.clear.before p (has_in _ (joined (map (λ ps. ps.items) c.args.blocks.now)) p (inl h));
    }

pub returns-in-Ok : goal.returns-in-Ok
returns-in-Ok c =
    let image = c.args.views.now.private in
    let is = c.in-Ok.ensures ∙ ap (λ (os : List Owner). first_failing (count_questions image os (map (λ ps. ps.items) c.args.records.now))) c.requires.owned in
    record {
      clear = outcome_clear _ c.in-Ok.at Counts c.outcome.result c.outcome.ensures (λ e. record { before = c.requires.clear; counted = sym is ∙ e });
      found = outcome_finds c.args.name.now image c.in-Ok.at Counts c.outcome.result c.outcome.ensures (λ p e. record { chains = _; records = _; blocks = _; before = c.requires.clear; is = sym is ∙ e });
    }
