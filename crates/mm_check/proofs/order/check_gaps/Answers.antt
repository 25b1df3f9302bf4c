use Rattle.std.proofs.Common.{List, sym, ap, ◌∙◌}
use Rattle.mm_model.specs.declared.finding.What.TheVariants.{Tiling}
use Rattle.mm_links.specs.Links.{Place, has, once}
use Rattle.mm_check.specs.BlockQuestions.{first_gap_of}
use Rattle.mm_check.proofs.CheckLaws.{placed_inside, placed_once}
use Rattle.mm_check.proofs.Insides.{inside_owners}
use Rattle.mm_check.proofs.CheckSteps.{outcome_clear, outcome_finds}
use Rattle.mm_check.proofs.order.check_gaps.Goals as goal

pub first_gap_of-requires : goal.first_gap_of-requires
first_gap_of-requires c =
    let image = c.args.views.now.private in
    let placed = c.deref.ensures.value ∙ c.in-Ok.ensures in
    record {
      once = ap once placed ∙ placed_once c.args.name.now image _ _ _ c.requires.clear;
      blocks = λ p h. placed_inside c.args.name.now image _ _ _ c.requires.clear p (ap (λ (ps : List Place). has ps p) (sym placed) ∙ h);
      extents = λ p h. inside_owners c.args.name.now image _ c.requires.clear.before.before p (ap (λ (ps : List Place). has ps p) (sym c.requires.extents) ∙ h);
    }

pub returns-in-Err : goal.returns-in-Err
returns-in-Err c = record { clear = tt; found = tt }

pub returns-in-Err-first_gap_of : goal.returns-in-Err-first_gap_of
returns-in-Err-first_gap_of c = record { clear = tt; found = tt }

pub returns : goal.returns
returns c =
    let image = c.args.views.now.private in
    let placed = c.deref.ensures.value ∙ c.in-Ok.ensures in
    let is = c.in-Ok-first_gap_of.ensures ∙ (λ j. first_gap_of image (placed j) (c.requires.extents j)) in
    record {
      clear = outcome_clear _ c.in-Ok-first_gap_of.at Tiling c.outcome.result c.outcome.ensures (λ e. record { before = c.requires.clear; no_gap = sym is ∙ e });
      found = outcome_finds c.args.name.now image c.in-Ok-first_gap_of.at Tiling c.outcome.result c.outcome.ensures (λ p e. record { chains = _; records = _; blocks = _; before = c.requires.clear; is = sym is ∙ e });
    }
