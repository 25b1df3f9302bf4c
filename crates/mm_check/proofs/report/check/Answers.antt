use Rattle.std.proofs.Common.{◌≡◌, false, sym, ◌∙◌}
use Rattle.std.proofs.lemmas.Bool.{false≢true}
use Rattle.mm_model.specs.declared.finding.What.{What}
use Rattle.mm_links.specs.Links.{Place}
use Rattle.mm_model.specs.declared.finding.Report.{Report}
use Rattle.mm_check.specs.Findings.{IsClear}
use Rattle.mm_check.specs.Reports.{no_file}
use Rattle.mm_check.specs.TheCheck.{IsFinding}
use Rattle.mm_records.specs.Shape.{Shape}
use Rattle.mm_check.specs.Standing.{HasShape}
use Rattle.mm_check.proofs.CheckSteps.{found_all, found_again}
use Rattle.mm_check.proofs.report.check.Goals as goal

pub returns-then-has_no_file : goal.returns-then-has_no_file
returns-then-has_no_file c =
    let none = sym c.has_no_file.ensures ∙ c.if-has_no_file.true in
    record {
      empty = λ e. c.empty_report.ensures;
      clear = λ e. absurd (false≢true (sym e ∙ none));
      none = λ e. absurd (false≢true (sym e ∙ none));
      there = tt;
      found = tt;
      only = tt;
      unclear = tt;
      stands = λ e. absurd (false≢true (sym e ∙ none));
      nowhere = tt;
    }

pub returns-in-Err : goal.returns-in-Err
returns-in-Err c =
    let some = sym c.has_no_file.ensures ∙ c.if-has_no_file.false in
    record {
      empty = tt;
      clear = tt;
      none = tt;
      there = found_all Report c.in-Err.fault (no_file c.args.views.now.private ≡ false) some;
      found = found_again (Unit {0}) Report c.in-Err.fault (λ f. IsFinding c.args.name.now c.args.views.now.private f.what (f.file, f.at)) c.in-Err.ensures.found;
      only = found_again (Unit {0}) Report c.in-Err.fault (λ f. (what : What) (at : Place) → IsFinding c.args.name.now c.args.views.now.private what at → (what ≡ f.what) × (at ≡ (f.file, f.at))) c.in-Err.ensures.only;
      unclear = found_again (Unit {0}) Report c.in-Err.fault (λ f. IsClear c.args.name.now c.args.views.now.private → ⊥) c.in-Err.ensures.unclear;
      stands = tt;
      nowhere = found_again (Unit {0}) Report c.in-Err.fault (λ f. (s : Shape) → HasShape c.args.name.now c.args.views.now.private s → ⊥) c.in-Err.ensures.nowhere;
    }

pub returns-in-Ok : goal.returns-in-Ok
returns-in-Ok c =
    let some = sym c.has_no_file.ensures ∙ c.if-has_no_file.false in
    record {
      empty = λ e. absurd (false≢true (sym some ∙ e));
      clear = λ e. c.report_of.ensures;
      none = λ e. c.in-Ok.ensures.none;
      there = tt;
      found = tt;
      only = tt;
      unclear = tt;
      stands = λ e. c.in-Ok.ensures.stands;
      nowhere = tt;
    }
