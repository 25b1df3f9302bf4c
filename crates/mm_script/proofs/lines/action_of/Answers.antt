use Rattle.std.proofs.Common.{◌≡◌, ◌∷◌, sym, ap, ◌∙◌, subst}
use Rattle.std.proofs.lemmas.Str.{is_utf8-from_IsUtf8}
use Rattle.mm_script.specs.Grammar.{setting, line_form}
use Rattle.mm_script.specs.Reading.{Gives, read, line_at}
use Rattle.mm_script.proofs.ReadSteps.{line_reads, line_fails, not_text}
use Rattle.mm_script.proofs.lines.action_of.Goals as goal

pub returns-in-Ok : goal.returns-in-Ok
returns-in-Ok c =
    let s = setting c.args.names.now c.args.stamp c.args.steps in
    let bytes = c.args.bytes.now in
    let utf8 = is_utf8-from_IsUtf8 bytes c.in-Ok.ensures.cases.1 in
    let same : read (line_form s c.args.line) (0x20 ∷ c.in-Ok.text.now) ≡ line_at s c.args.line bytes =
    ap (λ t. read (line_form s c.args.line) (0x20 ∷ t)) c.in-Ok.ensures.cases.0 ∙ sym (line_reads s c.args.line bytes utf8) in
    subst (λ r. Gives (λ a. a) c.whole_line.result r) same c.whole_line.ensures

pub returns-in-Err : goal.returns-in-Err
returns-in-Err c = line_fails (setting c.args.names.now c.args.stamp c.args.steps) c.args.line c.args.bytes.now (not_text c.args.bytes.now c.in-Err.ensures.cases.0)
