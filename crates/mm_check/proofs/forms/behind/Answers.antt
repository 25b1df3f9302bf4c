use Rattle.std.proofs.Common.{◌≡◌, false, length, take, sym, ◌∙◌}
use Rattle.mm_check.specs.NodeQuestions.{begins}
use Rattle.mm_check.specs.NodeForms.{HasFront}
use Rattle.mm_check.proofs.CodeTests.{bytes_name}
use Rattle.mm_check.proofs.NodeLoops.{match_mapped}
use Rattle.mm_check.proofs.forms.behind.Goals as goal

pub returns : goal.returns
returns c =
    let same = bytes_name (take (length c.args.front.now) c.args.text.now) c.args.front.now in
    match_mapped c.strip_prefix.result _ (begins c.args.front.now c.args.text.now ≡ false) _ (λ x. HasFront c.args.front.now c.args.text.now x.now) (λ e. sym same ∙ e) (λ x q. record { begun = sym same ∙ q.0; is = q.1 }) c.strip_prefix.ensures.cases
