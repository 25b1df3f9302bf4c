use Rattle.std.proofs.Common.{◌∙◌}
use Rattle.mm_check.specs.NodeQuestions.{begins}
use Rattle.mm_check.specs.NodeForms.{HasFront}
use Rattle.mm_check.proofs.NodeLoops.{some_begins}
use Rattle.mm_check.proofs.forms.has_front.Goals as goal

pub returns : goal.returns
returns c =
    c.is_some.ensures ∙ some_begins c.behind.result (begins c.args.front.now c.args.text.now) (λ x. HasFront c.args.front.now c.args.text.now x.now) (λ x q. q.begun) c.behind.ensures
