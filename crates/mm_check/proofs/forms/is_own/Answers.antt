use Rattle.std.proofs.Common.{sym, ◌∙◌}
use Rattle.mm_check.proofs.NodeLoops.{own_none, own_some}
use Rattle.mm_check.proofs.forms.is_own.Goals as goal

pub returns-in-None : goal.returns-in-None
returns-in-None c d e = sym (own_none d c.args.front.now c.args.name.now e c.in-None.ensures)

pub returns-in-Some : goal.returns-in-Some
returns-in-Some c d e = c.is_plain_name.ensures ∙ sym (own_some d c.args.front.now c.args.name.now c.in-Some.rest.now e c.in-Some.ensures)
