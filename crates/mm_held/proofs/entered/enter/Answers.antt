use Rattle.std.proofs.Common.{◌≡◌, ◌++◌, ◌∷◌, [], List, length, ◌∙◌, ap, subst, rules}
use Rattle.mm_held.specs.declared.pass.Mark.{Mark}
use Rattle.mm_held.specs.Log.{AllGiven, mark}
use Rattle.mm_held.specs.Held.{IsToldMore}
use Rattle.mm_held.proofs.entered.enter.Goals as goal

pub returns-clause-log : goal.returns-clause-log
returns-clause-log g c = c.push_reserved.ensures.items ∙ ap (λ (m : Mark). c.args.log.now.items ++ m.entry ∷ []) c.hand-mark.ensures.mark

pub returns-clause-told : goal.returns-clause-told
returns-clause-told g c = subst (λ (m : Mark). IsToldMore g.P.Probe m.entry c.args.probe.now c.tell.new.probe) c.hand-mark.ensures.mark c.tell.ensures

pub returns-clause-given : goal.returns-clause-given
returns-clause-given g c =
    let len : c.len.result ≡ length c.args.log.now.items = search rules in
    subst (λ n. (marks : List Mark) → AllGiven c.args.givers.now.items marks → AllGiven c.hand-mark.new.givers.items (marks ++ mark n c.args.section c.args.entry ∷ [])) len c.hand-mark.ensures.given
