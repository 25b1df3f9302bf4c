use Rattle.std.proofs.Common.{sym, ◌∙◌}
use Rattle.std.proofs.lemmas.Result.{IfOk-weaker, IfErr-weaker}
use Rattle.mm_held.specs.declared.attempt.Fate.{Fate}
use Rattle.mm_held.specs.declared.fault.Refused.{Refused}
use Rattle.mm_held.specs.Meaning.{Stored}
use Rattle.mm_held.specs.Steps.{IsCause}
use Rattle.mm_held.specs.Fates.{IsFate, IsWeighed, IsTooMuch}
use Rattle.mm_held.proofs.Attempts.{weighed_fate, weighed_full, given_up}
use Rattle.mm_held.proofs.attempt.fate_of.Goals as goal

pub returns-then-is_ok-clause-fate : goal.returns-then-is_ok-clause-fate
returns-then-is_ok-clause-fate g c =
    let m = g.E.Engine.means c.args.engine.now in
    let old = c.args.draft.now in
    let step : (fate : Fate) → IsWeighed c.step.new.draft c.in_ok-reply.reply fate → (db : Stored) → m.stands old.image db → IsFate m db c.args.command.now old c.weighed.new.draft fate =
    λ fate w db stands. weighed_fate m db c.args.command.now old c.step.new.draft c.weighed.new.draft c.in_ok-reply.reply (sym c.is_ok.ensures ∙ c.if-is_ok.true) stands (c.in_ok-reply.ensures.answered db stands) c.weighed.ensures.same fate w in
    IfOk-weaker c.weighed.result (IsWeighed c.step.new.draft c.in_ok-reply.reply) (λ fate. (db : Stored) → m.stands old.image db → IsFate m db c.args.command.now old c.weighed.new.draft fate) step c.weighed.ensures.weighed

pub returns-then-is_ok-clause-full : goal.returns-then-is_ok-clause-full
returns-then-is_ok-clause-full g c =
    let m = g.E.Engine.means c.args.engine.now in
    let old = c.args.draft.now in
    let step : (refused : Refused) → IsTooMuch c.args.used c.step.new.draft refused → (db : Stored) → m.stands old.image db → IsCause m db c.args.command.now old.image c.args.used refused =
    λ refused w db stands. weighed_full m db c.args.command.now old c.step.new.draft c.weighed.new.draft c.in_ok-reply.reply (sym c.is_ok.ensures ∙ c.if-is_ok.true) stands (c.in_ok-reply.ensures.answered db stands) c.weighed.ensures.same c.args.used refused w in
    IfErr-weaker c.weighed.result (IsTooMuch c.args.used c.step.new.draft) (λ refused. (db : Stored) → m.stands old.image db → IsCause m db c.args.command.now old.image c.args.used refused) step c.weighed.ensures.full

pub returns-clause-fate : goal.returns-clause-fate
returns-clause-fate g c db stands =
    given_up (g.E.Engine.means c.args.engine.now) db c.args.command.now c.args.draft.now c.step.new.draft c.in_ok-reply.reply c.in_ok-twice.field-0 (sym c.is_ok.ensures ∙ c.if-is_ok.false) stands (c.in_ok-reply.ensures.answered db stands) c.in_ok-twice.ensures
