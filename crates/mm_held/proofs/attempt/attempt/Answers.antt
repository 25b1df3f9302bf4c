use Rattle.std.proofs.Common.{ap, sym, ◌∙◌, subst}
use Rattle.mm_views.specs.State.{Drafting}
use Rattle.mm_held.specs.Meaning.{Stored}
use Rattle.mm_held.specs.Steps.{IsCause}
use Rattle.mm_held.specs.Fates.{IsReadyFor, IsAdoptedFor, IsGivenUpFor, IsFate}
use Rattle.mm_held.proofs.Attempts.{adopted_step, given_up_step, begun}
use Rattle.mm_held.proofs.attempt.attempt.Goals as goal

pub fate_of-requires-clause-stands : goal.fate_of-requires-clause-stands
fate_of-requires-clause-stands g c = subst (λ (d : Drafting). (x : Stored) × (g.E.Engine.means c.args.engine.now).stands d.image x) (sym c.draft-draft.ensures) c.requires.stands

pub returns-in-Ok-Adopted-clause-twice : goal.returns-in-Ok-Adopted-clause-twice
returns-in-Ok-Adopted-clause-twice g c =
    let m = g.E.Engine.means c.args.engine.now in
    let db = c.requires.stands.0 in
    let f = c.in-Ok-Adopted.ensures.fate db (begun m db c.args.views c.draft-draft.result c.draft-draft.ensures c.requires.stands.1) in
    let a : IsAdoptedFor m db c.args.command.now c.draft-draft.result c.fate_of.new.draft c.in-Ok-Adopted.answer = subst (IsFate m db c.args.command.now c.draft-draft.result c.fate_of.new.draft) c.in-Ok-Adopted.field-0-is f in
    a.twice

pub returns-in-Ok-Adopted-clause-step : goal.returns-in-Ok-Adopted-clause-step
returns-in-Ok-Adopted-clause-step g c db stands =
    let m = g.E.Engine.means c.args.engine.now in
    let new = c.fate_of.new.draft in
    let answer = c.in-Ok-Adopted.answer in
    let f = c.in-Ok-Adopted.ensures.fate db (begun m db c.args.views c.draft-draft.result c.draft-draft.ensures stands) in
    let a = subst (IsFate m db c.args.command.now c.draft-draft.result new) c.in-Ok-Adopted.field-0-is f in
    let b = subst (λ d. IsAdoptedFor m db c.args.command.now d new answer) c.draft-draft.ensures a in
    let ready = subst (IsReadyFor c.weight-used.result new) c.in-Ok-Adopted.field-0-is c.in-Ok-Adopted.ensures.ready in
    adopted_step m db c.args.command.now c.args.views new c.adopt.result answer c.weight-used.result b (c.in-Ok-Adopted.ensures.views ∙ ap (λ (d : Drafting). d.views) c.draft-draft.ensures) ready c.adopt.ensures.adopted c.adopt.ensures.weight c.weight-used.ensures.weight

pub returns-in-Ok-GivenUp-clause-twice : goal.returns-in-Ok-GivenUp-clause-twice
returns-in-Ok-GivenUp-clause-twice g c =
    let m = g.E.Engine.means c.args.engine.now in
    let db = c.requires.stands.0 in
    let f = c.in-Ok-GivenUp.ensures.fate db (begun m db c.args.views c.draft-draft.result c.draft-draft.ensures c.requires.stands.1) in
    let a : IsGivenUpFor m db c.args.command.now c.draft-draft.result c.in-Ok-GivenUp.answer = subst (IsFate m db c.args.command.now c.draft-draft.result c.fate_of.new.draft) c.in-Ok-GivenUp.field-0-is f in
    a.twice

pub returns-in-Ok-GivenUp-clause-step : goal.returns-in-Ok-GivenUp-clause-step
returns-in-Ok-GivenUp-clause-step g c db stands =
    let m = g.E.Engine.means c.args.engine.now in
    let answer = c.in-Ok-GivenUp.answer in
    let f = c.in-Ok-GivenUp.ensures.fate db (begun m db c.args.views c.draft-draft.result c.draft-draft.ensures stands) in
    let a = subst (IsFate m db c.args.command.now c.draft-draft.result c.fate_of.new.draft) c.in-Ok-GivenUp.field-0-is f in
    let b = subst (λ d. IsGivenUpFor m db c.args.command.now d answer) c.draft-draft.ensures a in
    given_up_step m db c.args.command.now c.args.views c.give_up.result answer b stands (c.give_up.ensures.same ∙ (c.in-Ok-GivenUp.ensures.views ∙ ap (λ (d : Drafting). d.views) c.draft-draft.ensures))

pub returns-in-Err-clause-full : goal.returns-in-Err-clause-full
returns-in-Err-clause-full g c db stands =
    let m = g.E.Engine.means c.args.engine.now in
    let f = c.in-Err.ensures.full db (begun m db c.args.views c.draft-draft.result c.draft-draft.ensures stands) in
    let a = subst (λ (d : Drafting). IsCause m db c.args.command.now d.image c.weight-used.result c.in-Err.refused) c.draft-draft.ensures f in
    subst (λ used. IsCause m db c.args.command.now c.args.views.private used c.in-Err.refused) c.weight-used.ensures.weight a
