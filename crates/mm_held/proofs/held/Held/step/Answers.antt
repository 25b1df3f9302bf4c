use Rattle.std.proofs.Common.{◌≡◌, ◌+◌, ◌≤◌, ◌++◌, ◌∷◌, [], List, length, vec_capacity, refl, sym, ◌∙◌, ap, subst, arith}
use Rattle.mm_model.specs.declared.action.Entry.{Entry}
use Rattle.mm_tie.specs.Ends.{taken}
use Rattle.mm_held.specs.declared.pass.Mark.{Mark}
use Rattle.mm_held.specs.Meaning.{Stored}
use Rattle.mm_held.specs.Steps.{IsStep}
use Rattle.mm_held.specs.Log.{AllGiven, mark}
use Rattle.mm_held.specs.Held.{HeldView, IsEntered, entry, held_view, log_of, section_of}
use Rattle.mm_held.proofs.Sound.{same_sound, some_stands, seat_there, room_there, sits_within, within_rooms, step_sound, step_entered, section_is}
use Rattle.mm_held.proofs.Groups.{all_groups}
use Rattle.mm_held.proofs.held.Held.step.Goals as goal

pub invariant_of-self : goal.invariant_of-self
invariant_of-self g c = same_sound c.self.invariant refl c.in_err-reserve.ensures.items

pub invariant_of-self-in_err-kept : goal.invariant_of-self-in_err-kept
invariant_of-self-in_err-kept g c = same_sound c.self.invariant refl c.in_ok-reserve.ensures.items

pub step-requires : goal.step-requires
step-requires g c = record {
  stands = some_stands (g.E.Engine.means c.self.inside.engine) g.P.Probe
      (held_view c.self.inside.engine c.self.inside.probe c.self.inside.images c.self.inside.counts.items c.self.inside.log.items c.self.inside.givers.items) c.self.invariant.held;
}

pub invariant_of-self-in_err-answer : goal.invariant_of-self-in_err-answer
invariant_of-self-in_err-answer g c = same_sound c.self.invariant c.in_err-answer.ensures.err c.in_ok-reserve.ensures.items

pub overflow_cast-entry : goal.overflow_cast-entry
overflow_cast-entry g c = let lies = sits_within c.self.view_is c.self.inside.givers.items refl c.args.pass.now c.requires.seat in omega (arith, lies, c.self.invariant.sessions)

pub overflow_add-entry : goal.overflow_add-entry
overflow_add-entry g c = let lies = sits_within c.self.view_is c.self.inside.givers.items refl c.args.pass.now c.requires.seat in omega (arith, lies, c.self.invariant.sessions)

pub enter-requires-clause-seat : goal.enter-requires-clause-seat
enter-requires-clause-seat g c = seat_there c.self.view_is c.args.pass.now c.requires.seat

pub enter-requires-clause-room : goal.enter-requires-clause-room
enter-requires-clause-room g c = room_there c.self.view_is c.args.pass.now c.requires.room

pub invariant_of-self-2 : goal.invariant_of-self-2
invariant_of-self-2 g c =
    let m = g.E.Engine.means c.self.inside.engine in
    let t = g.P.Probe in
    let e : Entry = entry c.args.pass.now.place c.args.line c.in_ok-kept.kept c.in_ok-answer.answer.kept in
    let old = c.self.inside.images in
    let new = c.step.new.self in
    let step : (db : Stored) → m.stands old.views.private db → IsStep m db e.command old.views new.views e.reply =
    λ db h. subst (λ cm. IsStep m db cm old.views new.views c.in_ok-answer.answer.kept) (sym c.in_ok-kept.ensures)
    (subst (λ r. IsStep m db c.args.command.now old.views new.views r) (sym c.in_ok-answer.ensures.twice) (c.in_ok-answer.ensures.step db h)) in
    let handed = subst (λ es. (marks : List Mark) → AllGiven c.self.inside.givers.items marks → AllGiven c.enter.new.givers.items (marks ++ mark (length es) (c.last-section.result + 1) e ∷ [])) c.in_ok-reserve.ensures.items c.enter.ensures.given in
    let least : 1 ≤ c.args.pass.now.place + 1 = omega arith in
    let most = within_rooms c.self.view_is c.self.inside.givers.items refl c.args.pass.now c.requires.seat in
    same_sound
    (step_sound m t c.self.inside.engine c.self.inside.probe c.enter.new.probe old new c.self.inside.counts.items c.self.inside.log.items c.self.inside.givers.items c.enter.new.givers.items c.self.inside.closed (vec_capacity c.self.inside.counts) e
    c.self.invariant c.in_ok-answer.ensures.items step c.enter.ensures.told c.in_ok-answer.ensures.imaged least most (c.last-section.result + 1) c.last-section.ensures.last handed c.enter.ensures.sessions)
    refl (c.enter.ensures.log ∙ ap (λ es. es ++ e ∷ []) c.in_ok-reserve.ensures.items)

pub returns-clause-entered : goal.returns-clause-entered
returns-clause-entered g c =
    let m = g.E.Engine.means c.self.inside.engine in
    let t = g.P.Probe in
    let place = c.args.pass.now.place in
    let e : Entry = entry place c.args.line c.in_ok-kept.kept c.in_ok-answer.answer.kept in
    let e' : Entry = entry place c.args.line c.args.command.now c.in_ok-answer.answer.reply in
    let old = c.self.inside.images in
    let new = c.step.new.self in
    let log = c.self.inside.log.items in
    let givers = c.self.inside.givers.items in
    let counts = c.self.inside.counts.items in
    let engine = c.self.inside.engine in
    let before : HeldView g.row.E.Denot g.row.P.Denot = held_view engine c.self.inside.probe old counts log givers in
    let after : List Entry → HeldView g.row.E.Denot g.row.P.Denot = λ es. held_view engine c.enter.new.probe new counts es c.enter.new.givers.items in
    let same : e ≡ e' = ap (λ cm. entry place c.args.line cm c.in_ok-answer.answer.kept) c.in_ok-kept.ensures ∙ ap (entry place c.args.line c.args.command.now) c.in_ok-answer.ensures.twice in
    let step : (db : Stored) → m.stands old.views.private db → IsStep m db e.command old.views new.views e.reply =
    λ db h. subst (λ cm. IsStep m db cm old.views new.views c.in_ok-answer.answer.kept) (sym c.in_ok-kept.ensures)
    (subst (λ r. IsStep m db c.args.command.now old.views new.views r) (sym c.in_ok-answer.ensures.twice) (c.in_ok-answer.ensures.step db h)) in
    let entered = step_entered m t engine c.self.inside.probe c.enter.new.probe old new counts log givers c.enter.new.givers.items c.self.inside.closed (vec_capacity c.self.inside.counts) e
    c.self.invariant c.in_ok-answer.ensures.items step c.enter.ensures.told c.enter.ensures.rings c.enter.ensures.rooms in
    subst (λ v. IsEntered t e' v (after c.enter.new.log.items)) c.self.view_is
    (subst (λ es. IsEntered t e' before (after es)) (sym (c.enter.ensures.log ∙ ap (λ es. es ++ e ∷ []) c.in_ok-reserve.ensures.items))
    (subst (λ x. IsEntered t x before (after (log ++ e ∷ []))) same entered))

pub returns-clause-section : goal.returns-clause-section
returns-clause-section g c =
    let m = g.E.Engine.means c.self.inside.engine in
    let t = g.P.Probe in
    let e : Entry = entry c.args.pass.now.place c.args.line c.in_ok-kept.kept c.in_ok-answer.answer.kept in
    section_is m t c.self.inside.engine c.self.inside.probe c.enter.new.probe c.self.inside.images c.step.new.self c.self.inside.counts.items c.self.inside.log.items c.self.inside.givers.items c.enter.new.givers.items c.self.inside.closed (vec_capacity c.self.inside.counts) e
    c.self.invariant c.in_ok-answer.ensures.items (c.last-section.result + 1) c.last-section.ensures.last
    ∙ ap section_of c.self.view_is

pub returns-clause-marked : goal.returns-clause-marked
returns-clause-marked g c =
    let place = c.args.pass.now.place in
    let e : Entry = entry place c.args.line c.in_ok-kept.kept c.in_ok-answer.answer.kept in
    let same : e ≡ entry place c.args.line c.args.command.now c.in_ok-answer.answer.reply = ap (λ cm. entry place c.args.line cm c.in_ok-answer.answer.kept) c.in_ok-kept.ensures ∙ ap (entry place c.args.line c.args.command.now) c.in_ok-answer.ensures.twice in
    let len = ap length (c.in_ok-reserve.ensures.items ∙ (sym (all_groups c.self.inside.counts.items c.self.inside.log.items) ∙ ap log_of c.self.view_is)) in
    c.enter.ensures.taken ∙ (ap (λ n. taken c.args.pass.now.taker ++ mark n (c.last-section.result + 1) e ∷ []) len
    ∙ ap (λ x. taken c.args.pass.now.taker ++ mark (length (log_of c.args.self.now)) (c.last-section.result + 1) x ∷ []) same)
