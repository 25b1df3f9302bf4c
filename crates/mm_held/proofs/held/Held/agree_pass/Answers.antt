use Rattle.std.proofs.Common.{◌≡◌, ◌+◌, refl, sym, ◌∙◌, ap, subst, length, arith, rules}
use Rattle.std.specs.Vec.{vec_len}
use Rattle.mm_tie.specs.Ends.{taker_ring, giver_ring}
use Rattle.mm_held.specs.Log.{LinesRise, marks_of}
use Rattle.mm_held.specs.Held.{held_view, all_marks}
use Rattle.mm_held.proofs.Marks.{given_same, same_rings, same_rooms, same_length, shown_at, sits}
use Rattle.mm_held.proofs.Sound.{givers_sound, view_same, seat_there, sits_within}
use Rattle.mm_held.proofs.held.Held.agree_pass.Goals as goal

pub index_mut-requires : goal.index_mut-requires
index_mut-requires g c =
    let len : vec_len c.self.inside.givers ≡ length c.self.inside.givers.items = search rules in
    let lies = sits_within c.self.view_is c.self.inside.givers.items refl c.args.pass.now c.requires in
    omega (arith, len, lies)

pub agree-requires : goal.agree-requires
agree-requires g c = sym (shown_at giver_ring c.self.inside.givers.items c.args.pass.now.place c.index_mut.result.now (taker_ring c.args.pass.now.taker) (seat_there c.self.view_is c.args.pass.now c.requires) c.index_mut.ensures.value)

pub invariant_of-self : goal.invariant_of-self
invariant_of-self g c =
    let places = c.self.inside.givers.items in
    let place = c.args.pass.now.place in
    let v = held_view c.self.inside.engine c.self.inside.probe c.self.inside.images c.self.inside.counts.items c.self.inside.log.items places in
    givers_sound c.self.invariant _
    (given_same places (all_marks v) place c.index_mut.result.now c.agree.new.giver c.self.invariant.given (sits_within c.self.view_is c.self.inside.givers.items refl c.args.pass.now c.requires) c.index_mut.ensures.value c.agree.ensures.given c.agree.ensures.giver.1)
    (same_length places place c.agree.new.giver)

pub returns-clause-agree : goal.returns-clause-agree
returns-clause-agree g c =
    let places = c.self.inside.givers.items in
    let place = c.args.pass.now.place in
    let v = held_view c.self.inside.engine c.self.inside.probe c.self.inside.images c.self.inside.counts.items c.self.inside.log.items places in
    let own = sits places (all_marks v) place c.index_mut.result.now c.self.invariant.given (sits_within c.self.view_is c.self.inside.givers.items refl c.args.pass.now c.requires) c.index_mut.ensures.value in
    sym c.agree.ensures.agree ∙ (own.marks ∙ ap (λ w. marks_of (place + 1) (all_marks w)) c.self.view_is)

pub returns-clause-rise : goal.returns-clause-rise
returns-clause-rise g c =
    let places = c.self.inside.givers.items in
    let place = c.args.pass.now.place in
    let v = held_view c.self.inside.engine c.self.inside.probe c.self.inside.images c.self.inside.counts.items c.self.inside.log.items places in
    let own = sits places (all_marks v) place c.index_mut.result.now c.self.invariant.given (sits_within c.self.view_is c.self.inside.givers.items refl c.args.pass.now c.requires) c.index_mut.ensures.value in
    subst LinesRise (sym own.marks ∙ c.agree.ensures.agree) own.rise

pub returns-clause-same : goal.returns-clause-same
returns-clause-same g c =
    let places = c.self.inside.givers.items in
    let place = c.args.pass.now.place in
    let at = c.index_mut.ensures.value in
    let gives = c.agree.ensures.giver in
    view_same c.self.inside.engine c.self.inside.probe c.self.inside.images c.self.inside.counts.items c.self.inside.log.items places _
    (same_rings places place c.index_mut.result.now c.agree.new.giver at gives.0) (same_rooms places place c.index_mut.result.now c.agree.new.giver at gives.1)
    ∙ c.self.view_is
