use Rattle.std.proofs.Common.{◌≡◌, ◌++◌, ◌∷◌, [], length, refl, sym, ◌∙◌, ap, subst, arith, rules}
use Rattle.std.specs.Vec.{vec_len}
use Rattle.mm_tie.specs.Ends.{taker_ring, giver_ring, giver_room}
use Rattle.mm_held.specs.Log.{IsAboveLast}
use Rattle.mm_held.proofs.Marks.{given_more, same_rings, same_rooms, same_length, seat_within, shown_at}
use Rattle.mm_held.proofs.entered.hand.Goals as goal

pub index_mut-giver-requires : goal.index_mut-giver-requires
index_mut-giver-requires c =
    let len : vec_len c.args.givers.now ≡ length c.args.givers.now.items = search rules in
    let lies = seat_within c.args.givers.now.items c.args.pass.now.place (taker_ring c.args.pass.now.taker) c.requires.seat in
    omega (arith, len, lies)

pub agree-requires : goal.agree-requires
agree-requires c = sym (shown_at giver_ring c.args.givers.now.items c.args.pass.now.place c.index_mut-giver.result.now (taker_ring c.args.pass.now.taker) c.requires.seat c.index_mut-giver.ensures.value)

pub hand_over-requires-clause-ring : goal.hand_over-requires-clause-ring
hand_over-requires-clause-ring c = c.agree.ensures.taker.0 ∙ (sym (shown_at giver_ring c.args.givers.now.items c.args.pass.now.place c.index_mut-giver.result.now (taker_ring c.args.pass.now.taker) c.requires.seat c.index_mut-giver.ensures.value) ∙ sym c.agree.ensures.giver.0)

pub hand_over-requires-clause-room : goal.hand_over-requires-clause-room
hand_over-requires-clause-room c =
    let same = ap length (c.agree.ensures.given ∙ c.agree.ensures.agree) in
    let room = shown_at giver_room c.args.givers.now.items c.args.pass.now.place c.index_mut-giver.result.now c.requires.room.0 c.requires.room.1.0 c.index_mut-giver.ensures.value in
    omega (arith, same, room, c.agree.ensures.giver.1, c.requires.room.1.1)

pub returns-clause-mark : goal.returns-clause-mark
returns-clause-mark c = c.hand_over.ensures.item

pub returns-clause-given : goal.returns-clause-given
returns-clause-given c marks all =
    let lies = seat_within c.args.givers.now.items c.args.pass.now.place (taker_ring c.args.pass.now.taker) c.requires.seat in
    let same = ap length c.agree.ensures.agree in
    let room = shown_at giver_room c.args.givers.now.items c.args.pass.now.place c.index_mut-giver.result.now c.requires.room.0 c.requires.room.1.0 c.index_mut-giver.ensures.value in
    given_more c.args.givers.now.items marks c.args.pass.now.place c.index_mut-giver.result.now c.hand_over.new.giver c.args.mark all lies c.index_mut-giver.ensures.value c.requires.session
    (c.hand_over.ensures.given ∙ ap (λ ms. ms ++ c.args.mark ∷ []) c.agree.ensures.given) (c.hand_over.ensures.giver.1 ∙ c.agree.ensures.giver.1)
    (subst (IsAboveLast c.args.mark.entry.line) (sym c.agree.ensures.agree) c.requires.line) (omega (arith, same, room, c.requires.room.1.1))

pub returns-clause-taken : goal.returns-clause-taken
returns-clause-taken c = c.hand_over.ensures.taken ∙ ap (λ ms. ms ++ c.args.mark ∷ []) c.agree.ensures.taken

pub returns-clause-sessions : goal.returns-clause-sessions
returns-clause-sessions c = same_length c.args.givers.now.items c.args.pass.now.place c.hand_over.new.giver

pub returns-clause-rings : goal.returns-clause-rings
returns-clause-rings c = same_rings c.args.givers.now.items c.args.pass.now.place c.index_mut-giver.result.now c.hand_over.new.giver c.index_mut-giver.ensures.value (c.hand_over.ensures.giver.0 ∙ c.agree.ensures.giver.0)

pub returns-clause-rooms : goal.returns-clause-rooms
returns-clause-rooms c = same_rooms c.args.givers.now.items c.args.pass.now.place c.index_mut-giver.result.now c.hand_over.new.giver c.index_mut-giver.ensures.value (c.hand_over.ensures.giver.1 ∙ c.agree.ensures.giver.1)

pub returns-clause-pass : goal.returns-clause-pass
returns-clause-pass c = (refl, c.hand_over.ensures.taker.0 ∙ c.agree.ensures.taker.0, c.hand_over.ensures.taker.1 ∙ c.agree.ensures.taker.1)
