use Rattle.std.proofs.Common.{◌≡◌, ◌+◌, ◌++◌, ◌∷◌, [], length, get_or, take, sym, subst, arith}
use Rattle.std.proofs.lemmas.List.{take_more, length-take-le}
use Rattle.mm_held.specs.declared.pass.Pass.{Pass}
use Rattle.mm_held.specs.Seats.{IsSeat, AreSeats}
use Rattle.mm_held.proofs.Seating.{seats_push}
use Rattle.mm_held.proofs.seats.seats.Goals as goal

pub loop-place-preserved : goal.loop-place-preserved
loop-place-preserved c =
    let rooms = c.args.rooms.now in
    let place = c.loop-place.place in
    let pass : Pass = record { place = place; taker = c.in_ok-giver.taker } in
    let more : take (place + 1) rooms ≡ take place rooms ++ get_or rooms place 0 ∷ [] = take_more rooms place 0 c.loop-place-test.true in
    let len : length (take place rooms) ≡ place = length-take-le place rooms (omega (arith, c.loop-place-test.true)) in
    let seat : IsSeat (0 + length (take place rooms)) (get_or rooms place 0) c.in_ok-giver.giver pass = record {
      sits = omega (arith, len);
      ring = c.in_ok-giver.ensures.ring;
      giver = c.in_ok-giver.ensures.room.0;
      taker = c.in_ok-giver.ensures.room.1;
      ungiven = c.in_ok-giver.ensures.empty.0;
      untaken = c.in_ok-giver.ensures.empty.1;
    } in
    subst (λ gs. AreSeats 0 (take (place + 1) rooms) gs c.push-in-loop-place.new.self.items) (sym c.in_ok-push.ensures.items)
    (subst (λ ps. AreSeats 0 (take (place + 1) rooms) (c.loop-place.givers.items ++ c.in_ok-giver.giver ∷ []) ps) (sym c.in_ok-push-2.ensures.items)
    (subst (λ rs. AreSeats 0 rs (c.loop-place.givers.items ++ c.in_ok-giver.giver ∷ []) (c.loop-place.passes.items ++ pass ∷ [])) (sym more)
    (seats_push 0 (take place rooms) c.loop-place.givers.items c.loop-place.passes.items (get_or rooms place 0) c.in_ok-giver.giver pass c.loop-place.invariant seat)))
