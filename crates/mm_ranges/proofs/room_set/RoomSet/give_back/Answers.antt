use Rattle.std.proofs.Common.{◌∙◌, ap, sym}
use Rattle.mm_ranges.specs.Room.{shown, given_back}
use Rattle.mm_ranges.proofs.Giving.{shown-given_back}
use Rattle.mm_ranges.proofs.room_set.RoomSet.give_back.Goals as goal

pub returns-clause-shown : goal.returns-clause-shown
returns-clause-shown c =
    ap shown (sym (ap (given_back c.loop-file.self) c.in-None.ensures.steps.0) ∙ c.loop-file.invariant.same)
    ∙ shown-given_back c.args.self.now c.args.others.now
