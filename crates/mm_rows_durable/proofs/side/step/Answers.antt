use Rattle.std.proofs.Common.{refl}
use Rattle.mm_rows_durable.proofs.Seats.{stepped_side}
use Rattle.mm_rows_durable.proofs.side.step.Goals as goal

pub returns-clause-side : goal.returns-clause-side
returns-clause-side c = stepped_side c.args.side.now _ c.requires c.step_in.ensures.stays c.step_in.ensures.pass refl

pub returns-clause-same : goal.returns-clause-same
returns-clause-same c = record { ring_same = c.step_in.ensures.stays.ring; given_same = c.step_in.ensures.stays.given }
