use Rattle.std.proofs.Common.{refl}
use Rattle.mm_rows_durable.proofs.Seats.{applied_stays, stays_then, kept_side}
use Rattle.mm_rows_durable.proofs.side.apply.Goals as goal

pub returns-clause-side : goal.returns-clause-side
returns-clause-side c =
    let old = c.args.side.now in
    let stays = stays_then _ _ _ (applied_stays old.held c.apply.«new».self _ c.apply.ensures.applied c.apply.ensures.same) c.remap.ensures in
    kept_side old _ c.requires stays refl refl refl

pub returns-clause-same : goal.returns-clause-same
returns-clause-same c =
    let old = c.args.side.now in
    let stays = stays_then _ _ _ (applied_stays old.held c.apply.«new».self _ c.apply.ensures.applied c.apply.ensures.same) c.remap.ensures in
    record { ring_same = stays.ring; given_same = stays.given }
