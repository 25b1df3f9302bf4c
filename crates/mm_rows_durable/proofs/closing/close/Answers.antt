use Rattle.std.proofs.Common.{◌+◌, Some, length, refl, sym, ◌∙◌, ap, arith}
use Rattle.mm_views.specs.State.{part_of}
use Rattle.mm_held.specs.Images.{item}
use Rattle.mm_held.specs.Held.{section_of}
use Rattle.mm_rows_durable.proofs.Seats.{closed_side}
use Rattle.mm_rows_durable.proofs.Taking.{Took, has_now, others_same, entered_now}
use Rattle.mm_rows_durable.proofs.closing.close.Goals as goal

pub take_closed-requires : goal.take_closed-requires
take_closed-requires c =
    let may = c.requires in
    record { orderly = may.orderly; ready = may.ready; db = may.below; once = may.placed.unclosed; own = may.placed.own ∙ ap Some (sym c.ready-ready.ensures.same.ring_same); may_close = (c.ready-ready.ensures.ready c.if-not-ready.false).ready; room = (c.ready-ready.ensures.ready c.if-not-ready.false).room }

pub returns : goal.returns
returns c =
    let old = c.args.durable.now in
    let mid = c.ready-ready.«new».side in
    let is = c.ready-ready.ensures.side in
    let one = c.take_closed.ensures in
    let end = c.take_closed.«new».self in
    let took : Took old end c.args.db.0 mid.held.images.given c.take_closed.«new».from.images.given (item (section_of mid.held) (part_of mid.held.images.views) (length mid.held.waiting)) = record { had = one.agree; more = one.closes.given; set = one.taken; log_same = one.log } in
    record {
      orderly = one.orderly (omega (arith, is.most));
      ready = one.ready;
      side_is = closed_side mid (record mid { held = c.take_closed.«new».from; items = mid.items + 1 }) is one.closes one.most refl refl refl;
      ring = one.ring ∙ c.ready-ready.ensures.same.ring_same;
      rings_same = one.rings;
      log_same = one.log;
      ended_same = one.ended;
      has_taken = has_now old end c.args.db.0 _ _ _ took c.args.side.now c.requires;
      others = others_same old end c.args.db.0 _ _ _ took c.args.side.now c.requires;
      entered = λ some. entered_now old end c.args.db.0 _ _ _ took c.args.side.now c.requires (omega (arith, some, ap length c.ready-ready.ensures.waiting));
    }
