use Rattle.std.proofs.Common.{[], ◌∷◌, length, get_or, ◌∙◌, sym, ap, arith, vec_capacity}
use Rattle.std.proofs.lemmas.List.{length-append}
use Rattle.std.proofs.lemmas.Option.{get_or_from_slice_get}
use Rattle.mm_durable.specs.Log.{sealed}
use Rattle.mm_durable.specs.Intake.{lists}
use Rattle.mm_durable.proofs.Taking.{takes, images_kept, length-seated}
use Rattle.mm_durable.proofs.Sealed.{seats_full, seats_ready, not_closed, story_count, ready_as}
use Rattle.mm_durable.proofs.durable.Durable.take_closed.Goals as goal

pub take_closed-requires : goal.take_closed-requires
take_closed-requires g c =
    let old = c.args.self.now in
    let is = c.requires.orderly.intake_is in
    let full = seats_full old c.requires.orderly c.requires.ready in
    record {
      own = c.requires.own;
      ready = c.requires.may_close;
      room = c.requires.room;
      ranks = omega (arith, c.requires.db, is.ranks);
      seat = omega (arith, (is.ranked _ c.requires.db).0, full, is.count);
    }

pub returns-clause-gives : goal.returns-clause-gives
returns-clause-gives g c =
    let t = c.take_closed.ensures.takes in
    record { item = t.item; more = t.more; follows = t.follows }

pub returns-clause-orderly : goal.returns-clause-orderly
returns-clause-orderly g c = λ short.
    let old = c.args.self.now in
    let r = c.requires in
    let t = c.take_closed.ensures.takes in
    let full = seats_full old r.orderly r.ready in
    let mine = get_or_from_slice_get (lists old.intake) c.args.db.0 (g.O.Origin.given c.args.from.now) [] c.take_closed.ensures.agree in
    let count = not_closed old.log old.intake r.orderly.sound r.orderly.intake_is full c.args.db.0 r.db r.once in
    record {
      sound = r.orderly.sound;
      goes = r.orderly.goes;
      intake_is = takes old.log.names.items r.orderly.sound.names (sealed old.log) old.intake c.take_closed.«new».self r.orderly.intake_is c.args.db.0 r.db (g.O.Origin.given c.args.from.now) (g.O.Origin.given c.take_closed.«new».from) t mine (sym (ap length mine) ∙ count) full (seats_ready old r.orderly r.ready) (omega (arith, ap length t.more, length-append (g.O.Origin.given c.args.from.now) (t.item ∷ []), r.room, short));
    }

pub returns-clause-ready : goal.returns-clause-ready
returns-clause-ready g c =
    let old = c.args.self.now in
    let r = c.requires in
    let t = c.take_closed.ensures.takes in
    ready_as (length old.intake.seats.items) (length old.intake.sorted.items) (length c.take_closed.«new».self.seats.items) (length c.take_closed.«new».self.sorted.items) (length old.log.sections.items) (vec_capacity old.log.sections) r.ready
    (ap length t.in_seat ∙ length-seated (get_or old.intake.ranks.items c.args.db.0 0) t.item old.intake.seats.items) (ap length t.sorted_kept)

pub returns-clause-kept : goal.returns-clause-kept
returns-clause-kept g c = λ t u story history k.
    let old = c.args.self.now in
    let r = c.requires in
    let full = seats_full old r.orderly r.ready in
    let mine = get_or_from_slice_get (lists old.intake) c.args.db.0 (g.O.Origin.given c.args.from.now) [] c.take_closed.ensures.agree in
    let count = not_closed old.log old.intake r.orderly.sound r.orderly.intake_is full c.args.db.0 r.db r.once in
    record {
      log_is = k.log_is;
      images = images_kept old.log.names.items r.orderly.sound.names (sealed old.log) old.intake c.take_closed.«new».self r.orderly.intake_is c.args.db.0 r.db (g.O.Origin.given c.args.from.now) (g.O.Origin.given c.take_closed.«new».from) c.take_closed.ensures.takes mine (sym (ap length mine) ∙ count) story (omega (arith, story_count old.log r.orderly.sound t u story history k.log_is)) k.images;
    }

pub returns-clause-safe : goal.returns-clause-safe
returns-clause-safe g c = λ t u story history k.
    let old = c.args.self.now in
    let r = c.requires in
    let full = seats_full old r.orderly r.ready in
    let mine = get_or_from_slice_get (lists old.intake) c.args.db.0 (g.O.Origin.given c.args.from.now) [] c.take_closed.ensures.agree in
    let count = not_closed old.log old.intake r.orderly.sound r.orderly.intake_is full c.args.db.0 r.db r.once in
    record {
      leaves = k.leaves;
      given = k.given;
      images = images_kept old.log.names.items r.orderly.sound.names (sealed old.log) old.intake c.take_closed.«new».self r.orderly.intake_is c.args.db.0 r.db (g.O.Origin.given c.args.from.now) (g.O.Origin.given c.take_closed.«new».from) c.take_closed.ensures.takes mine (sym (ap length mine) ∙ count) story k.count k.images;
      count = k.count;
    }
