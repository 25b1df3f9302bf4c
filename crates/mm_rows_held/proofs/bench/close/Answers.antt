use Rattle.std.proofs.Common.{sym, subst}
use Rattle.mm_rows_held.specs.Bench.{IsBench}
use Rattle.mm_rows_held.proofs.Benches.{ready_now, stays_ready, sat_same, fed_stays, fed_room, fed_more}
use Rattle.mm_rows_held.proofs.bench.close.Goals as goal

pub close-requires-clause-ready : goal.close-requires-clause-ready
close-requires-clause-ready c = ready_now c.args.bench.now.held c.ready.new.self c.in-Ok.ensures.ok

pub close-requires-clause-room : goal.close-requires-clause-room
close-requires-clause-room c =
    let old = c.args.bench.now in
    let mid = c.ready.new.self in
    fed_room mid old.items old.feed (fed_stays old.held mid old.items old.feed (stays_ready old.held mid c.in-Ok.ensures.ok) c.requires.fed) c.if-bench-gt-ROOM.false

pub close-requires-clause-own : goal.close-requires-clause-own
close-requires-clause-own c =
    let old = c.args.bench.now in
    let mid = c.ready.new.self in
    (fed_stays old.held mid old.items old.feed (stays_ready old.held mid c.in-Ok.ensures.ok) c.requires.fed).own

pub returns-in-Ok : goal.returns-in-Ok
returns-in-Ok c =
    let old = c.args.bench.now in
    let mid = c.ready.new.self in
    let new = c.close.new.self in
    let stays = stays_ready old.held mid c.in-Ok.ensures.ok in
    let closes = c.close.ensures.closes in
    record {
      first = sat_same mid new old.line old.first closes.rings closes.rooms (sat_same old.held mid old.line old.first stays.rings stays.rooms c.requires.first);
      second = sat_same mid new old.line old.second closes.rings closes.rooms (sat_same old.held mid old.line old.second stays.rings stays.rooms c.requires.second);
      fed = fed_more mid new old.items old.feed c.close.new.feed c.close.result (fed_stays old.held mid old.items old.feed stays c.requires.fed) c.close.ensures.given c.close.ensures.most c.close.ensures.own c.close.ensures.ring.0;
    }

pub returns-in-Err : goal.returns-in-Err
returns-in-Err c =
    let old = c.args.bench.now in
    subst (λ held. IsBench (record old { held = held })) (sym c.in-Err.ensures.err) c.requires
