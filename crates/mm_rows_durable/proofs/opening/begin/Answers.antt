use Rattle.std.proofs.Common.{◌≡◌, length, arith}
use Rattle.mm_rows_durable.proofs.Keeping.{new_bench, named_databases, named_count, fed_length, fed_first}
use Rattle.mm_rows_durable.proofs.opening.begin.Goals as goal

pub start-requires-clause-some : goal.start-requires-clause-some
start-requires-clause-some c = omega (arith, c.requires.some, named_count c.args.count c.in_ok-names.names.items c.requires.few c.in_ok-names.ensures)

pub start-requires-clause-few : goal.start-requires-clause-few
start-requires-clause-few c = omega (arith, c.requires.few, named_count c.args.count c.in_ok-names.names.items c.requires.few c.in_ok-names.ensures)

pub start-requires-clause-names : goal.start-requires-clause-names
start-requires-clause-names c = named_databases c.args.count c.in_ok-names.names.items c.requires.few c.in_ok-names.ensures

pub start-requires-clause-feeds : goal.start-requires-clause-feeds
start-requires-clause-feeds c =
    let long = fed_length c.fill.new.sides.items c.fill.new.feeds.items c.in_ok-fill.ensures.fed in
    omega (arith, long, c.in_ok-fill.ensures.count, named_count c.args.count c.in_ok-names.names.items c.requires.few c.in_ok-names.ensures)

pub start-requires-clause-first : goal.start-requires-clause-first
start-requires-clause-first c = λ d lt.
    let long = fed_length c.fill.new.sides.items c.fill.new.feeds.items c.in_ok-fill.ensures.fed in
    fed_first c.fill.new.sides.items c.fill.new.feeds.items c.in_ok-fill.ensures.fed d (omega (arith, lt, long, c.in_ok-fill.ensures.count, named_count c.args.count c.in_ok-names.names.items c.requires.few c.in_ok-names.ensures))

pub returns-in-Ok : goal.returns-in-Ok
returns-in-Ok c =
    let n : length c.fill.new.sides.items ≡ length c.in_ok-names.names.items = omega (arith, c.in_ok-fill.ensures.count, named_count c.args.count c.in_ok-names.names.items c.requires.few c.in_ok-names.ensures) in
    new_bench _ c.in_ok-names.names.items c.fill.new.feeds.items c.in-Ok.ensures.orderly c.in-Ok.ensures.going c.in-Ok.ensures.begun c.in-Ok.ensures.feeds c.in_ok-fill.ensures.fed n
