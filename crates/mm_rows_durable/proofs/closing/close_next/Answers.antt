use Rattle.std.proofs.Common.{refl}
use Rattle.std.proofs.lemmas.List.{length-set}
use Rattle.mm_rows_durable.proofs.Seats.{on_ok}
use Rattle.mm_rows_durable.proofs.Keeping.{there, on_ok1}
use Rattle.mm_rows_durable.proofs.Taking.{may_take, closed_next}
use Rattle.mm_rows_durable.proofs.closing.close_next.Goals as goal

pub close-requires : goal.close-requires
close-requires c =
    let bench = c.args.bench.now in
    may_take bench c.args.db.0 c.args.entry c.index_mut.result.now c.requires.closing (there bench.sides.items c.args.db.0 c.index_mut.result.now c.requires.there c.index_mut.ensures.value)

pub returns-clause-closing : goal.returns-clause-closing
returns-clause-closing c =
    let bench = c.args.bench.now in
    let at = there bench.sides.items c.args.db.0 c.index_mut.result.now c.requires.there c.index_mut.ensures.value in
    on_ok1 c.close.result (λ takes. closed_next bench _ c.args.db.0 c.args.entry c.index_mut.result.now c.close.new.side c.requires.closing at takes refl) c.close.ensures

pub returns-clause-count : goal.returns-clause-count
returns-clause-count c = on_ok c.close.result _ (length-set c.args.bench.now.sides.items c.args.db.0 c.close.new.side)
