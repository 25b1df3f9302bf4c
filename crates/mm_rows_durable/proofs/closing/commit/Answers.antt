use Rattle.std.proofs.Common.{refl, sym, ◌∙◌}
use Rattle.mm_rows_durable.proofs.Keeping.{readied_bench, if_ok}
use Rattle.mm_rows_durable.proofs.Taking.{first_turn}
use Rattle.mm_rows_durable.proofs.closing.commit.Goals as goal

pub close_and_seal-requires : goal.close_and_seal-requires
close_and_seal-requires c =
    let taken = c.ready.ensures in
    let is = readied_bench c.args.bench.now _ c.requires taken.run taken.feeds taken.orderly taken.ended refl in
    first_turn c.args.bench.now _ c.args.db.0 c.requires is (if_ok c.ready.result (sym c.is_ok-ready.ensures.value ∙ c.if-not-ready.false) taken.ready) refl (c.is_waiting-waiting.ensures c.if-not-waiting.false)
