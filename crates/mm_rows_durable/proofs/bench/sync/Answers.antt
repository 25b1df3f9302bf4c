use Rattle.std.proofs.Common.{refl}
use Rattle.mm_rows_durable.proofs.Keeping.{gone_bench, on_ok2}
use Rattle.mm_rows_durable.proofs.bench.sync.Goals as goal

pub sync_data-requires : goal.sync_data-requires
sync_data-requires c = record { orderly = c.requires.orderly; going = c.requires.going }

pub returns : goal.returns
returns c = on_ok2 c.sync_data.result (λ same going. gone_bench c.args.bench.now _ c.requires same c.sync_data.ensures.orderly going refl) c.sync_data.ensures.same c.sync_data.ensures.going
