use Rattle.std.proofs.Common.{refl}
use Rattle.mm_rows_durable.proofs.Keeping.{kept_bench, on_ok1}
use Rattle.mm_rows_durable.proofs.bench.mark.Goals as goal

pub mark_lsn-requires : goal.mark_lsn-requires
mark_lsn-requires c = record { orderly = c.requires.orderly; going = c.requires.going }

pub returns : goal.returns
returns c = on_ok1 c.mark_lsn.result (λ going. kept_bench c.args.bench.now _ c.requires c.mark_lsn.ensures.same c.mark_lsn.ensures.orderly going refl) c.mark_lsn.ensures.going
