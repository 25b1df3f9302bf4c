use Rattle.std.proofs.Common.{refl}
use Rattle.mm_rows_durable.proofs.Keeping.{kept_bench, on_ok1}
use Rattle.mm_rows_durable.proofs.bench.trim.Goals as goal

pub trim-requires : goal.trim-requires
trim-requires c = record { orderly = c.requires.orderly; going = c.requires.going }

pub returns : goal.returns
returns c = on_ok1 c.trim.result (λ going. kept_bench c.args.bench.now _ c.requires c.trim.ensures.same c.trim.ensures.orderly going refl) c.trim.ensures.going
