use Rattle.std.proofs.Common.{refl}
use Rattle.mm_rows_durable.proofs.Keeping.{kept_bench, on_ok1, if_ok2, none_logged}
use Rattle.mm_rows_durable.proofs.bench.log.Goals as goal

pub log-requires : goal.log-requires
log-requires c = record { orderly = c.requires.orderly; going = c.requires.going }

pub returns-clause-bench : goal.returns-clause-bench
returns-clause-bench c = on_ok1 c.log.result (λ going. kept_bench c.args.bench.now _ c.requires c.log.ensures.same c.log.ensures.orderly going refl) c.log.ensures.going

pub returns-clause-none : goal.returns-clause-none
returns-clause-none c = if_ok2 c.log.result (λ logged counts answer. none_logged c.args.bench.now.durable.log c.log.new.self.log logged c.log.ensures.same.run counts answer) c.log.ensures.counts c.log.ensures.answer
