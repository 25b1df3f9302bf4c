use Rattle.std.proofs.Common.{arith}
use Rattle.mm_generator.proofs.Steps.{flush_on}
use Rattle.mm_generator.proofs.lines.push_flushes.Goals as goal

-- src/lines.rt:64:5
pub databases-preserved : goal.databases-preserved
databases-preserved c = record {
  within = omega (arith, c.databases-test.true);
  so_far = flush_on c.args.line c.databases.db c.args.databases c.databases.actions.items c.push.new.self.items _ c.databases-test.true c.in_ok-push.ensures.items c.databases.invariant.so_far;
}
