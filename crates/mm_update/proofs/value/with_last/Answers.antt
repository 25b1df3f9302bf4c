use Rattle.std.proofs.Common.{ap}
use Rattle.mm_bson.specs.Tree.{array}
use Rattle.mm_update.proofs.Listed.{values_at-push}
use Rattle.mm_update.proofs.value.with_last.Goals as goal

pub returns : goal.returns
returns c = rw c.in_ok-push.ensures.items (ap array (values_at-push c.args.values.items c.args.value))
