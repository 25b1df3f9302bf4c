use Rattle.mm_bson.proofs.Orders.{compare_total}
use Rattle.mm_bson.proofs.order.order_is_total.Goals as goal

pub returns : goal.returns
returns c = compare_total
