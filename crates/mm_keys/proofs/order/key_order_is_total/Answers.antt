use Rattle.mm_keys.proofs.Totals.{key_compare_total}
use Rattle.mm_keys.proofs.order.key_order_is_total.Goals as goal

pub returns : goal.returns
returns c = key_compare_total
