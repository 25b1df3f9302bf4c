use Rattle.mm_keys.proofs.Decided.{difference_decides, shorter_is_less, equal_keys_agree}
use Rattle.mm_keys.proofs.order.key_order_by_fields.Goals as goal

pub returns-clause-difference : goal.returns-clause-difference
returns-clause-difference c = difference_decides

pub returns-clause-shorter : goal.returns-clause-shorter
returns-clause-shorter c = shorter_is_less

pub returns-clause-equal : goal.returns-clause-equal
returns-clause-equal c = equal_keys_agree
