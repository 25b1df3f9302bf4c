use Rattle.mm_btree.proofs.Rooting.{sorted_ins}
use Rattle.mm_btree.proofs.laws.order_is_kept.Goals as goal

pub returns : goal.returns
returns c = λ lt. sorted_ins lt
