use Rattle.mm_btree.proofs.Parting.{split_is}
use Rattle.mm_btree.proofs.laws.parted_is_split.Goals as goal

pub returns : goal.returns
returns c = split_is
