use Rattle.mm_btree.proofs.Segments.{changed_segment}
use Rattle.mm_btree.proofs.laws.neighbours_changed.Goals as goal

pub returns : goal.returns
returns c = changed_segment
