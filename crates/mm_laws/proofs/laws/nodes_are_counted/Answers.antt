use Rattle.mm_laws.proofs.Nodes.{full_by_count}
use Rattle.mm_laws.proofs.laws.nodes_are_counted.Goals as goal

pub returns : goal.returns
returns c = full_by_count
