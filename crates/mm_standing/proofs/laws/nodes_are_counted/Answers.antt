use Rattle.mm_standing.proofs.NodeCounts.{nodes_are_counted}
use Rattle.mm_standing.proofs.laws.nodes_are_counted.Goals as goal

pub returns : goal.returns
returns c = nodes_are_counted
