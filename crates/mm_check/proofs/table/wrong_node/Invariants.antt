use Rattle.std.proofs.Common.{◌≡◌, ℕ, ◌<◌, true, List}
use Rattle.mm_records.specs.Stands.{ns_in}
use Rattle.mm_check.specs.NodeForms.{IsForms}
use Rattle.mm_check.specs.NodeQuestions.{node_right}
use Rattle.mm_check.specs.SeenNames.{KnowsNames}
use Rattle.mm_check.proofs.table.wrong_node.Given as goal

abbrev pub invariant-loop-node : goal.invariant-loop-node
invariant-loop-node l = record {
  seen : KnowsNames (ns_in l.views.private) l.node l.seen;
  right : (d : List ℕ) → IsForms d l.forms → (j : ℕ) → j < l.node → node_right d (ns_in l.views.private) j ≡ true;
}
