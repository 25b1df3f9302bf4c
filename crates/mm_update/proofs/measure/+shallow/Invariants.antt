use Rattle.std.proofs.Common.{◌+◌, ◌*◌, ◌≤◌, ◌<◌, drop}
use Rattle.std.specs.Prelude.{◌↔◌}
use Rattle.mm_bson.specs.Tree.{depth, tree_depth}
use Rattle.mm_update.specs.Drafted.{drafted, one_entry, node_tree}
use Rattle.mm_update.proofs.measure.+shallow.Given as goal

abbrev pub decreases-is_shallow : goal.decreases-is_shallow
decreases-is_shallow l = 3 * depth l.draft.now + 2

abbrev pub decreases-node_is_shallow : goal.decreases-node_is_shallow
decreases-node_is_shallow l = 3 * tree_depth (node_tree l.node.now)

abbrev pub decreases-entry_is_shallow : goal.decreases-entry_is_shallow
decreases-entry_is_shallow l = 3 * depth (one_entry l.entry.now) + 1

abbrev pub invariant-is_shallow-entries : goal.invariant-is_shallow-entries
invariant-is_shallow-entries l = record {
  same : (depth (drafted (drop l.entry-index l.entries)) < l.limit) ↔ (depth l.draft < l.limit);
  shallow : depth (drafted (drop l.entry-index l.entries)) ≤ depth l.draft;
}
