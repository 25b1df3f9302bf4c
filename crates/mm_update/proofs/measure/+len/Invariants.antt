use Rattle.std.proofs.Common.{◌≡◌, ◌+◌, ◌*◌, ◌≤◌, length, drop}
use Rattle.mm_bson.specs.Tree.{depth, tree_depth}
use Rattle.mm_bson.specs.Spelling.{elements_spelling}
use Rattle.mm_update.specs.Drafted.{drafted, one_entry, node_tree}
use Rattle.mm_update.proofs.measure.+len.Given as goal

abbrev pub decreases-len : goal.decreases-len
decreases-len l = 4 * depth l.draft.now + 3

abbrev pub decreases-entry_len : goal.decreases-entry_len
decreases-entry_len l = 4 * depth (one_entry l.entry.now) + 2

abbrev pub decreases-element_len : goal.decreases-element_len
decreases-element_len l = 4 * tree_depth (node_tree l.node.now) + 1

abbrev pub decreases-node_len : goal.decreases-node_len
decreases-node_len l = 4 * tree_depth (node_tree l.node.now)

abbrev pub invariant-len-entries : goal.invariant-len-entries
invariant-len-entries l = record {
  counted : l.len + length (elements_spelling (drafted (drop l.entry-index l.entries))) ≡ 5 + length (elements_spelling l.draft);
  shallow : depth (drafted (drop l.entry-index l.entries)) ≤ depth l.draft;
}
