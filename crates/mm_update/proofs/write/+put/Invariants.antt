use Rattle.std.proofs.Common.{◌≡◌, ◌++◌, ◌+◌, ◌*◌, ◌≤◌, ◌<◌, ◌^◌, length, drop}
use Rattle.mm_bson.specs.Tree.{depth, tree_depth}
use Rattle.mm_bson.specs.Spelling.{elements_spelling, AreElements}
use Rattle.mm_update.specs.Drafted.{drafted, one_entry, node_tree, AreNames}
use Rattle.mm_update.proofs.write.+put.Given as goal

abbrev pub decreases-put_draft : goal.decreases-put_draft
decreases-put_draft l = 4 * depth l.draft.now + 3

abbrev pub decreases-put_entries : goal.decreases-put_entries
decreases-put_entries l = 4 * depth (drafted l.entries.now) + 2

abbrev pub decreases-put_entry : goal.decreases-put_entry
decreases-put_entry l = 4 * depth (one_entry l.entry.now) + 1

abbrev pub decreases-put_node : goal.decreases-put_node
decreases-put_node l = 4 * tree_depth (node_tree l.node.now)

abbrev pub invariant-put_entries-entries : goal.invariant-put_entries-entries
invariant-put_entries-entries l = record {
  items : l.out.items ++ elements_spelling (drafted (drop l.entry-index l.entries)) ≡ l.fn.out.items ++ elements_spelling (drafted l.entries);
  sound : AreElements (drafted (drop l.entry-index l.entries)) → AreElements (drafted l.entries);
  names : AreNames (drafted (drop l.entry-index l.entries));
  short : length (elements_spelling (drafted (drop l.entry-index l.entries))) < 2 ^ 31;
  shallow : depth (drafted (drop l.entry-index l.entries)) ≤ depth (drafted l.entries);
}
