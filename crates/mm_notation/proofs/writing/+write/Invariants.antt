use Rattle.std.proofs.Common.{◌≡◌, ◌+◌, ◌*◌, ◌≤◌, ◌++◌, drop}
use Rattle.mm_bson.specs.Tree.{tree_depth, depth, values_depth}
use Rattle.mm_bson.specs.View.{tree, elements_of, values_of}
use Rattle.mm_notation.specs.Written.{more_members, more_values, Grows}
use Rattle.mm_notation.proofs.writing.+write.Given as goal

abbrev pub decreases-put_value : goal.decreases-put_value
decreases-put_value l = 4 * tree_depth (tree l.value.now)

abbrev pub decreases-put_array : goal.decreases-put_array
decreases-put_array l = 4 * values_depth l.list.now + 3

abbrev pub decreases-put_more_values : goal.decreases-put_more_values
decreases-put_more_values l = 4 * values_depth (values_of l.values.now) + 1

abbrev pub decreases-put_member : goal.decreases-put_member
decreases-put_member l = 4 * tree_depth (tree l.member.now.value) + 1

abbrev pub decreases-put_document : goal.decreases-put_document
decreases-put_document l = 4 * depth l.document.now + 3

abbrev pub decreases-put_more_members : goal.decreases-put_more_members
decreases-put_more_members l = 4 * depth (elements_of l.members.now) + 2

abbrev pub invariant-put_more_values-values : goal.invariant-put_more_values-values
invariant-put_more_values-values l = record {
  written : l.out.items ++ more_values (values_of (drop l.value-index l.values)) ≡ l.fn.out.items ++ more_values (values_of l.values);
  grows : Grows l.fn.out.items l.out.items;
  shallow : values_depth (values_of (drop l.value-index l.values)) ≤ values_depth (values_of l.values);
}

abbrev pub invariant-put_more_members-members : goal.invariant-put_more_members-members
invariant-put_more_members-members l = record {
  written : l.out.items ++ more_members (elements_of (drop l.member-index l.members)) ≡ l.fn.out.items ++ more_members (elements_of l.members);
  grows : Grows l.fn.out.items l.out.items;
  shallow : depth (elements_of (drop l.member-index l.members)) ≤ depth (elements_of l.members);
}
