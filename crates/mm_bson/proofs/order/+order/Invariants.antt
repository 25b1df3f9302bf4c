use Rattle.std.proofs.Common.{◌≡◌, ◌+◌, ◌*◌, ◌≤◌}
use Rattle.mm_bson.specs.Tree.{tree_depth, depth, values_depth}
use Rattle.mm_bson.specs.View.{tree_in}
use Rattle.mm_bson.specs.Walk.{size, values_size}
use Rattle.mm_bson.specs.Order.{compare_elements, compare_values}
use Rattle.mm_bson.proofs.order.+order.Given as goal

abbrev pub decreases-documents : goal.decreases-documents
decreases-documents l = 3 * depth l.a.now + 2

abbrev pub decreases-lists : goal.decreases-lists
decreases-lists l = 3 * values_depth l.a.now + 2

abbrev pub decreases-element_cmp : goal.decreases-element_cmp
decreases-element_cmp l = 3 * tree_depth (tree_in l.a.now.value) + 1

abbrev pub decreases-item_cmp : goal.decreases-item_cmp
decreases-item_cmp l = 3 * tree_depth (tree_in l.a.now) + 1

abbrev pub decreases-inside : goal.decreases-inside
decreases-inside l = 3 * tree_depth (tree_in l.a.now)

abbrev pub invariant-documents-fields : goal.invariant-documents-fields
invariant-documents-fields l = (depth l.left ≤ depth l.a) × (compare_elements l.left l.right ≡ compare_elements l.a l.b)

abbrev pub decreases-documents-fields : goal.decreases-documents-fields
decreases-documents-fields l = size l.left

abbrev pub invariant-lists-items : goal.invariant-lists-items
invariant-lists-items l = (values_depth l.left ≤ values_depth l.a) × (compare_values l.left l.right ≡ compare_values l.a l.b)

abbrev pub decreases-lists-items : goal.decreases-lists-items
decreases-lists-items l = values_size l.left
