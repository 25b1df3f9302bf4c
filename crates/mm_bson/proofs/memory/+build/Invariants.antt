use Rattle.std.proofs.Common.{◌≡◌, ◌+◌, ◌*◌, ◌≤◌}
use Rattle.mm_bson.specs.Tree.{tree_depth, depth, values_depth, append, append_values}
use Rattle.mm_bson.specs.Named.{unnamed}
use Rattle.mm_bson.specs.Spelling.{elements_spelling}
use Rattle.mm_bson.specs.View.{tree_in, elements_of, values_of}
use Rattle.mm_bson.specs.Walk.{size, EndsAt}
use Rattle.mm_bson.proofs.memory.+build.Given as goal

abbrev pub decreases-document : goal.decreases-document
decreases-document l = 4 * depth l.document.now + 3

abbrev pub decreases-list : goal.decreases-list
decreases-list l = 4 * values_depth l.list.now + 3

abbrev pub decreases-elements : goal.decreases-elements
decreases-elements l = 4 * depth l.fields + 2

abbrev pub decreases-values : goal.decreases-values
decreases-values l = 4 * depth l.fields + 2

abbrev pub decreases-put : goal.decreases-put
decreases-put l = 4 * tree_depth (tree_in l.field.now.value) + 1

abbrev pub decreases-put_item : goal.decreases-put_item
decreases-put_item l = 4 * tree_depth (tree_in l.item.now) + 1

abbrev pub decreases-value : goal.decreases-value
decreases-value l = 4 * tree_depth (tree_in l.value.now)

abbrev pub invariant-elements-fields : goal.invariant-elements-fields
invariant-elements-fields l = record {
  parts : append (elements_of l.found.items) l.rest ≡ l.fn.fields;
  lies : EndsAt l.end (elements_spelling l.rest) l.all;
  shallow : depth l.rest ≤ depth l.fn.fields;
}

abbrev pub decreases-elements-fields : goal.decreases-elements-fields
decreases-elements-fields l = size l.rest

abbrev pub invariant-values-fields : goal.invariant-values-fields
invariant-values-fields l = record {
  parts : append_values (values_of l.found.items) (unnamed l.rest) ≡ unnamed l.fn.fields;
  lies : EndsAt l.end (elements_spelling l.rest) l.all;
  shallow : depth l.rest ≤ depth l.fn.fields;
}

abbrev pub decreases-values-fields : goal.decreases-values-fields
decreases-values-fields l = size l.rest
