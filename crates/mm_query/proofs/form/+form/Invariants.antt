use Rattle.std.proofs.Common.{◌≡◌, ◌+◌, ◌*◌, ◌≤◌, true, drop}
use Rattle.mm_bson.specs.Tree.{tree_depth, depth, append, values_depth, append_values}
use Rattle.mm_bson.specs.View.{tree, elements_of, values_of}
use Rattle.mm_query.specs.Form.{are_documents, wrong_filter, wrong_filters}
use Rattle.mm_query.specs.Kept.{filters_of, conditions_of, AreConditions}
use Rattle.mm_query.proofs.form.+form.Given as goal

abbrev pub decreases-filter_in : goal.decreases-filter_in
decreases-filter_in l = 6 * tree_depth (tree l.value.now) + 6

abbrev pub decreases-add_filters : goal.decreases-add_filters
decreases-add_filters l = 6 * values_depth (values_of l.values.now) + 7

abbrev pub decreases-filters : goal.decreases-filters
decreases-filters l = 6 * tree_depth (tree l.field.now.value) + 2

abbrev pub decreases-condition : goal.decreases-condition
decreases-condition l = 6 * tree_depth (tree l.field.now.value) + 3

abbrev pub decreases-add_conditions : goal.decreases-add_conditions
decreases-add_conditions l = 6 * depth (elements_of l.fields.now) + 4

abbrev pub decreases-conjunction : goal.decreases-conjunction
decreases-conjunction l = 6 * depth (elements_of l.fields.now) + 5

abbrev pub invariant-add_filters-filters : goal.invariant-add_filters-filters
invariant-add_filters-filters l = record {
  parts : append_values (filters_of l.filters.items) (values_of (drop l.value-index l.values)) ≡ append_values (filters_of l.fn.filters.items) (values_of l.values);
  wrong : wrong_filters (values_of (drop l.value-index l.values)) ≡ wrong_filters (values_of l.values);
  documents : are_documents (values_of (drop l.value-index l.values)) ≡ true;
  shallow : values_depth (values_of (drop l.value-index l.values)) ≤ values_depth (values_of l.values);
}

abbrev pub invariant-add_conditions-fields : goal.invariant-add_conditions-fields
invariant-add_conditions-fields l = record {
  parts : append (conditions_of l.conditions.items) (elements_of (drop l.field-index l.fields)) ≡ append (conditions_of l.fn.conditions.items) (elements_of l.fields);
  wrong : wrong_filter (elements_of (drop l.field-index l.fields)) ≡ wrong_filter (elements_of l.fields);
  kept : AreConditions l.conditions.items;
  shallow : depth (elements_of (drop l.field-index l.fields)) ≤ depth (elements_of l.fields);
}
