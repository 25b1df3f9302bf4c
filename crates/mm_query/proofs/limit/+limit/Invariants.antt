use Rattle.std.proofs.Common.{◌≡◌, ◌+◌, ◌*◌, ◌≤◌, drop}
use Rattle.std.specs.Prelude.{option_map}
use Rattle.mm_bson.specs.Tree.{tree_depth, depth, values_depth}
use Rattle.mm_bson.specs.View.{tree, elements_of, values_of}
use Rattle.mm_query.specs.Bounds.{tighter, limit_at, limit_each}
use Rattle.mm_query.proofs.limit.+limit.Given as goal

abbrev pub decreases-field_limit : goal.decreases-field_limit
decreases-field_limit l = 4 * tree_depth (tree l.field.now.value) + 1

abbrev pub decreases-limit_at : goal.decreases-limit_at
decreases-limit_at l = 4 * depth (elements_of l.fields.now) + 3

abbrev pub decreases-limit_inside : goal.decreases-limit_inside
decreases-limit_inside l = 4 * tree_depth (tree l.value.now)

abbrev pub decreases-limit_each : goal.decreases-limit_each
decreases-limit_each l = 4 * values_depth (values_of l.values.now) + 3

abbrev pub invariant-limit_at-fields : goal.invariant-limit_at-fields
invariant-limit_at-fields l = record {
  same : tighter l.side (option_map (λ t. tree t.now) l.best) (limit_at l.side l.path (elements_of (drop l.field-index l.fields))) ≡ limit_at l.side l.path (elements_of l.fields);
  shallow : depth (elements_of (drop l.field-index l.fields)) ≤ depth (elements_of l.fields);
}

abbrev pub invariant-limit_each-each : goal.invariant-limit_each-each
invariant-limit_each-each l = record {
  same : tighter l.side (option_map (λ t. tree t.now) l.best) (limit_each l.side l.path (values_of (drop l.value-index l.values))) ≡ limit_each l.side l.path (values_of l.values);
  shallow : values_depth (values_of (drop l.value-index l.values)) ≤ values_depth (values_of l.values);
}
