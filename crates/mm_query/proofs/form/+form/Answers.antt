use Rattle.std.proofs.Common.{◌+◌, List, [], ◌∷◌, ◌++◌, drop, sym, ap, ◌∙◌, arith}
use Rattle.std.proofs.lemmas.Result.{err_from_is_err_and}
use Rattle.mm_bson.specs.Tree.{Elements, depth, append, values_depth, append_values}
use Rattle.mm_bson.specs.View.{tree, elements_of, values_of}
use Rattle.mm_bson.proofs.Loop.{append-none}
use Rattle.mm_query.specs.declared.kept.Condition.{Condition}
use Rattle.mm_query.specs.Form.{wrong_inside, wrong_filters, wrong_filter}
use Rattle.mm_query.specs.Kept.{filters_of, conditions_of}
use Rattle.mm_query.proofs.Firsts.{value_at, no_value_at, element_at, no_element_at}
use Rattle.mm_query.proofs.Keeps.{refused_here, passed_here, first_document, later_documents, filter_on, append_values-none, condition_added, kept_added}
use Rattle.mm_query.proofs.form.+form.Goals as goal

pub add_filters-filter_in-requires : goal.add_filters-filter_in-requires
add_filters-filter_in-requires t c =
    let value = c.value-item.result in
    let i = c.filters.value-index in
    let values = c.args.values.now in
    let split = value_at value values i c.filters-test.true c.value-item.is in
    (omega (arith, ap values_depth split, c.filters.invariant.shallow), first_document (tree value) (values_of (drop (i + 1) values)) (rw split at c.filters.invariant.documents))

pub add_filters-returns-in_err-filter-clause-form : goal.add_filters-returns-in_err-filter-clause-form
add_filters-returns-in_err-filter-clause-form t c =
    let p = err_from_is_err_and c.from_residual-in_err-filter.result c.from_residual-in_err-filter.ensures.1 in
    let value = c.value-item.result in
    let i = c.filters.value-index in
    let values = c.args.values.now in
    let split = value_at value values i c.filters-test.true c.value-item.is in
    rw (p.1, p.2) (refused_here c.in_err-filter.field-0.0 (wrong_inside (tree value)) (wrong_filters (values_of (drop (i + 1) values))) _ c.in_err-filter.ensures.form (rw split at c.filters.invariant.wrong))

pub add_filters-filters-preserved : goal.add_filters-filters-preserved
add_filters-filters-preserved t c =
    let value = c.value-item.result in
    let i = c.filters.value-index in
    let values = c.args.values.now in
    let split = value_at value values i c.filters-test.true c.value-item.is in
    let done = c.in_ok-filter.ensures in
    let more = values_of (drop (i + 1) values) in
    record {
      parts = filter_on c.filters.filters.items _ c.in_ok-filter.filter (tree value) more _ (c.push_reserved.ensures.items ∙ ap (λ (xs : List Elements). xs ++ c.in_ok-filter.filter ∷ []) c.reserve.ensures.items) done.ok (rw split at c.filters.invariant.parts);
      wrong = passed_here (wrong_inside (tree value)) (wrong_filters more) _ done.form (rw split at c.filters.invariant.wrong);
      documents = later_documents (tree value) more (rw split at c.filters.invariant.documents);
      shallow = omega (arith, ap values_depth split, c.filters.invariant.shallow);
    }

pub add_filters-returns-clause-ok : goal.add_filters-returns-clause-ok
add_filters-returns-clause-ok t c = sym (append_values-none (filters_of c.filters.filters.items)) ∙ ap (append_values (filters_of c.filters.filters.items)) (sym (no_value_at c.args.values.now c.filters.value-index c.filters-test.false)) ∙ c.filters.invariant.parts

pub add_conditions-returns-in_err-one-clause-form : goal.add_conditions-returns-in_err-one-clause-form
add_conditions-returns-in_err-one-clause-form t c =
    let p = err_from_is_err_and c.from_residual-in_err-one.result c.from_residual-in_err-one.ensures.1 in
    let field = c.field-item.result in
    let i = c.fields.field-index in
    let fields = c.args.fields.now in
    let split = element_at field fields i c.fields-test.true c.field-item.is in
    rw (p.1, p.2) (refused_here c.in_err-one.field-0.0 _ (wrong_filter (elements_of (drop (i + 1) fields))) _ c.in_err-one.ensures.form (rw split at c.fields.invariant.wrong))

pub add_conditions-fields-preserved : goal.add_conditions-fields-preserved
add_conditions-fields-preserved t c =
    let field = c.field-item.result in
    let i = c.fields.field-index in
    let fields = c.args.fields.now in
    let split = element_at field fields i c.fields-test.true c.field-item.is in
    let done = c.in_ok-one.ensures in
    let more = elements_of (drop (i + 1) fields) in
    let grown = ◌∙◌ {A = List Condition} c.push_reserved.ensures.items (ap (λ (xs : List Condition). xs ++ c.in_ok-one.one ∷ []) c.reserve.ensures.items) in
    record {
      parts = condition_added c.fields.conditions.items _ c.in_ok-one.one field.name (tree field.value) more _ grown done.ok (rw split at c.fields.invariant.parts);
      wrong = passed_here _ (wrong_filter more) _ done.form (rw split at c.fields.invariant.wrong);
      kept = kept_added c.fields.conditions.items _ c.in_ok-one.one grown c.fields.invariant.kept done.kept;
      shallow = omega (arith, ap depth split, c.fields.invariant.shallow);
    }

pub add_conditions-returns-clause-ok : goal.add_conditions-returns-clause-ok
add_conditions-returns-clause-ok t c = sym (append-none (conditions_of c.fields.conditions.items)) ∙ ap (append (conditions_of c.fields.conditions.items)) (sym (no_element_at c.args.fields.now c.fields.field-index c.fields-test.false)) ∙ c.fields.invariant.parts
