use Rattle.std.proofs.Common.{◌+◌, List, [], ◌∷◌, ◌++◌, drop, sym, ap, ◌∙◌}
use Rattle.std.proofs.lemmas.Result.{err_from_is_err_and}
use Rattle.mm_bson.specs.Tree.{append}
use Rattle.mm_bson.specs.View.{tree, elements_of}
use Rattle.mm_bson.proofs.Loop.{append-none}
use Rattle.mm_query.specs.declared.kept.Test.{Test}
use Rattle.mm_query.specs.Form.{operator_of, wrong, wrong_operators}
use Rattle.mm_query.specs.Kept.{tests_of}
use Rattle.mm_query.proofs.Firsts.{element_at, no_element_at}
use Rattle.mm_query.proofs.Keeps.{test_on, refused_here, passed_here}
use Rattle.mm_query.proofs.form.add_tests.Goals as goal

pub returns-in_err-test-clause-form : goal.returns-in_err-test-clause-form
returns-in_err-test-clause-form c =
    let p = err_from_is_err_and c.from_residual-in_err-test.result c.from_residual-in_err-test.ensures.1 in
    let fields = c.args.fields.now in
    let i = c.loop-field.field-index in
    let field = c.field-item.result in
    let split = element_at field fields i c.loop-field-test.true c.field-item.is in
    rw (p.1, p.2) (refused_here c.in_err-test.field-0.0 (wrong field.name (tree field.value) (operator_of field.name)) (wrong_operators (elements_of (drop (i + 1) fields))) _ c.in_err-test.ensures.form (rw split at c.loop-field.invariant.wrong))

pub loop-field-preserved : goal.loop-field-preserved
loop-field-preserved c =
    let fields = c.args.fields.now in
    let i = c.loop-field.field-index in
    let field = c.field-item.result in
    let split = element_at field fields i c.loop-field-test.true c.field-item.is in
    let done = c.in_ok-test.ensures in
    let more = elements_of (drop (i + 1) fields) in
    record {
      parts = test_on c.loop-field.tests.items _ c.in_ok-test.test field.name (tree field.value) more _ (c.push_reserved.ensures.items ∙ ap (λ (xs : List Test). xs ++ c.in_ok-test.test ∷ []) c.reserve.ensures.items) done.name done.operand (rw split at c.loop-field.invariant.parts);
      wrong = passed_here (wrong field.name (tree field.value) (operator_of field.name)) (wrong_operators more) _ done.form (rw split at c.loop-field.invariant.wrong);
    }

pub returns-clause-ok : goal.returns-clause-ok
returns-clause-ok c = sym (append-none (tests_of c.loop-field.tests.items)) ∙ ap (append (tests_of c.loop-field.tests.items)) (sym (no_element_at c.args.fields.now c.loop-field.field-index c.loop-field-test.false)) ∙ c.loop-field.invariant.parts
