use Rattle.std.proofs.Common.{◌≡◌, append_assoc, append-nil, sym, ◌∙◌, drop, ◌+◌}
use Rattle.std.proofs.lemmas.Result.{err_from_is_err_and}
use Rattle.mm_bson.specs.Tree.{no_elements}
use Rattle.mm_bson.specs.View.{tree, elements_of}
use Rattle.mm_update.specs.Edit.{operator_of, edits_in, edits_of}
use Rattle.mm_update.specs.Form.{places}
use Rattle.mm_update.proofs.Listed.{first_is, none_left}
use Rattle.mm_update.proofs.Whole.{edits_apart}
use Rattle.mm_update.proofs.Walk.{walk_field, field_refused}
use Rattle.mm_update.proofs.form.edits.Goals as goal

pub returns-in_err-add_field-clause-form : goal.returns-in_err-add_field-clause-form
returns-in_err-add_field-clause-form c =
    let p = err_from_is_err_and c.from_residual.result c.from_residual.ensures.1 in
    let first = c.field-item.result in
    let split = first_is first c.args.fields.now c.loop-field.field-index c.loop-field-test.true c.field-item.is in
    rw (p.1, p.2) (field_refused c.in_err-add_field.field-0.0 c.loop-field.steps.items first.name (tree first.value) (places (elements_of (drop (c.loop-field.field-index + 1) c.args.fields.now))) _ c.in_err-add_field.ensures.form (rw split at c.loop-field.invariant.wrong))

pub loop-field-preserved : goal.loop-field-preserved
loop-field-preserved c =
    let first = c.field-item.result in
    let split = first_is first c.args.fields.now c.loop-field.field-index c.loop-field-test.true c.field-item.is in
    let steps = c.loop-field.steps.items in
    let t = tree first.value in
    let more = elements_of (drop (c.loop-field.field-index + 1) c.args.fields.now) in
    let added = c.in_ok-add_field.ensures.ok in
    record {
      parts = rw (added, append_assoc steps (edits_in (operator_of first.name) t) (edits_of more)) (rw split at c.loop-field.invariant.parts);
      wrong = walk_field steps c.add_field.new.steps.items first.name t (places more) _ added c.in_ok-add_field.ensures.form (rw split at c.loop-field.invariant.wrong);
      known = c.in_ok-add_field.ensures.known;
    }

pub returns-clause-apart : goal.returns-clause-apart
returns-clause-apart c =
    let steps = c.loop-field.steps.items in
    let fields = elements_of c.args.fields.now in
    let none : elements_of (drop c.loop-field.field-index c.args.fields.now) ≡ no_elements = none_left c.args.fields.now c.loop-field.field-index c.loop-field-test.false in
    let all : steps ≡ edits_of fields = sym (append-nil steps) ∙ (rw none at c.loop-field.invariant.parts) in
    rw all (edits_apart fields (sym (rw none at c.loop-field.invariant.wrong)))
