use Rattle.std.proofs.Common.{◌≡◌, [], ◌∷◌, ◌++◌, None, append_assoc, ap, ◌∙◌, sym, drop, ◌+◌}
use Rattle.std.proofs.lemmas.Result.{err_from_is_err_and}
use Rattle.mm_bson.specs.View.{tree, elements_of}
use Rattle.mm_update.specs.Edit.{Edit, paths, edits_at}
use Rattle.mm_update.specs.Form.{wrong_edit, entries}
use Rattle.mm_update.proofs.Listed.{first_is}
use Rattle.mm_update.proofs.Walk.{walk_on, wrong_known, knows_on, entry_refused}
use Rattle.mm_update.proofs.form.add_edits.Goals as goal

pub returns-in_err-check-clause-form : goal.returns-in_err-check-clause-form
returns-in_err-check-clause-form c =
    let p = err_from_is_err_and c.from_residual.result c.from_residual.ensures.1 in
    let first = c.field-item.result in
    let split = first_is first c.args.fields.now c.loop-field.field-index c.loop-field-test.true c.field-item.is in
    let e : Edit = record { operator = c.args.operator; path = first.name; operand = tree first.value } in
    let steps = c.loop-field.steps.items in
    rw (p.1, p.2) (entry_refused c.in_err-check.field-0.0 (paths steps) e (entries (edits_at c.args.operator (elements_of (drop (c.loop-field.field-index + 1) c.args.fields.now)))) _ _ c.in_err-check.ensures.form (wrong_known c.loop-field.earlier steps c.loop-field.invariant.known e) (rw split at c.loop-field.invariant.wrong))

pub loop-field-preserved : goal.loop-field-preserved
loop-field-preserved c =
    let first = c.field-item.result in
    let split = first_is first c.args.fields.now c.loop-field.field-index c.loop-field-test.true c.field-item.is in
    let e : Edit = record { operator = c.args.operator; path = first.name; operand = tree first.value } in
    let steps = c.loop-field.steps.items in
    let known = c.loop-field.invariant.known in
    let pushed : c.push.new.self.items ≡ steps ++ e ∷ [] = c.in_ok-push.ensures.items ∙ ap (λ s. steps ++ s ∷ []) c.in_ok-step_of.ensures in
    let fine : wrong_edit (paths steps) e ≡ None = sym (wrong_known c.loop-field.earlier steps known e) ∙ c.in_ok-check.ensures.form in
    let more = edits_at c.args.operator (elements_of (drop (c.loop-field.field-index + 1) c.args.fields.now)) in
    record {
      parts = rw (pushed, append_assoc steps (e ∷ []) more) (rw split at c.loop-field.invariant.parts);
      wrong = walk_on steps c.push.new.self.items e (entries more) _ pushed fine (rw split at c.loop-field.invariant.wrong);
      names = (rw split at c.loop-field.invariant.names).1;
      known = knows_on c.loop-field.earlier steps known e c.check.new.earlier c.push.new.self.items c.in_ok-check.ensures.one_more pushed;
    }
