use Rattle.std.proofs.Common.{◌≡◌, sym, ap, ◌∙◌, drop, ◌+◌}
use Rattle.mm_bson.specs.Tree.{no_elements, element, append}
use Rattle.mm_bson.specs.View.{tree, elements_of}
use Rattle.mm_bson.proofs.Loop.{append-none}
use Rattle.mm_script.proofs.FieldSteps.{first_from, none_from, field_on, rest_shallow}
use Rattle.mm_script.proofs.documents.add_all.Goals as goal

pub loop-field-preserved : goal.loop-field-preserved
loop-field-preserved c =
    let first = c.field-item.result in
    let fields = c.args.fields.now in
    let i = c.loop-field.field-index in
    let doc = c.loop-field.doc in
    let rest = elements_of (drop (i + 1) fields) in
    let split = first_from first fields i c.loop-field-test.true c.field-item.is in
    let put : c.add-in-loop-field.new.doc ≡ append doc (element first.name (tree first.value) no_elements) =
    c.in_ok-add.ensures ∙ ap (λ n. append doc (element n (tree c.in_ok-copy-2.field-0) no_elements)) c.in_ok-copy.ensures ∙ ap (λ v. append doc (element first.name v no_elements)) c.in_ok-copy-2.ensures in
    record {
      added = field_on doc c.add-in-loop-field.new.doc rest _ first.name (tree first.value) (rw split at c.loop-field.invariant.added) put;
      named = (rw split at c.loop-field.invariant.named).2;
      shallow = rest_shallow (tree first.value) first.name rest (rw split at c.loop-field.invariant.shallow);
    }

pub returns : goal.returns
returns c =
    sym (append-none c.loop-field.doc) ∙ ap (λ es. append c.loop-field.doc es) (sym (none_from c.args.fields.now c.loop-field.field-index c.loop-field-test.false)) ∙ c.loop-field.invariant.added
