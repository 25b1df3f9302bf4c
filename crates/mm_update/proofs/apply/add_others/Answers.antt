use Rattle.std.specs.Str.{bytes_eq}
use Rattle.mm_update.specs.Paths.{id_name}
use Rattle.std.proofs.Common.{◌≡◌, false, sym, ap, ◌∙◌, drop, ◌+◌}
use Rattle.mm_bson.specs.Tree.{no_elements, element, append}
use Rattle.mm_bson.specs.View.{tree, elements_of}
use Rattle.mm_bson.proofs.Loop.{append-none}
use Rattle.mm_update.specs.Changed.{other_fields}
use Rattle.mm_update.proofs.Listed.{first_is, none_left}
use Rattle.mm_update.proofs.Fields.{others_on}
use Rattle.mm_update.proofs.apply.add_others.Goals as goal

pub loop-field-preserved : goal.loop-field-preserved
loop-field-preserved c =
    let first = c.field-item.result in
    let draft = c.loop-field.draft in
    let split = first_is first c.args.fields.now c.loop-field.field-index c.loop-field-test.true c.field-item.is in
    let other : bytes_eq first.name id_name ≡ false = sym c.is_id.ensures ∙ c.if-is_id.false in
    let added : c.add.new.self ≡ append draft (element first.name (tree first.value) no_elements) = c.in_ok-add.ensures ∙ ap (λ n. append draft (element n (tree first.value) no_elements)) c.as_str.ensures in
    record {
      parts = others_on draft c.add.new.self _ first.name (tree first.value) (elements_of (drop (c.loop-field.field-index + 1) c.args.fields.now)) other (rw split at c.loop-field.invariant.parts) added;
      names = (rw split at c.loop-field.invariant.names).1;
    }

pub returns : goal.returns
returns c =
    sym (append-none c.loop-field.draft) ∙ ap (λ es. append c.loop-field.draft (other_fields es)) (sym (none_left c.args.fields.now c.loop-field.field-index c.loop-field-test.false)) ∙ c.loop-field.invariant.parts
