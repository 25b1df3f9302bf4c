use Rattle.std.proofs.Common.{◌≡◌, sym, ap, ◌∙◌, drop, ◌+◌}
use Rattle.mm_bson.specs.Tree.{no_elements, element, append}
use Rattle.mm_bson.specs.View.{tree, elements_of}
use Rattle.mm_bson.proofs.Loop.{append_assoc, append-none}
use Rattle.mm_update.proofs.Listed.{first_is, none_left}
use Rattle.mm_update.proofs.Fields.{AreNames-built}
use Rattle.mm_update.proofs.draft.Draft.open.Goals as goal

pub loop-element-init : goal.loop-element-init
loop-element-init c =
    let same = c.elements-elements.ensures.elements in
    record { parts = rw (c.new-draft.ensures, same) (λ i. c.args.doc.now); names = rw same (AreNames-built c.args.doc.now c.elements-elements.ensures.built.elements) }

pub add-requires : goal.add-requires
add-requires c =
    let first = c.element-item.result in
    let names = rw (first_is first c.elements-elements.result.now c.loop-element.element-index c.loop-element-test.true c.element-item.is) at c.loop-element.invariant.names in
    rw c.as_str.ensures names.0

pub loop-element-preserved : goal.loop-element-preserved
loop-element-preserved c =
    let first = c.element-item.result in
    let split = first_is first c.elements-elements.result.now c.loop-element.element-index c.loop-element-test.true c.element-item.is in
    let one = element first.name (tree first.value) no_elements in
    let added : c.add.new.self ≡ append c.loop-element.draft one = c.in_ok-add.ensures ∙ ap (λ n. append c.loop-element.draft (element n (tree first.value) no_elements)) c.as_str.ensures in
    let whole = ap (append c.loop-element.draft) (sym split) ∙ c.loop-element.invariant.parts in
    record {
      parts = rw (added, append_assoc c.loop-element.draft one (elements_of (drop (c.loop-element.element-index + 1) c.elements-elements.result.now))) whole;
      names = (rw split at c.loop-element.invariant.names).1;
    }

pub returns : goal.returns
returns c = sym (append-none c.loop-element.draft) ∙ ap (append c.loop-element.draft) (sym (none_left c.elements-elements.result.now c.loop-element.element-index c.loop-element-test.false)) ∙ c.loop-element.invariant.parts
