use Rattle.std.proofs.Common.{◌≡◌, ℕ, Bool, Bor, List, [], Ok, true, false, refl, sym, ap, ◌∙◌, arith}
use Rattle.std.specs.Str.{is_utf8}
use Rattle.std.proofs.lemmas.Result.{err_from_is_err_and}
use Rattle.mm_bson.specs.Tree.{no_elements, append, no_values, item, append_values, count}
use Rattle.mm_bson.specs.Spelling.{elements_spelling, values_spelling}
use Rattle.mm_notation.specs.declared.kind.Kind.{Kind}
use Rattle.mm_notation.specs.declared.kind.Kind.TheVariants as kind
use Rattle.mm_notation.specs.Reading.{kind_at, closed_at, value_at, member_at, with_element, string_at}
use Rattle.mm_notation.specs.Putting.{AreSound, AreSoundValues}
use Rattle.mm_notation.proofs.Loops.{object-zero, array-zero, elements_none}
use Rattle.mm_notation.proofs.Texts.{name_no_zero}
use Rattle.mm_notation.proofs.Behind.{room_there, element_document, element_array, element_leaf, kind_fails, name_fails, colon_fails, member_put, none_put, first_stops, put_stops, put_stops_inside, put_ends, first_member, next_member, first_value, next_value, values_end, object_put, array_put, object_fails, object_fails_inside, array_fails, array_fails_inside}
use Rattle.mm_notation.proofs.objects.+read.Goals as goal

-- ---- one element

pub element-returns-in_err-kind-clause-wrote : goal.element-returns-in_err-kind-clause-wrote
element-returns-in_err-kind-clause-wrote t c =
    let p = err_from_is_err_and c.from_residual.result c.from_residual.ensures.1 in
    rw (p.1, p.2) (kind_fails c.args.levels c.args.text.now c.in_err-kind.field-0.0 c.in_err-kind.ensures)

pub element-returns-in_ok-put_head-in-Object-clause-wrote : goal.element-returns-in_ok-put_head-in-Object-clause-wrote
element-returns-in_ok-put_head-in-Object-clause-wrote t c =
    let is : kind_at c.args.text.now ≡ Ok kind.Object = c.in_ok-kind.ensures ∙ ap (λ (k : Kind). Ok k) c.in-Object.is in
    element_document (λ (r : Bor (List ℕ)). r.now) c.args.name.now c.args.out.now.items c.put_head.new.out.items c.object.new.out.items c.args.text.now c.args.levels c.object.result is c.in_ok-put_head-in-Object.ensures c.object.ensures.wrote

pub element-returns-in_ok-put_head-in-Array-clause-wrote : goal.element-returns-in_ok-put_head-in-Array-clause-wrote
element-returns-in_ok-put_head-in-Array-clause-wrote t c =
    let is : kind_at c.args.text.now ≡ Ok kind.Array = c.in_ok-kind.ensures ∙ ap (λ (k : Kind). Ok k) c.in-Array.is in
    element_array (λ (r : Bor (List ℕ)). r.now) c.args.name.now c.args.out.now.items c.put_head-in-Array.new.out.items c.array.new.out.items c.args.text.now c.args.levels c.array.result is c.in_ok-put_head-in-Array.ensures c.array.ensures.wrote

pub element-returns-in_default-clause-wrote : goal.element-returns-in_default-clause-wrote
element-returns-in_default-clause-wrote t c =
    element_leaf (λ (r : Bor (List ℕ)). r.now) c.args.name.now c.args.out.now.items c.plain.new.out.items c.args.text.now c.args.levels c.in_ok-kind.kind c.plain.result c.in_ok-kind.ensures
    c.in_default.not-Object c.in_default.not-Array c.plain.ensures.wrote

pub value-returns-clause-wrote : goal.value-returns-clause-wrote
value-returns-clause-wrote t c = rw (c.as_bytes.ensures.value ∙ c.format.ensures.text) at c.element.ensures.wrote

-- ---- one member

pub member-returns-in_err-name-clause-wrote : goal.member-returns-in_err-name-clause-wrote
member-returns-in_err-name-clause-wrote t c =
    let p = err_from_is_err_and c.from_residual.result c.from_residual.ensures.1 in
    rw (p.1, p.2) (name_fails c.args.levels c.args.text.now c.in_err-name.field-0.0 c.in_err-name.ensures.gives)

pub member-returns-in_err-rest-clause-wrote : goal.member-returns-in_err-rest-clause-wrote
member-returns-in_err-rest-clause-wrote t c =
    let p = err_from_is_err_and c.from_residual-in_err-rest.result c.from_residual-in_err-rest.ensures.1 in
    rw (p.1, p.2) (colon_fails c.args.levels c.args.text.now c.in_ok-name.name c.in_ok-name.rest.now c.in_err-rest.field-0.0 c.in_ok-name.ensures.gives c.in_err-rest.ensures.gives)

pub member-returns-clause-wrote : goal.member-returns-clause-wrote
member-returns-clause-wrote t c =
    let e = c.as_bytes.ensures.bytes in
    let named : string_at true c.args.text.now ≡ Ok (c.as_bytes.result.now, c.in_ok-name.rest.now) = c.in_ok-name.ensures.gives ∙ ap (λ (n : List ℕ). Ok (n, c.in_ok-name.rest.now)) (sym e) in
    member_put (λ (r : Bor (List ℕ)). r.now) c.as_bytes.result.now c.args.out.now.items c.element.new.out.items c.args.text.now c.in_ok-name.rest.now c.in_ok-rest.rest.now c.args.levels c.element.result named c.in_ok-rest.ensures.gives
    (ap is_utf8 e ∙ c.as_bytes.ensures.utf8, name_no_zero true c.args.text.now c.as_bytes.result.now c.in_ok-name.rest.now named refl)
    (rw c.skip.ensures.gives at c.element.ensures.wrote)

-- ---- members

pub members-returns-then-empty-clause-wrote : goal.members-returns-then-empty-clause-wrote
members-returns-then-empty-clause-wrote t c =
    none_put no_elements with_element 0x7d (member_at (value_at c.args.levels)) elements_spelling (AreSound c.args.levels) c.args.out.now.items c.args.text.now c.args.empty c.if-empty.true refl (record { elements = tt; levels = omega arith })

pub members-returns-in_err-rest-clause-wrote : goal.members-returns-in_err-rest-clause-wrote
members-returns-in_err-rest-clause-wrote t c =
    let p = err_from_is_err_and c.from_residual.result c.from_residual.ensures.1 in
    rw (p.1, p.2) (first_stops no_elements with_element 0x7d (member_at (value_at c.args.levels)) c.args.text.now c.args.empty c.in_err-rest.field-0.0 c.if-empty.false c.in_err-rest.ensures.wrote)

pub members-members-init : goal.members-members-init
members-members-init t c = record {
  put = first_member c.args.levels c.args.out.now.items c.member.new.out.items c.args.text.now c.in_ok-rest.rest.now c.in_ok-rest.ensures.wrote;
  left = omega (arith, c.in_ok-rest.ensures.left);
}

pub members-returns-in_err-last-clause-wrote : goal.members-returns-in_err-last-clause-wrote
members-returns-in_err-last-clause-wrote t c =
    let p = err_from_is_err_and c.from_residual-in_err-last.result c.from_residual-in_err-last.ensures.1 in
    rw (p.1, p.2, c.if-empty.false) (put_stops no_elements with_element 0x7d (member_at (value_at c.args.levels)) append elements_spelling (AreSound c.args.levels) c.args.out.now.items c.members.out.items c.args.text.now c.members.rest.now c.in_err-last.field-0.0 c.members.invariant.put c.in_err-last.ensures.gives)

pub members-returns-then-last-clause-wrote : goal.members-returns-then-last-clause-wrote
members-returns-then-last-clause-wrote t c =
    rw c.if-empty.false (put_ends no_elements with_element 0x7d (member_at (value_at c.args.levels)) append elements_spelling (AreSound c.args.levels) c.args.out.now.items c.members.out.items c.args.text.now c.members.rest.now c.in_ok-last.after.now elements_none c.members.invariant.put (c.in_ok-last.ensures.gives ∙ ap (λ (b : Bool). Ok (b, c.in_ok-last.after.now)) c.if-last.true) c.in_ok-last.ensures.left)

pub members-returns-in_err-rest-2-clause-wrote : goal.members-returns-in_err-rest-2-clause-wrote
members-returns-in_err-rest-2-clause-wrote t c =
    let p = err_from_is_err_and c.from_residual-in_err-rest-2.result c.from_residual-in_err-rest-2.ensures.1 in
    rw (p.1, p.2, c.if-empty.false) (put_stops_inside no_elements with_element 0x7d (member_at (value_at c.args.levels)) append elements_spelling (AreSound c.args.levels) c.args.out.now.items c.members.out.items c.args.text.now c.members.rest.now c.in_err-rest-2.field-0.0 c.in_ok-last.after.now c.members.invariant.put (c.in_ok-last.ensures.gives ∙ ap (λ (b : Bool). Ok (b, c.in_ok-last.after.now)) c.if-last.false) c.in_err-rest-2.ensures.wrote)

pub members-members-preserved : goal.members-members-preserved
members-members-preserved t c = record {
  put = next_member c.args.levels c.args.out.now.items c.members.out.items c.args.text.now c.members.rest.now c.in_ok-last.after.now c.member-in-members.new.out.items c.in_ok-rest-2.rest.now c.members.invariant.put (c.in_ok-last.ensures.gives ∙ ap (λ (b : Bool). Ok (b, c.in_ok-last.after.now)) c.if-last.false) c.in_ok-last.ensures.left c.in_ok-rest-2.ensures.left c.in_ok-rest-2.ensures.wrote;
  left = omega (arith, c.in_ok-last.ensures.left, c.in_ok-rest-2.ensures.left, c.members.invariant.left);
}

-- ---- values

pub values-returns-then-empty-clause-wrote : goal.values-returns-then-empty-clause-wrote
values-returns-then-empty-clause-wrote t c =
    none_put no_values item 0x5d (value_at c.args.levels) (values_spelling 0) (AreSoundValues c.args.levels) c.args.out.now.items c.args.text.now c.args.empty c.if-empty.true refl (record { values = tt; levels = omega arith })

pub values-returns-in_err-rest-clause-wrote : goal.values-returns-in_err-rest-clause-wrote
values-returns-in_err-rest-clause-wrote t c =
    let p = err_from_is_err_and c.from_residual.result c.from_residual.ensures.1 in
    rw (p.1, p.2) (first_stops no_values item 0x5d (value_at c.args.levels) c.args.text.now c.args.empty c.in_err-rest.field-0.0 c.if-empty.false c.in_err-rest.ensures.wrote)

pub values-values-init : goal.values-values-init
values-values-init t c = record {
  put = first_value c.args.levels c.args.out.now.items c.value.new.out.items c.args.text.now c.in_ok-rest.rest.now c.in_ok-rest.ensures.wrote;
  left = omega (arith, c.in_ok-rest.ensures.left);
}

pub values-returns-in_err-last-clause-wrote : goal.values-returns-in_err-last-clause-wrote
values-returns-in_err-last-clause-wrote t c =
    let p = err_from_is_err_and c.from_residual-in_err-last.result c.from_residual-in_err-last.ensures.1 in
    rw (p.1, p.2, c.if-empty.false) (put_stops no_values item 0x5d (value_at c.args.levels) append_values (values_spelling 0) (λ vs. AreSoundValues c.args.levels vs × (c.values.place ≡ count vs)) c.args.out.now.items c.values.out.items c.args.text.now c.values.rest.now c.in_err-last.field-0.0 c.values.invariant.put c.in_err-last.ensures.gives)

pub values-returns-then-last-clause-wrote : goal.values-returns-then-last-clause-wrote
values-returns-then-last-clause-wrote t c =
    rw c.if-empty.false (values_end c.args.levels c.values.place c.args.out.now.items c.values.out.items c.args.text.now c.values.rest.now c.in_ok-last.after.now c.values.invariant.put (c.in_ok-last.ensures.gives ∙ ap (λ (b : Bool). Ok (b, c.in_ok-last.after.now)) c.if-last.true) c.in_ok-last.ensures.left)

pub values-returns-in_err-rest-2-clause-wrote : goal.values-returns-in_err-rest-2-clause-wrote
values-returns-in_err-rest-2-clause-wrote t c =
    let p = err_from_is_err_and c.from_residual-in_err-rest-2.result c.from_residual-in_err-rest-2.ensures.1 in
    rw (p.1, p.2, c.if-empty.false) (put_stops_inside no_values item 0x5d (value_at c.args.levels) append_values (values_spelling 0) (λ vs. AreSoundValues c.args.levels vs × (c.values.place ≡ count vs)) c.args.out.now.items c.values.out.items c.args.text.now c.values.rest.now c.in_err-rest-2.field-0.0 c.in_ok-last.after.now c.values.invariant.put (c.in_ok-last.ensures.gives ∙ ap (λ (b : Bool). Ok (b, c.in_ok-last.after.now)) c.if-last.false) c.in_err-rest-2.ensures.wrote)

pub values-values-preserved : goal.values-values-preserved
values-values-preserved t c = record {
  put = next_value c.args.levels c.values.place c.args.out.now.items c.values.out.items c.args.text.now c.values.rest.now c.in_ok-last.after.now c.value-in-values.new.out.items c.in_ok-rest-2.rest.now c.values.invariant.put (c.in_ok-last.ensures.gives ∙ ap (λ (b : Bool). Ok (b, c.in_ok-last.after.now)) c.if-last.false) c.in_ok-last.ensures.left c.in_ok-rest-2.ensures.left c.in_ok-rest-2.ensures.wrote;
  left = omega (arith, c.in_ok-last.ensures.left, c.in_ok-rest-2.ensures.left, c.values.invariant.left);
}

-- ---- objects

pub object-returns-then-levels-eq0-clause-wrote : goal.object-returns-then-levels-eq0-clause-wrote
object-returns-then-levels-eq0-clause-wrote t c = object-zero c.args.levels c.args.text.now c.if-levels-eq0.true

pub object-returns-in_err-rest-clause-wrote : goal.object-returns-in_err-rest-clause-wrote
object-returns-in_err-rest-clause-wrote t c =
    let p = err_from_is_err_and c.from_residual.result c.from_residual.ensures.1 in
    rw (p.1, p.2) (object_fails c.args.levels c.args.text.now [] [] false c.in_err-rest.field-0.0 c.if-levels-eq0.false c.in_err-rest.ensures.gives)

pub object-returns-in_err-rest-2-clause-wrote : goal.object-returns-in_err-rest-2-clause-wrote
object-returns-in_err-rest-2-clause-wrote t c =
    let p = err_from_is_err_and c.from_residual-in_err-rest-2.result c.from_residual-in_err-rest-2.ensures.1 in
    rw (p.1, p.2) (object_fails_inside c.args.levels c.args.text.now c.in_ok-rest.rest.now c.closed-empty.result.1.now c.closed-empty.result.0 c.in_err-rest-2.field-0.0 c.if-levels-eq0.false c.in_ok-rest.ensures.gives (ap (closed_at 0x7d) (sym c.skip.ensures.gives) ∙ c.closed-empty.ensures.gives) c.in_err-rest-2.ensures.wrote)

pub object-finish-requires : goal.object-finish-requires
object-finish-requires t c =
    let w = c.in_ok-rest-2.ensures.wrote in
    room_there c.args.out.now.items (elements_spelling w.found) c.begin.new.out.items c.members.new.out.items c.in_ok-start.start c.in_ok-start.ensures.start c.in_ok-start.ensures.room w.put

pub object-returns-clause-wrote : goal.object-returns-clause-wrote
object-returns-clause-wrote t c =
    object_put c.args.levels c.in_ok-start.start c.args.out.now.items c.begin.new.out.items c.members.new.out.items c.finish.new.out.items c.args.text.now c.in_ok-rest.rest.now c.closed-empty.result.1.now c.in_ok-rest-2.rest.now c.closed-empty.result.0
    c.if-levels-eq0.false c.in_ok-rest.ensures.gives (ap (closed_at 0x7d) (sym c.skip.ensures.gives) ∙ c.closed-empty.ensures.gives) c.in_ok-start.ensures.start c.in_ok-start.ensures.room c.in_ok-rest-2.ensures.wrote c.in_ok-finish.ensures.frame c.in_ok-finish.ensures.fits

-- ---- arrays

pub array-returns-then-levels-eq0-clause-wrote : goal.array-returns-then-levels-eq0-clause-wrote
array-returns-then-levels-eq0-clause-wrote t c = array-zero c.args.levels c.args.text.now c.if-levels-eq0.true

pub array-returns-in_err-rest-clause-wrote : goal.array-returns-in_err-rest-clause-wrote
array-returns-in_err-rest-clause-wrote t c =
    let p = err_from_is_err_and c.from_residual.result c.from_residual.ensures.1 in
    rw (p.1, p.2) (array_fails c.args.levels c.args.text.now [] [] false c.in_err-rest.field-0.0 c.if-levels-eq0.false c.in_err-rest.ensures.gives)

pub array-returns-in_err-rest-2-clause-wrote : goal.array-returns-in_err-rest-2-clause-wrote
array-returns-in_err-rest-2-clause-wrote t c =
    let p = err_from_is_err_and c.from_residual-in_err-rest-2.result c.from_residual-in_err-rest-2.ensures.1 in
    rw (p.1, p.2) (array_fails_inside c.args.levels c.args.text.now c.in_ok-rest.rest.now c.closed-empty.result.1.now c.closed-empty.result.0 c.in_err-rest-2.field-0.0 c.if-levels-eq0.false c.in_ok-rest.ensures.gives (ap (closed_at 0x5d) (sym c.skip.ensures.gives) ∙ c.closed-empty.ensures.gives) c.in_err-rest-2.ensures.wrote)

pub array-finish-requires : goal.array-finish-requires
array-finish-requires t c =
    let w = c.in_ok-rest-2.ensures.wrote in
    room_there c.args.out.now.items (values_spelling 0 w.found) c.begin.new.out.items c.values.new.out.items c.in_ok-start.start c.in_ok-start.ensures.start c.in_ok-start.ensures.room w.put

pub array-returns-clause-wrote : goal.array-returns-clause-wrote
array-returns-clause-wrote t c =
    array_put c.args.levels c.in_ok-start.start c.args.out.now.items c.begin.new.out.items c.values.new.out.items c.finish.new.out.items c.args.text.now c.in_ok-rest.rest.now c.closed-empty.result.1.now c.in_ok-rest-2.rest.now c.closed-empty.result.0
    c.if-levels-eq0.false c.in_ok-rest.ensures.gives (ap (closed_at 0x5d) (sym c.skip.ensures.gives) ∙ c.closed-empty.ensures.gives) c.in_ok-start.ensures.start c.in_ok-start.ensures.room c.in_ok-rest-2.ensures.wrote c.in_ok-finish.ensures.frame c.in_ok-finish.ensures.fits
