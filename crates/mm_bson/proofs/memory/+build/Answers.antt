use Rattle.std.proofs.Common.{◌≡◌, ◌-◌, List, [], ◌∷◌, ◌++◌, ℕ, length, take, drop, sym, ap, subst, ◌∙◌, arith}
use Rattle.mm_bson.specs.declared.doc.Element.{Element}
use Rattle.mm_bson.specs.declared.doc.Value.{Value}
use Rattle.mm_bson.specs.Tree.{Elements, depth, values_depth, append, append_values}
use Rattle.mm_bson.specs.Named.{named, unnamed}
use Rattle.mm_bson.specs.Spelling.{value_spelling, elements_spelling}
use Rattle.mm_bson.specs.View.{tree_in, elements_of, values_of}
use Rattle.mm_bson.specs.Walk.{EndsAt}
use Rattle.mm_bson.proofs.Again.{spelling_len}
use Rattle.mm_bson.proofs.Loop.{append-none}
use Rattle.mm_bson.proofs.Numbered.{unnamed_again, numbered_depth, append_values-none}
use Rattle.mm_bson.proofs.Ends.{part_is, part_fits, inner_ends, list_ends, field_ends, document_holds, array_holds, one_put, one_value_put, one_more, one_more_value}
use Rattle.mm_bson.proofs.memory.+build.Goals as goal

pub document-overflow_sub-end-2 : goal.document-overflow_sub-end-2
document-overflow_sub-end-2 t c = omega (arith, (part_fits _ _ _ c.requires).0, spelling_len c.args.document.now)

pub document-elements-requires : goal.document-elements-requires
document-elements-requires t c =
    (omega (arith, ap depth c.fields.ensures), subst (λ (es : Elements). EndsAt (c.args.end - 1) (elements_spelling es) c.args.all.now) (sym c.fields.ensures) (inner_ends _ _ _ c.requires))

pub document-of_parts-requires : goal.document-of_parts-requires
document-of_parts-requires t c =
    let is = c.in_ok-bytes.ensures ∙ ap (λ (x : List ℕ). take (length x) (drop (c.args.end - length x) c.args.all.now)) c.bytes-len.ensures.spelled ∙ part_is _ _ _ c.requires in
    let deep = c.levels_of-inner_levels.ensures ∙ ap (λ xs. depth (elements_of xs)) c.as_slice.ensures.value in
    document_holds _ _ _ _ _ c.bytes-len.ensures.held is deep (c.in_ok-found.ensures ∙ c.fields.ensures)

pub elements-put-requires : goal.elements-put-requires
elements-put-requires t c =
    let field = c.in-Some.field in
    let behind = c.next.new.self in
    let lies = subst (λ (es : Elements). EndsAt c.args.end (elements_spelling es) c.args.all.now) c.in-Some.ensures.some c.fields.invariant.lies in
    let ends = (field_ends c.args.end field.name (tree_in field.value) behind c.args.all.now lies).0 in
    (omega (arith, ap depth c.in-Some.ensures.some, c.fields.invariant.shallow), subst (λ (b : List ℕ). EndsAt (c.args.end - length b) (value_spelling (tree_in field.value)) c.args.all.now) (sym c.bytes.ensures) ends)

pub elements-fields-preserved : goal.elements-fields-preserved
elements-fields-preserved t c =
    let field = c.in-Some.field in
    let lies = subst (λ (es : Elements). EndsAt c.args.end (elements_spelling es) c.args.all.now) c.in-Some.ensures.some c.fields.invariant.lies in
    record {
      parts = one_more (elements_of c.fields.found.items) (elements_of c.put.new.found.items) field.name (tree_in field.value) c.next.new.self c.fields.rest c.args.fields c.in_ok-put.ensures c.in-Some.ensures.some c.fields.invariant.parts;
      lies = (field_ends c.args.end field.name (tree_in field.value) c.next.new.self c.args.all.now lies).1;
      shallow = omega (arith, ap depth c.in-Some.ensures.some, c.fields.invariant.shallow);
    }

pub elements-returns : goal.elements-returns
elements-returns t c = sym (append-none _) ∙ ap (append (elements_of c.fields.found.items)) (sym c.in_default.ensures.none.0) ∙ c.fields.invariant.parts

pub list-overflow_sub-end-2 : goal.list-overflow_sub-end-2
list-overflow_sub-end-2 t c = omega (arith, (part_fits _ _ _ (list_ends _ _ _ c.requires)).0, spelling_len (named 0 c.args.list.now))

pub list-values-requires : goal.list-values-requires
list-values-requires t c =
    let vs = c.args.list.now in
    let levels : values_depth vs ≡ depth (named 0 vs) = ap values_depth (sym (unnamed_again 0 vs)) ∙ numbered_depth (named 0 vs) in
    (omega (arith, ap depth c.named.ensures, levels), subst (λ (es : Elements). EndsAt (c.args.end - 1) (elements_spelling es) c.args.all.now) (sym c.named.ensures) (inner_ends _ _ _ (list_ends _ _ _ c.requires)))

pub list-of_parts-requires : goal.list-of_parts-requires
list-of_parts-requires t c =
    let is = c.in_ok-bytes.ensures ∙ ap (λ (x : List ℕ). take (length x) (drop (c.args.end - length x) c.args.all.now)) c.bytes-len.ensures.spelled ∙ part_is _ _ _ c.requires in
    let deep = c.levels_of_values-inner_levels.ensures ∙ ap (λ xs. values_depth (values_of xs)) c.as_slice.ensures.value in
    array_holds _ _ _ _ _ c.bytes-len.ensures.held is deep (c.in_ok-found.ensures ∙ ap unnamed c.named.ensures ∙ unnamed_again 0 _)

pub list-returns : goal.list-returns
list-returns t c = c.of_parts.ensures ∙ c.in_ok-found.ensures ∙ ap unnamed c.named.ensures ∙ unnamed_again 0 _

pub values-put_item-requires : goal.values-put_item-requires
values-put_item-requires t c =
    let field = c.in-Some.field in
    let behind = c.next.new.self in
    let lies = subst (λ (es : Elements). EndsAt c.args.end (elements_spelling es) c.args.all.now) c.in-Some.ensures.some c.fields.invariant.lies in
    let ends = (field_ends c.args.end field.name (tree_in field.value) behind c.args.all.now lies).0 in
    (omega (arith, ap depth c.in-Some.ensures.some, c.fields.invariant.shallow), subst (λ (b : List ℕ). EndsAt (c.args.end - length b) (value_spelling (tree_in field.value)) c.args.all.now) (sym c.bytes.ensures) ends)

pub values-fields-preserved : goal.values-fields-preserved
values-fields-preserved t c =
    let field = c.in-Some.field in
    let lies = subst (λ (es : Elements). EndsAt c.args.end (elements_spelling es) c.args.all.now) c.in-Some.ensures.some c.fields.invariant.lies in
    record {
      parts = one_more_value (values_of c.fields.found.items) (values_of c.put_item.new.found.items) field.name (tree_in field.value) c.next.new.self c.fields.rest (unnamed c.args.fields) c.in_ok-put_item.ensures c.in-Some.ensures.some c.fields.invariant.parts;
      lies = (field_ends c.args.end field.name (tree_in field.value) c.next.new.self c.args.all.now lies).1;
      shallow = omega (arith, ap depth c.in-Some.ensures.some, c.fields.invariant.shallow);
    }

pub values-returns : goal.values-returns
values-returns t c = sym (append_values-none _) ∙ ap (λ (es : Elements). append_values (values_of c.fields.found.items) (unnamed es)) (sym c.in_default.ensures.none.0) ∙ c.fields.invariant.parts

pub put-returns : goal.put-returns
put-returns t c =
    let made : Element = record { name = c.in_ok-name.name; value = c.in_ok-value.value } in
    one_put c.args.found.now.items made c.push_reserved.new.self.items c.args.field.now.name (tree_in c.args.field.now.value)
    (c.push_reserved.ensures.items ∙ ap (λ (es : List Element). es ++ made ∷ []) c.reserve.ensures.items) (c.in_ok-name.ensures ∙ c.as_bytes.ensures.bytes) c.in_ok-value.ensures

pub put_item-returns : goal.put_item-returns
put_item-returns t c =
    let made = c.in_ok-made.made in
    one_value_put c.args.found.now.items made c.push_reserved.new.self.items (tree_in c.args.item.now) (c.push_reserved.ensures.items ∙ ap (λ (vs : List Value). vs ++ made ∷ []) c.reserve.ensures.items) c.in_ok-made.ensures
