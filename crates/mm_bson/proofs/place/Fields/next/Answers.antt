use Rattle.std.proofs.Common.{sym, ap, ◌∙◌}
use Rattle.mm_bson.specs.Tree.{element}
use Rattle.mm_bson.specs.Piece.{piece}
use Rattle.mm_bson.specs.Walk.{elements_in}
use Rattle.mm_bson.proofs.Walks.{stepped, not_refused}
use Rattle.mm_bson.proofs.place.Fields.next.Goals as goal

pub unreachable-requires : goal.unreachable-requires
unreachable-requires c = not_refused _ _ c.self.invariant (sym c.is_empty.ensures ∙ c.if-is_empty.false) _ c.in_default.field-0 c.in_default.ensures.gives

pub value_in-requires : goal.value_in-requires
value_in-requires c =
    let s = stepped _ _ c.self.invariant (sym c.is_empty.ensures ∙ c.if-is_empty.false) _ c.in-Ok.head.name.now (piece c.in-Ok.head.value) c.in-Ok.behind.now c.in-Ok.ensures.gives in
    (s.value, s.lies, s.held)

pub invariant_of-result : goal.invariant_of-result
invariant_of-result c =
    let s = stepped _ _ c.self.invariant (sym c.is_empty.ensures ∙ c.if-is_empty.false) _ c.in-Ok.head.name.now (piece c.in-Ok.head.value) c.in-Ok.behind.now c.in-Ok.ensures.gives in
    s.named

pub invariant_of-self : goal.invariant_of-self
invariant_of-self c =
    let s = stepped _ _ c.self.invariant (sym c.is_empty.ensures ∙ c.if-is_empty.false) _ c.in-Ok.head.name.now (piece c.in-Ok.head.value) c.in-Ok.behind.now c.in-Ok.ensures.gives in
    s.left

pub returns-clause-some : goal.returns-clause-some
returns-clause-some c =
    let s = stepped _ _ c.self.invariant (sym c.is_empty.ensures ∙ c.if-is_empty.false) _ c.in-Ok.head.name.now (piece c.in-Ok.head.value) c.in-Ok.behind.now c.in-Ok.ensures.gives in
    sym c.self.view_is ∙ s.parts ∙ ap (λ t. element c.in-Ok.head.name.now t (elements_in c.in-Ok.behind.now)) (sym (c.value_in.ensures s.value s.lies s.held))
