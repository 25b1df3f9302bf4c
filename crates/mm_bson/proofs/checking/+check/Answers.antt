use Rattle.std.proofs.Common.{◌≡◌, ◌<◌, length, Result, Ok, Err, refl, sym, ap, ◌∙◌, arith}
use Rattle.std.proofs.lemmas.Result.{err_from_is_err_and}
use Rattle.mm_bson.specs.Tree.{Elements, no_elements, element, append}
use Rattle.mm_bson.specs.declared.fault.BsonFault.{BsonFault}
use Rattle.mm_bson.specs.Reading.{nested_at, elements_at}
use Rattle.mm_bson.specs.Piece.{piece}
use Rattle.mm_bson.proofs.Loop.{with_front, goes_on, stops, is_done, nested-zero, nested-fails, nested-ends, nested-unended}
use Rattle.mm_bson.proofs.Checks.{first_small, next_small, head_fails, inside_fails, element_passes, text_passes, plain_passes}
use Rattle.mm_bson.proofs.checking.+check.Goals as goal

pub elements-elements-init : goal.elements-elements-init
elements-elements-init t c = record { within = omega arith; small = first_small c.args.first (length c.args.bytes.now) c.requires.first; so_far = (no_elements, length c.args.bytes.now, omega arith, same (elements_at (nested_at c.args.levels) c.args.first c.args.start c.args.end (length c.args.bytes.now) c.args.bytes.now)) }
  where
    same : (r : Result Elements BsonFault) → with_front no_elements r ≡ r
    same (Ok es) = refl
    same (Err e) = refl

pub elements-returns-in_err-head : goal.elements-returns-in_err-head
elements-returns-in_err-head t c =
    let p = err_from_is_err_and c.from_residual.result c.from_residual.ensures.1 in
    let inv = c.elements.invariant in
    let some : 0 < length c.elements.rest.now = grind arith in
    let read = nested_at c.args.levels in
    let fails = head_fails read c.elements.due c.args.start c.args.end c.elements.rest.now c.in_err-head.field-0.0 c.in_err-head.ensures.gives in
    rw (p.1, p.2) (stops read c.args.start c.args.end c.elements.due inv.so_far.0 inv.so_far.1 c.elements.rest.now c.in_err-head.field-0.0 _ some inv.so_far.2 fails inv.so_far.3)

pub elements-returns-in_err-inside : goal.elements-returns-in_err-inside
elements-returns-in_err-inside t c =
    let p = err_from_is_err_and c.from_residual-in_err-inside.result c.from_residual-in_err-inside.ensures.1 in
    let inv = c.elements.invariant in
    let some : 0 < length c.elements.rest.now = grind arith in
    let read = nested_at c.args.levels in
    let h = c.in_ok-head in
    let fails = inside_fails read c.elements.due c.args.start c.args.end c.elements.rest.now h.head.name.now (piece h.head.value) h.behind.now c.in_err-inside.field-0.0 h.ensures.gives c.in_err-inside.ensures in
    rw (p.1, p.2) (stops read c.args.start c.args.end c.elements.due inv.so_far.0 inv.so_far.1 c.elements.rest.now c.in_err-inside.field-0.0 _ some inv.so_far.2 fails inv.so_far.3)

pub elements-elements-preserved : goal.elements-elements-preserved
elements-elements-preserved t c =
    let inv = c.elements.invariant in
    let read = nested_at c.args.levels in
    let h = c.in_ok-head in
    let left : length h.behind.now < length c.elements.rest.now = omega (arith, h.ensures.left) in
    let passes = element_passes read c.elements.due c.args.start c.args.end c.elements.rest.now h.head.name.now (piece h.head.value) h.behind.now c.in_ok-inside.ensures.0 h.ensures.gives c.in_ok-inside.ensures.1 in
    let next = goes_on read c.args.start c.args.end c.elements.due inv.so_far.0 inv.so_far.1 c.elements.rest.now h.head.name.now c.in_ok-inside.ensures.0 h.behind.now _ inv.so_far.2 left passes inv.so_far.3 in
    rw c.after-due.ensures (record {
      within = omega (arith, inv.within);
      small = next_small c.elements.due (length c.elements.rest.now) (length h.behind.now) (length c.args.bytes.now) inv.small left;
      so_far = (append inv.so_far.0 (element h.head.name.now c.in_ok-inside.ensures.0 no_elements), next.0, next.1, next.2);
    })

pub elements-returns : goal.elements-returns
elements-returns t c =
    let inv = c.elements.invariant in
    let none : length c.elements.rest.now ≡ 0 = grind arith in
    (inv.so_far.0, is_done (nested_at c.args.levels) c.args.start c.args.end c.elements.due inv.so_far.0 inv.so_far.1 c.elements.rest.now _ none inv.so_far.3)

pub inside-returns-then-is_text : goal.inside-returns-then-is_text
inside-returns-then-is_text t c = text_passes (nested_at c.args.levels) c.args.end (piece c.args.value) c.in-String.text.now c.args.left (ap piece c.in-String.is) (sym c.is_text.ensures ∙ c.if-is_text.true)

pub inside-returns-in_default : goal.inside-returns-in_default
inside-returns-in_default t c = plain_passes (nested_at c.args.levels) c.args.end c.args.value c.args.left c.in_default.not-String c.in_default.not-Document c.in_default.not-Array

pub nested-returns-then-levels-eq0 : goal.nested-returns-then-levels-eq0
nested-returns-then-levels-eq0 t c = nested-zero c.args.levels c.args.first c.args.start c.args.bytes.now (omega arith)

pub nested-returns-in_err-elements : goal.nested-returns-in_err-elements
nested-returns-in_err-elements t c =
    let p = err_from_is_err_and c.from_residual.result c.from_residual.ensures.1 in
    rw (p.1, p.2) (nested-fails c.args.levels c.args.first c.args.start c.args.bytes.now c.in_err-elements.field-0.0 (λ e. omega (arith, e)) c.in_err-elements.ensures)

pub nested-returns-then-bytes-last-ne0 : goal.nested-returns-then-bytes-last-ne0
nested-returns-then-bytes-last-ne0 t c = nested-unended c.args.levels c.args.first c.args.start c.args.bytes.now c.in_ok-elements.ensures.0 (λ e. omega (arith, e)) c.in_ok-elements.ensures.1 c.if-bytes-last-ne0.true

pub nested-returns : goal.nested-returns
nested-returns t c = (c.in_ok-elements.ensures.0, nested-ends c.args.levels c.args.first c.args.start c.args.bytes.now c.in_ok-elements.ensures.0 (λ e. omega (arith, e)) c.in_ok-elements.ensures.1 c.if-bytes-last-ne0.false)
