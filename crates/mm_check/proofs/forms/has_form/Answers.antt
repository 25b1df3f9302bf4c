use Rattle.std.proofs.Common.{length, sym, ap, ◌∙◌}
use Rattle.mm_records.specs.Constants.{is_name}
use Rattle.mm_check.proofs.CodeTests.{bytes_name}
use Rattle.mm_check.proofs.NodeLoops.{form_empty, form_long, form_free, form_indexes, form_own, some_bytes, no_bytes}
use Rattle.mm_check.proofs.forms.has_form.Goals as goal

pub returns-then-is_empty : goal.returns-then-is_empty
returns-then-is_empty c d f = sym (form_empty d c.args.name.now (no_bytes (length c.args.name.now) (sym c.is_empty.ensures ∙ c.if-is_empty.true)))

pub returns-then-name-gt120 : goal.returns-then-name-gt120
returns-then-name-gt120 c d f = sym (form_long d c.args.name.now c.if-name-gt120.true)

pub returns-then-eq : goal.returns-then-eq
returns-then-eq c d f =
    sym (form_free d c.args.name.now (some_bytes (length c.args.name.now) (sym c.is_empty.ensures ∙ c.if-is_empty.false)) c.if-name-gt120.false
    (ap (is_name c.args.name.now) (sym (c.as_slice.ensures.value ∙ f.free)) ∙ sym (bytes_name c.args.name.now c.as_slice.result.now) ∙ sym c.eq.ensures ∙ c.if-eq.true))

pub returns-then-eq-2 : goal.returns-then-eq-2
returns-then-eq-2 c d f =
    sym (form_indexes d c.args.name.now (some_bytes (length c.args.name.now) (sym c.is_empty.ensures ∙ c.if-is_empty.false)) c.if-name-gt120.false
    (ap (is_name c.args.name.now) (sym (c.as_slice-2.ensures.value ∙ f.indexes)) ∙ sym (bytes_name c.args.name.now c.as_slice-2.result.now) ∙ sym c.eq-2.ensures ∙ c.if-eq-2.true))

pub returns : goal.returns
returns c d f =
    c.is_own.ensures d (c.deref.ensures.value ∙ f.front)
    ∙ sym (form_own d c.args.name.now (some_bytes (length c.args.name.now) (sym c.is_empty.ensures ∙ c.if-is_empty.false)) c.if-name-gt120.false
    (ap (is_name c.args.name.now) (sym (c.as_slice.ensures.value ∙ f.free)) ∙ sym (bytes_name c.args.name.now c.as_slice.result.now) ∙ sym c.eq.ensures ∙ c.if-eq.false)
    (ap (is_name c.args.name.now) (sym (c.as_slice-2.ensures.value ∙ f.indexes)) ∙ sym (bytes_name c.args.name.now c.as_slice-2.result.now) ∙ sym c.eq-2.ensures ∙ c.if-eq-2.false))
