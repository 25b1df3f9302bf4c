use Rattle.std.proofs.Common.{◌<◌, ◌^◌, List, ℕ, ◌∙◌, sym, ap, subst}
use Rattle.std.specs.Ordering.{eq_by_cmp}
use Rattle.mm_outside.specs.Image.{name_cmp}
use Rattle.mm_durable.specs.Flushed.{range_bytes}
use Rattle.mm_durable.proofs.Counted.{own_has, own_hasnt}
use Rattle.mm_durable.proofs.counting.part_bytes.Goals as goal

pub range_bytes-requires : goal.range_bytes-requires
range_bytes-requires c =
    subst (λ (n : ℕ). n < 2 ^ 64)
    (own_has c.args.name.now c.args.part.now (sym c.if-is_same.true ∙ c.is_same.ensures ∙ ap (λ (n : List ℕ). eq_by_cmp name_cmp n c.args.name.now) c.as_slice.ensures) ∙ sym (ap range_bytes c.as_slice-then-is_same.ensures)) c.requires

pub returns-then-is_same : goal.returns-then-is_same
returns-then-is_same c =
    c.range_bytes.ensures ∙ ap range_bytes c.as_slice-then-is_same.ensures
    ∙ sym (own_has c.args.name.now c.args.part.now (sym c.if-is_same.true ∙ c.is_same.ensures ∙ ap (λ (n : List ℕ). eq_by_cmp name_cmp n c.args.name.now) c.as_slice.ensures))

pub returns-else-is_same : goal.returns-else-is_same
returns-else-is_same c = sym (own_hasnt c.args.name.now c.args.part.now (sym c.if-is_same.false ∙ c.is_same.ensures ∙ ap (λ (n : List ℕ). eq_by_cmp name_cmp n c.args.name.now) c.as_slice.ensures))
