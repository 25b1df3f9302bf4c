use Rattle.std.proofs.Common.{ℕ, List, [], sym, ◌∙◌, ap}
use Rattle.std.specs.Ordering.{eq_by_cmp}
use Rattle.mm_outside.specs.Image.{name_cmp}
use Rattle.mm_jfiles.proofs.Asking.{some_before}
use Rattle.mm_recover.proofs.LayAsks.{some_as}
use Rattle.mm_durable.proofs.Owning.{own_is, own_isnt}
use Rattle.mm_durable.proofs.flushing.lay_own.Goals as goal

pub returns-in_err-lay_part-clause-cut : goal.returns-in_err-lay_part-clause-cut
returns-in_err-lay_part-clause-cut g c = some_as _ _ _ _ (own_is c.args.name.now c.args.part.now (sym c.if-is_same.true ∙ c.is_same.ensures ∙ ap (λ (n : List ℕ). eq_by_cmp name_cmp n c.args.name.now) c.as_slice.ensures)) c.lay_part.ensures.cut

pub returns-in_ok-lay_part-clause-cut : goal.returns-in_ok-lay_part-clause-cut
returns-in_ok-lay_part-clause-cut g c = some_as _ _ _ _ (own_is c.args.name.now c.args.part.now (sym c.if-is_same.true ∙ c.is_same.ensures ∙ ap (λ (n : List ℕ). eq_by_cmp name_cmp n c.args.name.now) c.as_slice.ensures)) c.lay_part.ensures.cut

pub returns-else-is_same-clause-cut : goal.returns-else-is_same-clause-cut
returns-else-is_same-clause-cut g c = some_as _ _ _ _ (own_isnt c.args.name.now c.args.part.now (sym c.if-is_same.false ∙ c.is_same.ensures ∙ ap (λ (n : List ℕ). eq_by_cmp name_cmp n c.args.name.now) c.as_slice.ensures)) (some_before [] _)
