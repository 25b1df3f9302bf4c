use Rattle.std.proofs.Common.{ℕ, ap, ◌∙◌}
use Rattle.std.specs.BTreeMap.{get}
use Rattle.std.specs.Ordering.{nat_cmp}
use Rattle.mm_check.specs.BlockMap.{items_or}
use Rattle.mm_check.proofs.Results.{ok_mapped}
use Rattle.mm_check.proofs.gaps.blocks_at.Goals as goal

pub returns-in-None : goal.returns-in-None
returns-in-None c = c.new.ensures.items ∙ ap items_or c.in-None.ensures.value ∙ ap (λ (k : ℕ). items_or (get nat_cmp c.args.map.now k)) c.key.ensures

pub returns-in-Some : goal.returns-in-Some
returns-in-Some c =
    ok_mapped c.from_slice.result _ _ (λ v h. h ∙ c.deref.ensures.value ∙ ap items_or c.in-Some.ensures.value ∙ ap (λ (k : ℕ). items_or (get nat_cmp c.args.map.now k)) c.key.ensures) c.from_slice.ensures.items
