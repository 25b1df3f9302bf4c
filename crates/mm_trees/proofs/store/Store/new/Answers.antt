use Rattle.std.proofs.Common.{◌≡◌, ℕ, false, sym, subst}
use Rattle.mm_views.specs.State.{Drafting}
use Rattle.mm_trees.specs.Buckets.{Reached}
use Rattle.mm_trees.proofs.Keeping.{kept_new}
use Rattle.mm_trees.proofs.store.Store.new.Goals as goal

pub invariant_of-result : goal.invariant_of-result
invariant_of-result c =
    let d = c.args.draft in
    let node = c.args.node in
    let begun = subst (λ (y : Drafting). false ≡ false → Reached y.image d.image node 0) (sym c.of-start.ensures) (kept_new d node c.requires) in
    subst (λ (n : ℕ). false ≡ false → Reached c.of-start.result.value.image d.image node n) (sym c.none.ensures) begun
