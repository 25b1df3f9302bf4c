use Rattle.std.proofs.Common.{◌≡◌, ℕ, ◌-◌, ◌<◌, length, refl, sym, ap, ◌∙◌, arith, rules}
use Rattle.std.specs.Prelude.{FitsSigned}
use Rattle.std.specs.Int.{w32}
use Rattle.std.proofs.lemmas.Int.{to_z-of_z}
use Rattle.mm_frames.specs.declared.extent_header.ExtentHeader.{ExtentHeader}
use Rattle.mm_check.specs.ExtentChain.{nat_of}
use Rattle.mm_check.specs.CountQuestions.{last_size}
use Rattle.mm_check.proofs.Chained.{item_has}
use Rattle.mm_check.proofs.PhaseLoops.{last_none, last_at}
use Rattle.mm_check.proofs.counts.last_size.Goals as goal

some : (n : ℕ) → (n ≡ 0 → ⊥) → 0 < n
some n e = omega (arith, e)

pub returns-then-n-eq0 : goal.returns-then-n-eq0
returns-then-n-eq0 c = sym (ap (last_size c.args.views.now.private) (last_none c.args.extents.now c.if-n-eq0.true))

pub read_extent-requires : goal.read_extent-requires
read_extent-requires c =
    let lt = some (length c.args.extents.now) c.if-n-eq0.false in
    (c.requires _ (item_has c.args.extents.now (length c.args.extents.now - 1) _ (0, 0) (omega (arith, lt)) refl)).inside

pub returns : goal.returns
returns c =
    let f : FitsSigned w32 c.read_extent.result.len = search rules in
    c.size.ensures ∙ ap nat_of (to_z-of_z w32 c.read_extent.result.len f) ∙ ap (λ (h : ExtentHeader). nat_of h.len) c.read_extent.ensures
    ∙ sym (ap (last_size c.args.views.now.private) (last_at c.args.extents.now (length c.args.extents.now) (0, 0) refl (some (length c.args.extents.now) c.if-n-eq0.false)))
