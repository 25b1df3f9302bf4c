use Rattle.std.proofs.Common.{List, refl, sym, ap, ◌∙◌}
use Rattle.std.specs.Prelude.{flat_map}
use Rattle.std.proofs.lemmas.List.{take_all}
use Rattle.mm_check.specs.Phases.{owner_of}
use Rattle.mm_check.specs.declared.owners.Owned.{Owned}
use Rattle.mm_check.proofs.Chained.{flat_next, flat_mapped}
use Rattle.mm_check.proofs.owners.extents_of.Goals as goal

pub loop-owner-preserved : goal.loop-owner-preserved
loop-owner-preserved c = flat_next {V = Owned} (λ o. o.extents.now) c.loop-owner.all.items c.extend_from_slice.new.self.items c.args.owners.now c.loop-owner.owner-index _ _ c.loop-owner.invariant c.loop-owner-test.true refl c.in_ok-extend_from_slice.ensures.items

pub returns : goal.returns
returns c = c.loop-owner.invariant ∙ ap (λ (xs : List Owned). flat_map (λ o. o.extents.now) xs) (take_all c.loop-owner.owner-index c.args.owners.now c.loop-owner-test.false) ∙ sym (flat_mapped (λ o. o.extents) owner_of c.args.owners.now)
