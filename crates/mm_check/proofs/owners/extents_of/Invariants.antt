use Rattle.std.proofs.Common.{◌≡◌, take}
use Rattle.std.specs.Prelude.{flat_map}
use Rattle.mm_check.proofs.owners.extents_of.Given as goal

abbrev pub invariant-loop-owner : goal.invariant-loop-owner
invariant-loop-owner l = l.all.items ≡ flat_map (λ o. o.extents.now) (take l.owner-index l.owners)
