use Rattle.std.proofs.Common.{◌≡◌}
use Rattle.mm_bson.specs.Walk.{size}
use Rattle.mm_keys.specs.KeyOrder.{key_compare}
use Rattle.mm_keys.proofs.order.key_cmp_in_place.Given as goal

abbrev pub invariant-fields : goal.invariant-fields
invariant-fields l = key_compare l.signs l.left l.right ≡ key_compare l.spec l.a l.b

abbrev pub decreases-fields : goal.decreases-fields
decreases-fields l = size l.left
