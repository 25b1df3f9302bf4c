use Rattle.std.proofs.Common.{◌≡◌}
use Rattle.mm_bson.specs.Walk.{size}
use Rattle.mm_bson.specs.Path.{find as find_in}
use Rattle.mm_bson.proofs.path.find_in_place.Given as goal

abbrev pub invariant-fields : goal.invariant-fields
invariant-fields l = find_in l.name l.rest ≡ find_in l.name l.fn.fields

abbrev pub decreases-fields : goal.decreases-fields
decreases-fields l = size l.rest
