use Rattle.std.specs.Prelude.{◌↔◌}
use Rattle.mm_bson.specs.Walk.{size}
use Rattle.mm_keys.specs.Key.{AreNameless}
use Rattle.mm_keys.proofs.nameless.are_nameless.Given as goal

abbrev pub invariant-fields : goal.invariant-fields
invariant-fields l = AreNameless l.rest ↔ AreNameless l.fn.fields

abbrev pub decreases-fields : goal.decreases-fields
decreases-fields l = size l.rest
