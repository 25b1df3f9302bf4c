use Rattle.std.proofs.Common.{◌≡◌, length}
use Rattle.mm_bson.specs.Path.{names, value_at, value_at_path}
use Rattle.mm_bson.proofs.place.DocRef.get_bytes.Given as goal

abbrev pub invariant-steps : goal.invariant-steps
invariant-steps l = value_at (names l.rest) l.fields ≡ value_at_path l.path l.self

abbrev pub decreases-steps : goal.decreases-steps
decreases-steps l = length l.rest
