use Rattle.std.proofs.Common.{◌≡◌, drop}
use Rattle.mm_bson.specs.View.{elements_of}
use Rattle.mm_query.specs.Bounds.{first_equal}
use Rattle.mm_query.proofs.bounds.first_equal.Given as goal

abbrev pub invariant-loop-field : goal.invariant-loop-field
invariant-loop-field l = first_equal l.path (elements_of (drop l.field-index l.fields)) ≡ first_equal l.path (elements_of l.fields)
