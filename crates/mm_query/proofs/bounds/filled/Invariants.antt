use Rattle.std.proofs.Common.{◌≡◌, [], drop}
use Rattle.mm_bson.specs.Tree.{append, element}
use Rattle.mm_bson.specs.View.{tree, elements_of}
use Rattle.mm_query.specs.Bounds.{extremes}
use Rattle.mm_query.proofs.bounds.filled.Given as goal

abbrev pub invariant-loop-field : goal.invariant-loop-field
invariant-loop-field l = append l.key (extremes l.side (elements_of (drop l.field-index l.fields))) ≡ element [] (tree l.value) (extremes l.side (elements_of l.fields))
