use Rattle.std.proofs.Common.{◌≡◌, drop}
use Rattle.mm_bson.specs.View.{elements_of}
use Rattle.mm_bson.specs.Path.{find as find_in}
use Rattle.mm_bson.proofs.path.find.Given as goal

abbrev pub invariant-loop-element : goal.invariant-loop-element
invariant-loop-element l = find_in l.name (elements_of (drop l.element-index l.elements)) ≡ find_in l.name (elements_of l.elements)
