use Rattle.std.proofs.Common.{◌≡◌, drop, max}
use Rattle.mm_bson.specs.Tree.{depth}
use Rattle.mm_bson.specs.View.{elements_of}
use Rattle.mm_bson.proofs.memory.levels_of.Given as goal

abbrev pub invariant-loop-element : goal.invariant-loop-element
invariant-loop-element l = max l.most (depth (elements_of (drop l.element-index l.elements))) ≡ depth (elements_of l.elements)
