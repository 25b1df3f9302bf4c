use Rattle.std.proofs.Common.{◌≡◌, drop}
use Rattle.mm_walk.specs.Tiles.{first_gap}
use Rattle.mm_walk.proofs.tiles.first_gap.Given as goal

abbrev pub invariant-loop-at : goal.invariant-loop-at
invariant-loop-at l = first_gap l.from l.blocks l.end ≡ first_gap l.due (drop l.at-index l.blocks) l.end
