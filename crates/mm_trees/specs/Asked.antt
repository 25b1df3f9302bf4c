-- How many places were asked for.
use Rattle.std.specs.Prelude.{ℕ, ◌+◌}
use Rattle.mm_trees.specs.declared.asked.Asked.{Asked, None, More'}

abbrev pub places_asked : Asked → ℕ
places_asked None = 0
places_asked (More' _ before) = places_asked before + 1
