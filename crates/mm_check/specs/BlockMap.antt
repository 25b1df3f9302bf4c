-- The blocks of extents, in a map by the extents' keys.
use Rattle.std.specs.Prelude.{◌≡◌, ℕ, ◌<◌, ◌^◌, List, [], ◌∷◌, ◌++◌, Option, Some, None, Vec}
use Rattle.std.specs.BTreeMap.{BTreeMap, get}
use Rattle.std.specs.Ordering.{nat_cmp}
use Rattle.std.specs.declared.alloc.Global.{Global}
use Rattle.mm_ranges.specs.Overlay.{Image}
use Rattle.mm_links.specs.Links.{Place}
use Rattle.mm_walk.specs.Tiles.{Block}
use Rattle.mm_walk.specs.Walk.{key}
use Rattle.mm_check.specs.BlockQuestions.{blocks_of}

abbrev pub items_or : Option (Vec (ℕ × ℕ) Global) → List Block
items_or None = []
items_or (Some v) = v.items

-- those of the extent at a place
abbrev pub blocks_in : BTreeMap ℕ (Vec (ℕ × ℕ) Global) → Place → List Block
blocks_in map e = items_or (get nat_cmp map (key e))

-- the map has each extent's blocks
abbrev pub HasBlocks : Image → List Place → BTreeMap ℕ (Vec (ℕ × ℕ) Global) → Type 0
HasBlocks image placed map = (e : Place) → e.0 < 2 ^ 32 → e.1 < 2 ^ 32 → blocks_in map e ≡ blocks_of image e placed

-- the block at a place is put to the extent that it names, to none where it names none
abbrev pub PutsBlock : Image → Place → BTreeMap ℕ (Vec (ℕ × ℕ) Global) → BTreeMap ℕ (Vec (ℕ × ℕ) Global) → Type 0
PutsBlock image p old new = (e : Place) → e.0 < 2 ^ 32 → e.1 < 2 ^ 32 → blocks_in new e ≡ blocks_in old e ++ blocks_of image e (p ∷ [])
