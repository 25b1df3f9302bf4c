-- The blocks of extents, by their places: phase 8 of the check.
use Rattle.std.specs.Prelude.{ℕ, ◌+◌, ◌&&◌, ◌==◌, nat_le, if◌then◌else◌, List, [], ◌∷◌, Option, Some, None}
use Rattle.mm_ranges.specs.Overlay.{Image}
use Rattle.mm_links.specs.Links.{Place}
use Rattle.mm_walk.specs.Tiles.{Block, first_gap}
use Rattle.mm_check.specs.RecordChain.{rec_at, is_pos}
use Rattle.mm_check.specs.ExtentChain.{nat_of, ext_size}

-- the length that a block's header names, whether it is live or deleted
abbrev pub block_len : Image → Place → ℕ
block_len image p = nat_of (rec_at image p).length_with_headers

-- of these blocks those of the extent at e, which they name
abbrev pub blocks_of : Image → Place → List Place → List Block
blocks_of image e [] = []
blocks_of image e (p ∷ ps) = if (p.0 == e.0) && is_pos (rec_at image p).extent_ofs e.1 then (p.1, block_len image p) ∷ blocks_of image e ps else blocks_of image e ps

-- ---- by their places

-- a block before the first that doesn't lie before it
abbrev pub put_in : Block → List Block → List Block
put_in b [] = b ∷ []
put_in b (c ∷ cs) = if nat_le b.0 c.0 then b ∷ c ∷ cs else c ∷ put_in b cs

abbrev pub by_place : List Block → List Block
by_place [] = []
by_place (b ∷ bs) = put_in b (by_place bs)

-- the first place of an extent where its blocks don't follow one another, from behind its header to its end
abbrev pub gap_at : Image → List Place → Place → Option ℕ
gap_at image placed e = first_gap (e.1 + 176) (by_place (blocks_of image e placed)) (e.1 + ext_size image e)

-- in the file of the extent, or where it is in the others
abbrev pub gap_or : Place → Option ℕ → Option Place → Option Place
gap_or e None rest = rest
gap_or e (Some a) rest = Some (e.0, a)

-- the first gap, extent by extent
abbrev pub first_gap_of : Image → List Place → List Place → Option Place
first_gap_of image placed [] = None
first_gap_of image placed (e ∷ es) = gap_or e (gap_at image placed e) (first_gap_of image placed es)
