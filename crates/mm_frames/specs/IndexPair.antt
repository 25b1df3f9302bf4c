-- The pair of an index as 16 bytes, and back (MongoDB 2.6, MMAPv1: IndexDetails).
use Rattle.std.specs.Prelude.{ℕ, List, [], ◌∷◌}
use Rattle.mm_base.specs.Bytes.{part}
use Rattle.mm_base.specs.Places.{place_of}
use Rattle.mm_base.specs.Tables.{Cell, place, joined}
use Rattle.mm_frames.specs.declared.index_pair.IndexPair.{IndexPair}

abbrev pub index_pair_table : IndexPair → List Cell
index_pair_table p =
    place 0 p.head
    ∷ place 8 p.info
    ∷ []

unfoldable pub index_pair_bytes : IndexPair → List ℕ
index_pair_bytes p = joined (index_pair_table p)

unfoldable pub index_pair_of : List ℕ → IndexPair
index_pair_of bytes = record {
  head = place_of (part 0 8 bytes);
  info = place_of (part 8 8 bytes);
}
