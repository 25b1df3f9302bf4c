-- A bucket's key node as 18 bytes, and back (MongoDB 2.6, MMAPv1: _KeyNode).
use Rattle.std.specs.Prelude.{ℕ, List, [], ◌∷◌}
use Rattle.mm_base.specs.Bytes.{part}
use Rattle.mm_base.specs.Fields.{u16_of}
use Rattle.mm_base.specs.Places.{place_of}
use Rattle.mm_base.specs.Tables.{Cell, u16, place, joined}
use Rattle.mm_frames.specs.declared.key_node.KeyNode.{KeyNode}

abbrev pub key_node_table : KeyNode → List Cell
key_node_table n =
    place 0 n.left
    ∷ place 8 n.rec
    ∷ u16 16 n.key_ofs
    ∷ []

unfoldable pub key_node_bytes : KeyNode → List ℕ
key_node_bytes n = joined (key_node_table n)

unfoldable pub key_node_of : List ℕ → KeyNode
key_node_of bytes = record {
  left = place_of (part 0 8 bytes);
  rec = place_of (part 8 8 bytes);
  key_ofs = u16_of (part 16 2 bytes);
}
