-- The hash and the name of a node as 132 bytes, and back (MongoDB 2.6, MMAPv1: NamespaceHashTable's node).
use Rattle.std.specs.Prelude.{ℕ, List, [], ◌∷◌}
use Rattle.mm_base.specs.Bytes.{part}
use Rattle.mm_base.specs.Fields.{u32_of}
use Rattle.mm_base.specs.Tables.{Cell, u32, cell, joined}
use Rattle.mm_frames.specs.declared.node_head.NodeHead.{NodeHead}

abbrev pub node_head_table : NodeHead → List Cell
node_head_table h =
    u32 0 h.hash
    ∷ cell 4 128 h.name
    ∷ []

unfoldable pub node_head_bytes : NodeHead → List ℕ
node_head_bytes h = joined (node_head_table h)

unfoldable pub node_head_of : List ℕ → NodeHead
node_head_of bytes = record {
  hash = u32_of (part 0 4 bytes);
  name = part 4 128 bytes;
}
