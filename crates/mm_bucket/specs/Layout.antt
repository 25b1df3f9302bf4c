-- A bucket as its 8192 bytes (MongoDB 2.6, MMAPv1: BtreeBucket): a header of 40 bytes and a body. At the front of the body stand the key nodes,
-- and the keys fill its last bytes, in any order. Bytes between key nodes and keys may be any.
use Rattle.std.specs.Prelude.{◌≡◌, ℕ, zero, suc, ◌+◌, ◌-◌, ◌*◌, ◌≤◌, ◌⊎◌, pos, List, [], ◌∷◌, length}
use Rattle.std.specs.List.{AllByRecursion}
use Rattle.mm_base.specs.Bytes.{part}
use Rattle.mm_base.specs.Fields.{u32_of}
use Rattle.mm_frames.specs.Numbers.{bucket_flags}
use Rattle.mm_frames.specs.BucketHeader.{bucket_header_of}
use Rattle.mm_frames.specs.declared.bucket_header.BucketHeader.{BucketHeader}
use Rattle.mm_frames.specs.KeyNode.{key_node_of}
use Rattle.mm_frames.specs.declared.key_node.KeyNode.{KeyNode}
use Rattle.mm_bucket.specs.Pairs.{Pair, Contents, HasKey, key_len, size}

-- a pair's key node: it names the child and the record, and the key stands where it says, counted from the body's front
pub record IsAt (bytes : List ℕ) (node : KeyNode) (p : Pair) : Type 0 where
  pub left : node.left ≡ p.left
  pub rec : node.rec ≡ p.rec
  pub key : part (40 + node.key_ofs) (length p.key) bytes ≡ p.key

-- the key nodes of the pairs, one behind the other
abbrev pub AreAt : List ℕ → ℕ → List Pair → Type 0
AreAt bytes at [] = Unit {0}
AreAt bytes at (p ∷ ps) = IsAt bytes (key_node_of (part at 18 bytes)) p × AreAt bytes (at + 18) ps

-- which bytes of the body a key takes: from where on, and how many
abbrev pub Slot : Type 0
Slot = ℕ × ℕ

abbrev pub slots : List ℕ → ℕ → List Pair → List Slot
slots bytes at [] = []
slots bytes at (p ∷ ps) = ((key_node_of (part at 18 bytes)).key_ofs, length p.key) ∷ slots bytes (at + 18) ps

abbrev pub IsWithin : ℕ → ℕ → Slot → Type 0
IsWithin from to s = (from ≤ s.0) × (s.0 + s.1 ≤ to)

abbrev pub AreApart : Slot → Slot → Type 0
AreApart s t = (s.0 + s.1 ≤ t.0) ⊎ (t.0 + t.1 ≤ s.0)

-- no two overlap
abbrev pub Apart : List Slot → Type 0
Apart [] = Unit {0}
Apart (s ∷ ss) = AllByRecursion (AreApart s) ss × Apart ss

-- The pairs in the body. The keys stand in its last bytes, from `begin` on, and don't overlap; these are as many bytes as the keys have, so there is
-- no gap.
pub record Laid (bytes : List ℕ) (begin : ℕ) (ps : List Pair) : Type 0 where
  pub whole : length bytes ≡ 8192
  pub nodes : AreAt bytes 40 ps
  pub keys : AllByRecursion HasKey ps
  pub begins : begin + key_len ps ≡ 8152
  pub room : 18 * length ps ≤ begin
  pub within : AllByRecursion (IsWithin begin 8152) (slots bytes 40 ps)
  pub apart : Apart (slots bytes 40 ps)

abbrev pub header_of : Contents → BucketHeader
header_of b = record {
  parent = b.parent;
  next_child = b.next;
  was_size = 0;
  reserved_size = 0;
  flags = bucket_flags;
  empty_size = pos (8152 - size b.pairs);
  top_size = pos (key_len b.pairs);
  n = pos (length b.pairs);
}

-- These bytes are a bucket with these contents. A null place may have any offset.
pub record Spells (bytes : List ℕ) (b : Contents) : Type 0 where
  pub header : bucket_header_of (part 0 40 bytes) ≡ header_of b
  pub laid : Laid bytes (8152 - key_len b.pairs) b.pairs

-- ---- the pairs, read from the bytes

-- the pair of a key node: a key begins with how long it is
unfoldable pub pair_of : List ℕ → KeyNode → Pair
pair_of bytes node = record {
  left = node.left;
  rec = node.rec;
  key = part (40 + node.key_ofs) (u32_of (part (40 + node.key_ofs) 4 bytes)) bytes;
}

-- so many pairs, from this key node on
abbrev pub pairs_in : List ℕ → ℕ → ℕ → List Pair
pairs_in bytes at zero = []
pairs_in bytes at (suc n) = pair_of bytes (key_node_of (part at 18 bytes)) ∷ pairs_in bytes (at + 18) n

-- what is known of the bytes of a bucket of which the header isn't written yet
pub record Built (bytes : List ℕ) (n begin : ℕ) (ps : List Pair) : Type 0 where
  pub laid : Laid bytes begin ps
  pub many : n ≡ length ps

-- what is known of a bucket
pub record Held (bytes : List ℕ) (n begin : ℕ) (b : Contents) : Type 0 where
  pub spelled : Spells bytes b
  pub many : n ≡ length b.pairs
  pub begins : begin + key_len b.pairs ≡ 8152
