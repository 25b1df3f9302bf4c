-- A frame that has each field of a value is read as that value.
use Rattle.std.proofs.Common.{◌≡◌, ℕ, List, length, get_or, refl, arith}
use Rattle.mm_base.specs.Lists.{list_of, list_bytes}
use Rattle.mm_base.specs.Bytes.{part}
use Rattle.mm_base.specs.Places.{null, place_of}
use Rattle.mm_base.specs.Tables.{HasAll}
use Rattle.mm_base.proofs.ListLaws.{list_again, length-list_bytes, length-list_of}
use Rattle.mm_base.proofs.TableLaws.{length-joined, has_all}
use Rattle.mm_frames.specs.ExtentHeader.{extent_header_of, extent_header_table}
use Rattle.mm_frames.specs.declared.extent_header.ExtentHeader.{ExtentHeader}
use Rattle.mm_frames.specs.DeletedHeader.{deleted_header_of, deleted_header_table}
use Rattle.mm_frames.specs.declared.deleted_header.DeletedHeader.{DeletedHeader}
use Rattle.mm_frames.specs.BucketHeader.{bucket_header_of, bucket_header_table}
use Rattle.mm_frames.specs.declared.bucket_header.BucketHeader.{BucketHeader}
use Rattle.mm_frames.specs.KeyNode.{key_node_of, key_node_table}
use Rattle.mm_frames.specs.declared.key_node.KeyNode.{KeyNode}
use Rattle.mm_frames.specs.NodeHead.{node_head_of, node_head_table}
use Rattle.mm_frames.specs.declared.node_head.NodeHead.{NodeHead}
use Rattle.mm_frames.specs.IndexPair.{index_pair_of, index_pair_bytes, index_pair_table}
use Rattle.mm_frames.specs.declared.index_pair.IndexPair.{IndexPair}
use Rattle.mm_frames.specs.FileHeader.{file_header_of, file_header_table}
use Rattle.mm_frames.specs.declared.file_header.FileHeader.{FileHeader}
use Rattle.mm_frames.specs.RecHeader.{rec_header_of, rec_header_table}
use Rattle.mm_frames.specs.declared.rec_header.RecHeader.{RecHeader}
use Rattle.mm_frames.specs.Details.{details_of, details_table}
use Rattle.mm_frames.specs.declared.details.Details.{Details}

pub extent_header_is : (x : ExtentHeader) (bytes : List ℕ) → HasAll bytes (extent_header_table x) → extent_header_of bytes ≡ x
unfolding extent_header_of
extent_header_is x bytes has = grind arith

pub deleted_header_is : (x : DeletedHeader) (bytes : List ℕ) → HasAll bytes (deleted_header_table x) → deleted_header_of bytes ≡ x
unfolding deleted_header_of
deleted_header_is x bytes has = grind arith

pub bucket_header_is : (x : BucketHeader) (bytes : List ℕ) → HasAll bytes (bucket_header_table x) → bucket_header_of bytes ≡ x
unfolding bucket_header_of
bucket_header_is x bytes has = grind arith

pub key_node_is : (x : KeyNode) (bytes : List ℕ) → HasAll bytes (key_node_table x) → key_node_of bytes ≡ x
unfolding key_node_of
key_node_is x bytes has = grind arith

pub node_head_is : (x : NodeHead) (bytes : List ℕ) → HasAll bytes (node_head_table x) → node_head_of bytes ≡ x
unfolding node_head_of
node_head_is x bytes has = grind arith

pub index_pair_is : (x : IndexPair) (bytes : List ℕ) → HasAll bytes (index_pair_table x) → index_pair_of bytes ≡ x
unfolding index_pair_of
index_pair_is x bytes has = grind arith

pub file_header_is : (x : FileHeader) (bytes : List ℕ) → HasAll bytes (file_header_table x) → file_header_of bytes ≡ x
unfolding file_header_of
file_header_is x bytes has = grind arith

pub rec_header_is : (x : RecHeader) (bytes : List ℕ) → HasAll bytes (rec_header_table x) → rec_header_of bytes ≡ x
unfolding rec_header_of
rec_header_is x bytes has = grind arith

pub length-index_pair_bytes : (p : IndexPair) → length (index_pair_bytes p) ≡ 16
unfolding index_pair_bytes
length-index_pair_bytes p = length-joined 16 (index_pair_table p) refl (tt, (tt, tt))

pub index_pair_again : (p : IndexPair) → index_pair_of (index_pair_bytes p) ≡ p
unfolding index_pair_bytes
index_pair_again p = index_pair_is p (index_pair_bytes p) (has_all 16 (index_pair_table p) refl (tt, (tt, tt)))

abbrev pub null_pair : IndexPair
null_pair = record { head = null; info = null }

pub index_pairs_again : (ps : List IndexPair) → length ps ≡ 10 → list_of 16 index_pair_of 10 (list_bytes index_pair_bytes ps) ≡ ps
index_pairs_again ps len = list_again 16 10 index_pair_bytes index_pair_of ps null_pair length-index_pair_bytes len (λ k lt. index_pair_again (get_or ps k null_pair))

pub length-index_pairs_bytes : (ps : List IndexPair) → length ps ≡ 10 → length (list_bytes index_pair_bytes ps) ≡ 160
length-index_pairs_bytes ps len = omega (arith, length-list_bytes 16 index_pair_bytes ps length-index_pair_bytes)

pub details_is : (x : Details) (bytes : List ℕ) → length x.indexes ≡ 10 → HasAll bytes (details_table x) → details_of bytes ≡ x
unfolding details_of
details_is x bytes len has = grind (arith, index_pairs_again)

pub length-deleted : (bytes : List ℕ) → length (details_of bytes).deleted ≡ 19
unfolding details_of
length-deleted bytes = length-list_of 8 19 place_of (part 16 152 bytes)

pub length-indexes : (bytes : List ℕ) → length (details_of bytes).indexes ≡ 10
unfolding details_of
length-indexes bytes = length-list_of 16 10 index_pair_of (part 192 160 bytes)

-- how many lists and pairs details have
pub ruleset details_lengths = (length-deleted, length-indexes)
