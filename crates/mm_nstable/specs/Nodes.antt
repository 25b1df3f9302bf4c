-- The nodes of a `.ns` file (MongoDB 2.6, MMAPv1: NamespaceHashTable): as many as fit, each a hash, a name and details.
use Rattle.std.specs.Prelude.{◌≡◌, ℕ, ◌*◌, ◌/◌, ◌<◌, Bool, true, ◌&&◌, ◌==◌, not, nat_lt, List, length}
use Rattle.mm_base.specs.Bytes.{part, padded, zeros}
use Rattle.mm_base.specs.Names.{IsName}
use Rattle.mm_base.specs.Lists.{list_of}
use Rattle.mm_base.specs.declared.name.TheConstants.{NAME_FIELD_LEN}
use Rattle.mm_frames.specs.NodeHead.{node_head_of}
use Rattle.mm_frames.specs.Details.{details_of}
use Rattle.mm_frames.specs.Texts.{text_in}
use Rattle.mm_frames.specs.declared.node_head.TheConstants.{NODE_HEAD_LEN}
use Rattle.mm_frames.specs.declared.node_head.NodeHead.{NodeHead}
use Rattle.mm_frames.specs.declared.details.TheConstants.{DETAILS_LEN, NODE_LEN}
use Rattle.mm_frames.specs.declared.details.Details.{Details}
use Rattle.mm_nstable.specs.Hash.{hash_of}

-- how many nodes fit into these bytes
abbrev pub count_of : List ℕ → ℕ
count_of bytes = length bytes / NODE_LEN

-- the bytes of a node
abbrev pub node_at : List ℕ → ℕ → List ℕ
node_at bytes k = part (NODE_LEN * k) NODE_LEN bytes

-- all nodes in their order
unfoldable pub nodes_of : List ℕ → List (List ℕ)
nodes_of bytes = list_of NODE_LEN (λ node. node) (count_of bytes) bytes

-- the hash and the name field of a node
unfoldable pub head_in : List ℕ → NodeHead
head_in node = node_head_of (part 0 NODE_HEAD_LEN node)

unfoldable pub details_in : List ℕ → Details
details_in node = details_of (part NODE_HEAD_LEN DETAILS_LEN node)

abbrev pub name_in : List ℕ → List ℕ
name_in node = text_in (head_in node).name

abbrev pub is_free : List ℕ → Bool
is_free node = (head_in node).hash == 0

-- a node is there, and isn't free
abbrev pub is_used : List ℕ → ℕ → Bool
is_used bytes k = nat_lt k (count_of bytes) && not (is_free (node_at bytes k))

-- the node has a name, zero padded, and its hash
pub record IsNamed (node : List ℕ) : Type 0 where
  pub name : IsName (name_in node)
  pub field : (head_in node).name ≡ padded NAME_FIELD_LEN (name_in node)
  pub hash : (head_in node).hash ≡ hash_of (name_in node)

-- Each used node has a name and its hash, and no name stands twice.
pub record IsTable (bytes : List ℕ) : Type 0 where
  pub named : (k : ℕ) → is_used bytes k ≡ true → IsNamed (node_at bytes k)
  pub apart : (j k : ℕ) → is_used bytes j ≡ true → is_used bytes k ≡ true → name_in (node_at bytes j) ≡ name_in (node_at bytes k) → j ≡ k

-- Free nodes are all zeros, as a new file and `remove` leave them.
abbrev pub AreFreeZeros : List ℕ → Type 0
AreFreeZeros bytes = (k : ℕ) → k < count_of bytes → is_free (node_at bytes k) ≡ true → node_at bytes k ≡ zeros NODE_LEN

-- The same nodes are used, with the same names.
pub record SameNames (old new : List ℕ) : Type 0 where
  pub used : (k : ℕ) → is_used new k ≡ is_used old k
  pub names : (k : ℕ) → is_used old k ≡ true → name_in (node_at new k) ≡ name_in (node_at old k)
