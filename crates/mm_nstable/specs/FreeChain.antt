-- The node that names the ends of the chain of free extents. Its name is a database's name without a dot, and `.$freelist` behind it.
use Rattle.std.specs.Prelude.{◌≡◌, ℕ, true, ◌==◌, not, List, [], ◌∷◌, Some, drop}
use Rattle.std.specs.List.{prefix_len}
use Rattle.std.specs.FinMap.{get}
use Rattle.mm_frames.specs.declared.details.Details.{Details}
use Rattle.mm_frames.specs.declared.free_ends.FreeEnds.{FreeEnds}
use Rattle.mm_nstable.specs.Nodes.{node_at, name_in, is_used}
use Rattle.mm_nstable.specs.Table.{Held, table_of}

-- the bytes of `.$freelist`
abbrev pub free_list : List ℕ
free_list = 46 ∷ 36 ∷ 102 ∷ 114 ∷ 101 ∷ 101 ∷ 108 ∷ 105 ∷ 115 ∷ 116 ∷ []

-- from its first dot on the name reads `.$freelist`
unfoldable pub IsFreeName : List ℕ → Type 0
IsFreeName name = drop (prefix_len (λ b. not (b == 46)) name) name ≡ free_list

-- Under this name, and under no other of its form, the map has the node of the chain of free extents.
pub record HasFreeChain (bytes free : List ℕ) (held : Held) : Type 0 where
  pub is : get (table_of bytes) free ≡ Some held
  pub named : IsFreeName free
  pub only : (name : List ℕ) (other : Held) → get (table_of bytes) name ≡ Some other → IsFreeName name → name ≡ free

-- a used node with such a name
pub record IsFreeNode (bytes : List ℕ) (k : ℕ) : Type 0 where
  pub used : is_used bytes k ≡ true
  pub named : IsFreeName (name_in (node_at bytes k))

-- the ends that details name
abbrev pub ends_of : Details → FreeEnds
ends_of d = record { first = d.first_extent; last = d.last_extent }

-- details that name these ends
abbrev pub with_ends : FreeEnds → Details → Details
with_ends ends d = record d { first_extent = ends.first; last_extent = ends.last }
