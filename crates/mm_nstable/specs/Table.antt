-- What a `.ns` file says: a map from names to details.
use Rattle.std.specs.Prelude.{◌≡◌, ℕ, suc, ◌+◌, ◌%◌, ◌<◌, true, false, List, [], ◌∷◌, if◌then◌else◌}
use Rattle.std.specs.FinMap.{FinMap, from_entries}
use Rattle.std.specs.Ordering.{nat_cmp}
use Rattle.std.specs.Cmp.Lexicographic.{slice_cmp}
use Rattle.mm_frames.specs.declared.details.Details.{Details}
use Rattle.mm_nstable.specs.Hash.{hash_of}
use Rattle.mm_nstable.specs.Nodes.{count_of, node_at, nodes_of, name_in, details_in, is_free}

-- where a name stands, and the details of its namespace
pub record Held : Type 0 where
  pub node : ℕ
  pub details : Details

-- the used ones of the nodes from number k on, each with its name
abbrev pub entries_from : ℕ → List (List ℕ) → List (List ℕ × Held)
entries_from k [] = []
entries_from k (node ∷ nodes) = if is_free node then entries_from (suc k) nodes else (name_in node, record { node = k; details = details_in node }) ∷ entries_from (suc k) nodes

-- the used nodes in rising number
unfoldable pub entries_of : List ℕ → List (List ℕ × Held)
entries_of bytes = entries_from 0 (nodes_of bytes)

abbrev pub Table : Type 0
Table = FinMap (slice_cmp nat_cmp) Held

-- the map
unfoldable pub table_of : List ℕ → Table
table_of bytes = from_entries (entries_of bytes)

-- the i-th node at which a search for a name looks
abbrev pub probe : ℕ → List ℕ → ℕ → ℕ
probe count name i = (hash_of name % count + i) % count

-- the first free node in the order of the search for a name
pub record IsFirstFree (bytes name : List ℕ) (node : ℕ) : Type 0 where
  pub step : ℕ
  pub there : step < count_of bytes
  pub is : node ≡ probe (count_of bytes) name step
  pub free : is_free (node_at bytes node) ≡ true
  pub before : (j : ℕ) → j < step → is_free (node_at bytes (probe (count_of bytes) name j)) ≡ false
