-- The nodes of `.ns`: phase 2 of the check.
use Rattle.std.specs.Prelude.{◌≡◌, ℕ, zero, suc, ◌-◌, ◌*◌, Bool, true, false, ◌&&◌, ◌||◌, ◌==◌, not, nat_le, nat_lt, List, [], ◌∷◌, ◌++◌, length, slice_index, take, drop}
use Rattle.std.specs.List.{prefix_len, list_all}
use Rattle.mm_base.specs.Bytes.{padded}
use Rattle.mm_ranges.specs.declared.limits.TheConstants.{NS_FILE}
use Rattle.mm_nstable.specs.Hash.{hash_of}
use Rattle.mm_nstable.specs.Nodes.{node_at, head_in, name_in, is_free, is_used, count_of, IsTable}
use Rattle.mm_nstable.specs.FreeChain.{free_list}
use Rattle.mm_links.specs.Links.{Place}
use Rattle.mm_records.specs.Constants.{is_name, system_indexes}
use Rattle.mm_walk.specs.Questions.{Question}
use Rattle.mm_check.specs.ExtentChain.{asked}

-- ---- the form of a name in the database d

-- letters, digits and `_`
abbrev pub is_word : ℕ → Bool
is_word b = (nat_le 48 b && nat_le b 57) || ((nat_le 65 b && nat_le b 90) || ((b == 95) || (nat_le 97 b && nat_le b 122)))

-- the bytes of `system.`
abbrev pub system_dot : List ℕ
system_dot = 115 ∷ 121 ∷ 115 ∷ 116 ∷ 101 ∷ 109 ∷ 46 ∷ []

abbrev pub begins : List ℕ → List ℕ → Bool
begins start name = is_name (take (length start) name) start

-- a collection has 1 to 60 letters, digits, `_` and `.`, and doesn't begin with `system.`
unfoldable pub is_coll : List ℕ → Bool
is_coll c = nat_lt 0 (length c) && (nat_le (length c) 60 && (list_all (λ b. is_word b || (b == 46)) c && not (begins system_dot c)))

-- an index has 1 to 40 letters, digits and `_`
unfoldable pub is_index : List ℕ → Bool
is_index i = nat_lt 0 (length i) && (nat_le (length i) 40 && list_all is_word i)

-- the bytes before the first `$`, and those behind it
abbrev pub dollar_at : List ℕ → ℕ
dollar_at name = prefix_len (λ b. not (b == 36)) name

-- `C.$I`: before the first `$` a dot
unfoldable pub is_coll_index : List ℕ → Bool
is_coll_index name = nat_lt 0 (dollar_at name) && (nat_lt (dollar_at name) (length name) && ((slice_index name (dollar_at name - 1) == 46)
    && (is_coll (take (dollar_at name - 1) name) && is_index (drop (suc (dollar_at name)) name))))

-- `d.$freelist`, `d.system.indexes`, `d.C` or `d.C.$I`, of 1 to 120 bytes
abbrev pub free_name : List ℕ → List ℕ
free_name d = d ++ free_list

abbrev pub indexes_name : List ℕ → List ℕ
indexes_name d = d ++ 46 ∷ system_indexes

-- `d.C` or `d.C.$I`
unfoldable pub is_own : List ℕ → List ℕ → Bool
is_own d name = begins (d ++ 46 ∷ []) name && (is_coll (drop (suc (length d)) name) || is_coll_index (drop (suc (length d)) name))

unfoldable pub has_form : List ℕ → List ℕ → Bool
has_form d name = nat_lt 0 (length name) && (nat_le (length name) 120 && (is_name name (free_name d) || (is_name name (indexes_name d) || is_own d name)))

-- ---- the nodes

-- one of the first k nodes is used and has the name
unfoldable pub has_name : List ℕ → ℕ → List ℕ → Bool
has_name bytes zero name = false
has_name bytes (suc k) name = (not (is_free (node_at bytes k)) && is_name (name_in (node_at bytes k)) name) || has_name bytes k name

-- The node is free; or its field has a name of that form, zero padded, its hash, and no used node below has the name.
abbrev pub node_right : List ℕ → List ℕ → ℕ → Bool
node_right d bytes k = is_free (node_at bytes k) || (is_name (head_in (node_at bytes k)).name (padded 128 (name_in (node_at bytes k)))
    && (has_form d (name_in (node_at bytes k)) && (((head_in (node_at bytes k)).hash == hash_of (name_in (node_at bytes k))) && not (has_name bytes k (name_in (node_at bytes k))))))

-- where a node begins
abbrev pub node_place : ℕ → Place
node_place k = (NS_FILE, 628 * k)

-- n nodes from number k on
abbrev pub used_questions : List ℕ → List ℕ → ℕ → ℕ → List (Question Place)
used_questions d bytes k zero = []
used_questions d bytes k (suc n) = asked (node_place k) (node_right d bytes k) ∷ used_questions d bytes (suc k) n

-- used nodes by number: name form, its hash, no name twice; the two setup nodes there
abbrev pub node_questions : List ℕ → List ℕ → List (Question Place)
node_questions d bytes = used_questions d bytes 0 (count_of bytes)
    ++ asked (NS_FILE, 0) (has_name bytes (count_of bytes) (free_name d))
    ∷ asked (NS_FILE, 0) (has_name bytes (count_of bytes) (indexes_name d))
    ∷ []

-- ---- what it comes to: point 2 of what stands

-- a used node has the name
pub record NamesNode (bytes name : List ℕ) : Type 0 where
  pub node : ℕ
  pub used : is_used bytes node ≡ true
  pub named : name_in (node_at bytes node) ≡ name

-- The used nodes have names of these forms, with their hash and none twice, and the two setup nodes are there.
pub record NodesStand (d bytes : List ℕ) : Type 0 where
  pub table : IsTable bytes
  pub forms : (k : ℕ) → is_used bytes k ≡ true → has_form d (name_in (node_at bytes k)) ≡ true
  pub free : NamesNode bytes (free_name d)
  pub indexes : NamesNode bytes (indexes_name d)
