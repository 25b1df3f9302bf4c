-- The fields of details that no record changes (MongoDB 2.6, MMAPv1: NamespaceDetails).
use Rattle.std.specs.Prelude.{◌≡◌, ℕ, ℤ, pos, suc, ◌<◌, ◌≤ℤ◌, Bool, false, ◌&&◌, ◌==◌, not, if◌then◌else◌, List, [], ◌∷◌, drop, slice_index_or, Some}
use Rattle.std.specs.List.{prefix_len, list_any}
use Rattle.std.specs.Ordering.{eq_by_cmp, nat_cmp}
use Rattle.std.specs.Cmp.Lexicographic.{slice_cmp}
use Rattle.std.specs.FinMap.{get}
use Rattle.mm_base.specs.Places.{null}
use Rattle.mm_frames.specs.declared.details.TheConstants.{PADDING, MAX_DOCS_UNCAPPED}
use Rattle.mm_frames.specs.declared.details.Details.{Details}
use Rattle.mm_frames.specs.declared.index_pair.IndexPair.{IndexPair}
use Rattle.mm_nstable.specs.Table.{Held, table_of}

-- the two names are one
abbrev pub is_name : List ℕ → List ℕ → Bool
is_name q m = eq_by_cmp (slice_cmp nat_cmp) q m

-- what stands behind the first dot of a name
abbrev pub behind_dot : List ℕ → List ℕ
behind_dot name = drop (suc (prefix_len (λ b. not (b == 46)) name)) name

-- the bytes of `system.indexes`
abbrev pub system_indexes : List ℕ
system_indexes = 115 ∷ 121 ∷ 115 ∷ 116 ∷ 101 ∷ 109 ∷ 46 ∷ 105 ∷ 110 ∷ 100 ∷ 101 ∷ 120 ∷ 101 ∷ 115 ∷ []

-- It is the name of a collection: neither of an index, which has a `$` behind its first dot, nor of the list of indexes.
unfoldable pub is_collection : List ℕ → Bool
is_collection name = not (list_any (λ b. b == 36) (behind_dot name)) && not (is_name (behind_dot name) system_indexes)

-- 1 for a collection, else 0
abbrev pub flag_of : List ℕ → ℤ
flag_of name = if is_collection name then pos 1 else pos 0

-- no index is there
abbrev pub no_pair : IndexPair
no_pair = record { head = null; info = null }

pub record HasConstants (name : List ℕ) (d : Details) : Type 0 where
  pub few_indexes : (n : ℕ) × (n < 11) × (d.n_indexes ≡ pos n)
  pub no_indexes : is_collection name ≡ false → d.n_indexes ≡ pos 0
  pub spare_pairs : (i : ℕ) → d.n_indexes ≤ℤ pos i → i < 10 → slice_index_or d.indexes i no_pair ≡ no_pair
  pub is_capped : d.is_capped ≡ pos 0
  pub max_docs : d.max_docs_in_capped ≡ MAX_DOCS_UNCAPPED
  pub padding : d.padding ≡ PADDING
  pub system_flags : d.system_flags ≡ flag_of name
  pub cap_extent : d.cap_extent ≡ null
  pub cap_first_new_record : d.cap_first_new_record ≡ null
  pub data_file_version : d.data_file_version ≡ 0
  pub index_file_version : d.index_file_version ≡ 0
  pub multikey : d.multikey ≡ 0
  pub extra_offset : d.extra_offset ≡ pos 0
  pub index_builds : d.index_builds ≡ pos 0
  pub user_flags : d.user_flags ≡ flag_of name

-- details without what records, extents and lists change
abbrev pub constants_of : Details → Details
constants_of d = record d { first_extent = null; last_extent = null; deleted = []; datasize = pos 0; nrecords = pos 0; last_extent_size = pos 0 }

-- Each name that two `.ns` files have is in the same node, with the same constant fields.
pub record SameConstants (old new : List ℕ) : Type 0 where
  pub nodes : (name : List ℕ) (a b : Held) → get (table_of old) name ≡ Some a → get (table_of new) name ≡ Some b → a.node ≡ b.node
  pub details : (name : List ℕ) (a b : Held) → get (table_of old) name ≡ Some a → get (table_of new) name ≡ Some b → constants_of a.details ≡ constants_of b.details
