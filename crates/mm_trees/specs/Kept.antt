-- What a store of buckets keeps.
use Rattle.std.specs.Prelude.{◌≡◌, ℕ, Bool, false, cond, None, refl}
use Rattle.std.specs.Coded.{Coded, code_by, coded×, coded_ℕ, coded_bool}
use Rattle.mm_views.specs.State.{Drafting, weight_in}
use Rattle.mm_views.specs.Codes.{drafting_code}
use Rattle.mm_btree.specs.Nodes.{Buckets}
use Rattle.mm_trees.specs.Buckets.{bucket_in, Reached, IsFull, IsScarce}

-- the draft, the node, whether a call gave up, the draft that it was made of, and how many places were asked for since
pub record Kept : Type 0 where
  pub draft : Drafting
  pub node : ℕ
  pub broken : Bool
  pub start : Drafting
  pub asked : ℕ

abbrev pub kept_code : Coded Kept
kept_code = code_by (Drafting × (ℕ × (Bool × (Drafting × ℕ)))) (coded× drafting_code (coded× coded_ℕ (coded× coded_bool (coded× drafting_code coded_ℕ))))
    (λ k. (k.draft, (k.node, (k.broken, (k.start, k.asked))))) (λ p. record { draft = p.0; node = p.1.0; broken = p.1.1.0; start = p.1.1.1.0; asked = p.1.1.1.1 }) (λ _. refl)

-- where no call gave up, the draft holds buckets that go back to those of the start
abbrev pub IsKept : Kept → Type 0
IsKept k = k.broken ≡ false → Reached k.start.image k.draft.image k.node k.asked

-- its buckets: none once a call gave up
abbrev pub bucket_of : Kept → Buckets
bucket_of k at = cond k.broken None (bucket_in k.draft.image k.node at)

abbrev pub is_full_of : Kept → Type 0
is_full_of k = IsFull k.start.image k.draft.image k.node × IsScarce k.start.image k.node k.asked

abbrev pub asked_of : Kept → ℕ
asked_of k = k.asked

-- how much its draft declares
abbrev pub weight_of : Kept → ℕ
weight_of k = weight_in k.draft.made k.draft.declared

-- what no call changes
abbrev pub start_of : Kept → Drafting × ℕ
start_of k = (k.start, k.node)
