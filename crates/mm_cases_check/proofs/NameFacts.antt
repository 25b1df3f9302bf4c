-- The names of the namespaces.
use Rattle.std.proofs.Common.{◌≡◌, ℕ, true, false, List, [], ◌∷◌, Option, Some, None, refl, sym, ap, subst, arith}
use Rattle.std.specs.Prelude.{IfSome, slice_index_or}
use Rattle.mm_nstable.specs.FreeChain.{IsFreeName}
use Rattle.mm_records.specs.Constants.{is_collection}

pub of_some : {P Q : List ℕ → Type 0} (r : Option (List ℕ)) → IfSome r P → ((x : List ℕ) → P x → Q x) → IfSome r Q
of_some None p f = tt
of_some (Some x) p f = f x p

-- test.$freelist
abbrev chain_bytes : List ℕ
chain_bytes = 116 ∷ 101 ∷ 115 ∷ 116 ∷ 46 ∷ 36 ∷ 102 ∷ 114 ∷ 101 ∷ 101 ∷ 108 ∷ 105 ∷ 115 ∷ 116 ∷ []

-- test.system.indexes
abbrev indexes_bytes : List ℕ
indexes_bytes = 116 ∷ 101 ∷ 115 ∷ 116 ∷ 46 ∷ 115 ∷ 121 ∷ 115 ∷ 116 ∷ 101 ∷ 109 ∷ 46 ∷ 105 ∷ 110 ∷ 100 ∷ 101 ∷ 120 ∷ 101 ∷ 115 ∷ []

-- test.c
abbrev collection_bytes : List ℕ
collection_bytes = 116 ∷ 101 ∷ 115 ∷ 116 ∷ 46 ∷ 99 ∷ []

-- test.d
abbrev dropped_bytes : List ℕ
dropped_bytes = 116 ∷ 101 ∷ 115 ∷ 116 ∷ 46 ∷ 100 ∷ []

-- test.c.$_id_
abbrev index_bytes : List ℕ
index_bytes = 116 ∷ 101 ∷ 115 ∷ 116 ∷ 46 ∷ 99 ∷ 46 ∷ 36 ∷ 95 ∷ 105 ∷ 100 ∷ 95 ∷ []

chain_named : IsFreeName chain_bytes
unfolding IsFreeName
chain_named = refl

chain_kind : is_collection chain_bytes ≡ false
unfolding is_collection
chain_kind = refl

indexes_named : IsFreeName indexes_bytes → ⊥
unfolding IsFreeName
indexes_named e = (let f : 115 ≡ 36 = ap (λ (xs : List ℕ). slice_index_or xs 1 0) e in omega (arith, f))

indexes_kind : is_collection indexes_bytes ≡ false
unfolding is_collection
indexes_kind = refl

collection_named : IsFreeName collection_bytes → ⊥
unfolding IsFreeName
collection_named e = (let f : 99 ≡ 36 = ap (λ (xs : List ℕ). slice_index_or xs 1 0) e in omega (arith, f))

collection_kind : is_collection collection_bytes ≡ true
unfolding is_collection
collection_kind = refl

dropped_named : IsFreeName dropped_bytes → ⊥
unfolding IsFreeName
dropped_named e = (let f : 100 ≡ 36 = ap (λ (xs : List ℕ). slice_index_or xs 1 0) e in omega (arith, f))

dropped_kind : is_collection dropped_bytes ≡ true
unfolding is_collection
dropped_kind = refl

index_named : IsFreeName index_bytes → ⊥
unfolding IsFreeName
index_named e = (let f : 99 ≡ 36 = ap (λ (xs : List ℕ). slice_index_or xs 1 0) e in omega (arith, f))

index_kind : is_collection index_bytes ≡ false
unfolding is_collection
index_kind = refl

pub chain_facts : (x : List ℕ) → x ≡ 116 ∷ 101 ∷ 115 ∷ 116 ∷ 46 ∷ 36 ∷ 102 ∷ 114 ∷ 101 ∷ 101 ∷ 108 ∷ 105 ∷ 115 ∷ 116 ∷ [] → IsFreeName x × (is_collection x ≡ false)
chain_facts x e = subst (λ (y : List ℕ). IsFreeName y × (is_collection y ≡ false)) (sym e) (chain_named, chain_kind)

pub indexes_facts : (x : List ℕ) → x ≡ 116 ∷ 101 ∷ 115 ∷ 116 ∷ 46 ∷ 115 ∷ 121 ∷ 115 ∷ 116 ∷ 101 ∷ 109 ∷ 46 ∷ 105 ∷ 110 ∷ 100 ∷ 101 ∷ 120 ∷ 101 ∷ 115 ∷ [] → (IsFreeName x → ⊥) × (is_collection x ≡ false)
indexes_facts x e = subst (λ (y : List ℕ). (IsFreeName y → ⊥) × (is_collection y ≡ false)) (sym e) (indexes_named, indexes_kind)

pub collection_facts : (x : List ℕ) → x ≡ 116 ∷ 101 ∷ 115 ∷ 116 ∷ 46 ∷ 99 ∷ [] → (IsFreeName x → ⊥) × (is_collection x ≡ true)
collection_facts x e = subst (λ (y : List ℕ). (IsFreeName y → ⊥) × (is_collection y ≡ true)) (sym e) (collection_named, collection_kind)

pub index_facts : (x : List ℕ) → x ≡ 116 ∷ 101 ∷ 115 ∷ 116 ∷ 46 ∷ 99 ∷ 46 ∷ 36 ∷ 95 ∷ 105 ∷ 100 ∷ 95 ∷ [] → (IsFreeName x → ⊥) × (is_collection x ≡ false)
index_facts x e = subst (λ (y : List ℕ). (IsFreeName y → ⊥) × (is_collection y ≡ false)) (sym e) (index_named, index_kind)

pub dropped_facts : (x : List ℕ) → x ≡ 116 ∷ 101 ∷ 115 ∷ 116 ∷ 46 ∷ 100 ∷ [] → (IsFreeName x → ⊥) × (is_collection x ≡ true)
dropped_facts x e = subst (λ (y : List ℕ). (IsFreeName y → ⊥) × (is_collection y ≡ true)) (sym e) (dropped_named, dropped_kind)
