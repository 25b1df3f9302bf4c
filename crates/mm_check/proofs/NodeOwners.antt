-- Nodes with their chains and their lists, by their names.
use Rattle.std.proofs.Common.{◌≡◌, ℕ, zero, suc, ◌+◌, ◌≤◌, ◌<◌, ◌⊎◌, inl, inr, Bool, true, false, List, [], ◌∷◌, length, refl, sym, ◌∙◌, ap, subst, arith}
use Rattle.std.specs.Prelude.{◌==◌, flat_map}
use Rattle.std.proofs.lemmas.Bool.{cases_Bool, cases_lt, false≢true, eqb-true}
use Rattle.mm_ranges.specs.Overlay.{Image}
use Rattle.mm_nstable.specs.Nodes.{is_used, count_of}
use Rattle.mm_nstable.proofs.Tables.{used_parts}
use Rattle.mm_links.specs.Links.{Place, has}
use Rattle.mm_records.specs.Constants.{is_name}
use Rattle.mm_records.specs.Stands.{ns_in}
use Rattle.mm_records.proofs.Freed.{name_own, name_is}
use Rattle.mm_check.specs.NodeQuestions.{free_name}
use Rattle.mm_check.specs.Findings.{nodes_in, used_from, name_of, Owner, owners_of, without_free}
use Rattle.mm_check.specs.FoundShape.{chain_named}
use Rattle.mm_check.proofs.RecordLaws.{if_yes, if_no, eq_of}
use Rattle.mm_check.proofs.PhaseBack.{has_either}
use Rattle.mm_check.proofs.Insides.{has_in}

no_true : (b : Bool) → (b ≡ true → ⊥) → b ≡ false
no_true true f = absurd (f refl)
no_true false f = refl

-- ---- members

abbrev pub Owns : Owner → List Owner → Type 0
Owns o [] = ⊥
Owns o (x ∷ xs) = (o ≡ x) ⊎ Owns o xs

abbrev pub IsOne : ℕ → List ℕ → Type 0
IsOne k [] = ⊥
IsOne k (x ∷ xs) = (k ≡ x) ⊎ IsOne k xs

-- the names of these nodes differ
abbrev pub Apart : Image → List Owner → Type 0
Apart image [] = Unit {0}
Apart image (o ∷ os) = ((x : Owner) → Owns x os → is_name (name_of image o.node) (name_of image x.node) ≡ false) × Apart image os

abbrev pub Differs : Image → List ℕ → Type 0
Differs image [] = Unit {0}
Differs image (k ∷ ks) = ((j : ℕ) → IsOne j ks → is_name (name_of image k) (name_of image j) ≡ false) × Differs image ks

-- ---- used nodes

one_used : (bytes : List ℕ) (k m n : ℕ) → m ≤ k → k < m + n → is_used bytes k ≡ true → IsOne k (used_from bytes m n)
one_used bytes k m zero lo hi u = absurd (omega (arith, lo, hi))
one_used bytes k m (suc n) lo hi u = elim (cases_Bool (m == k)) [
  | inl y ↦
      let s : m ≡ k = eqb-true m k y in
      subst (IsOne k) (sym (if_yes (is_used bytes m) (m ∷ used_from bytes (suc m) n) (used_from bytes (suc m) n) (ap (is_used bytes) s ∙ u))) (inl (sym s))
  | inr x ↦
      let t = one_used bytes k (suc m) n (above m k lo x) (omega (arith, hi)) u in
      elim (cases_Bool (is_used bytes m)) [
        | inl y ↦ subst (IsOne k) (sym (if_yes (is_used bytes m) (m ∷ used_from bytes (suc m) n) (used_from bytes (suc m) n) y)) (inr t)
        | inr z ↦ subst (IsOne k) (sym (if_no (is_used bytes m) (m ∷ used_from bytes (suc m) n) (used_from bytes (suc m) n) z)) t
      ]
]
  where
    above : (m k : ℕ) → m ≤ k → (m == k) ≡ false → suc m ≤ k
    above m k le n = elim (cases_lt m k) [ inl lt ↦ lt | inr ge ↦ absurd (false≢true (sym n ∙ eq_of m k (omega (arith, le, ge)))) ]

used_one : (bytes : List ℕ) (k m n : ℕ) → IsOne k (used_from bytes m n) → (is_used bytes k ≡ true) × (m ≤ k)
used_one bytes k m zero i = absurd i
used_one bytes k m (suc n) i = elim (cases_Bool (is_used bytes m)) [
  | inl y ↦ by y (λ j. used_one bytes k (suc m) n j) (subst (IsOne k) (if_yes (is_used bytes m) (m ∷ used_from bytes (suc m) n) (used_from bytes (suc m) n) y) i)
  | inr z ↦ let t = used_one bytes k (suc m) n (subst (IsOne k) (if_no (is_used bytes m) (m ∷ used_from bytes (suc m) n) (used_from bytes (suc m) n) z) i) in let le = t.1 in (t.0, omega (arith, le))
]
  where
    by : is_used bytes m ≡ true → (IsOne k (used_from bytes (suc m) n) → (is_used bytes k ≡ true) × (suc m ≤ k)) → (k ≡ m) ⊎ IsOne k (used_from bytes (suc m) n) → (is_used bytes k ≡ true) × (m ≤ k)
    by y f (inl e) = (ap (is_used bytes) e ∙ y, omega (arith, e))
    by y f (inr j) = let t = f j in let le = t.1 in (t.0, omega (arith, le))

pub node_in : (image : Image) (k : ℕ) → is_used (ns_in image) k ≡ true → IsOne k (nodes_in image)
unfolding nodes_in
node_in image k u = let lt = (used_parts (ns_in image) k u).there in one_used (ns_in image) k 0 (count_of (ns_in image)) (omega arith) (omega (arith, lt)) u

pub in_node : (image : Image) (k : ℕ) → IsOne k (nodes_in image) → is_used (ns_in image) k ≡ true
unfolding nodes_in
in_node image k i = (used_one (ns_in image) k 0 (count_of (ns_in image)) i).0

-- ---- a node and its chain

pub owner_node : (ks : List ℕ) (pss : List (List Place)) (o : Owner) → Owns o (owners_of ks pss) → IsOne o.node ks
owner_node [] pss o i = absurd i
owner_node (k ∷ ks) [] o i = absurd i
owner_node (k ∷ ks) (ps ∷ pss) o (inl e) = inl (ap (λ (x : Owner). x.node) e)
owner_node (k ∷ ks) (ps ∷ pss) o (inr j) = inr (owner_node ks pss o j)

pub node_owner : (ks : List ℕ) (pss : List (List Place)) (k : ℕ) → length ks ≡ length pss → IsOne k ks → (o : Owner) × Owns o (owners_of ks pss) × (o.node ≡ k)
node_owner [] pss k l i = absurd i
node_owner (x ∷ ks) [] k l i = absurd (omega (arith, l))
node_owner (x ∷ ks) (ps ∷ pss) k l (inl e) = (record { node = x; extents = ps }, inl refl, sym e)
node_owner (x ∷ ks) (ps ∷ pss) k l (inr j) = let t = node_owner ks pss k (omega (arith, l)) j in (t.0, inr t.1, t.2)

pub owners_apart : (image : Image) (ks : List ℕ) (pss : List (List Place)) → Differs image ks → Apart image (owners_of ks pss)
owners_apart image [] pss a = tt
owners_apart image (k ∷ ks) [] a = tt
owners_apart image (k ∷ ks) (ps ∷ pss) a = (λ x i. a.0 x.node (owner_node ks pss x i), owners_apart image ks pss a.1)

-- those that are kept
pub kept_owner : (d : List ℕ) (image : Image) (os : List Owner) (o : Owner) → Owns o (without_free d image os) → Owns o os × (is_name (name_of image o.node) (free_name d) ≡ false)
kept_owner d image [] o i = absurd i
kept_owner d image (x ∷ os) o i = elim (cases_Bool (is_name (name_of image x.node) (free_name d))) [
  | inl y ↦ let t = kept_owner d image os o (subst (Owns o) (if_yes (is_name (name_of image x.node) (free_name d)) (without_free d image os) (x ∷ without_free d image os) y) i) in (inr t.0, t.1)
  | inr n ↦ by n (λ j. kept_owner d image os o j) (subst (Owns o) (if_no (is_name (name_of image x.node) (free_name d)) (without_free d image os) (x ∷ without_free d image os) n) i)
]
  where
    by : is_name (name_of image x.node) (free_name d) ≡ false → (Owns o (without_free d image os) → Owns o os × (is_name (name_of image o.node) (free_name d) ≡ false)) → (o ≡ x) ⊎ Owns o (without_free d image os) → Owns o (x ∷ os) × (is_name (name_of image o.node) (free_name d) ≡ false)
    by n f (inl e) = (inl e, ap (λ (y : Owner). is_name (name_of image y.node) (free_name d)) e ∙ n)
    by n f (inr j) = let t = f j in (inr t.0, t.1)

pub owner_kept : (d : List ℕ) (image : Image) (os : List Owner) (o : Owner) → Owns o os → is_name (name_of image o.node) (free_name d) ≡ false → Owns o (without_free d image os)
owner_kept d image [] o i n = absurd i
owner_kept d image (x ∷ os) o (inl e) n =
    subst (Owns o) (sym (if_no (is_name (name_of image x.node) (free_name d)) (without_free d image os) (x ∷ without_free d image os) (ap (λ (y : Owner). is_name (name_of image y.node) (free_name d)) (sym e) ∙ n))) (inl e)
owner_kept d image (x ∷ os) o (inr j) n = elim (cases_Bool (is_name (name_of image x.node) (free_name d))) [
  | inl y ↦ subst (Owns o) (sym (if_yes (is_name (name_of image x.node) (free_name d)) (without_free d image os) (x ∷ without_free d image os) y)) (owner_kept d image os o j n)
  | inr m ↦ subst (Owns o) (sym (if_no (is_name (name_of image x.node) (free_name d)) (without_free d image os) (x ∷ without_free d image os) m)) (inr (owner_kept d image os o j n))
]

pub kept_apart : (d : List ℕ) (image : Image) (os : List Owner) → Apart image os → Apart image (without_free d image os)
kept_apart d image [] a = tt
kept_apart d image (x ∷ os) a = elim (cases_Bool (is_name (name_of image x.node) (free_name d))) [
  | inl y ↦ subst (Apart image) (sym (if_yes (is_name (name_of image x.node) (free_name d)) (without_free d image os) (x ∷ without_free d image os) y)) (kept_apart d image os a.1)
  | inr m ↦ subst (Apart image) (sym (if_no (is_name (name_of image x.node) (free_name d)) (without_free d image os) (x ∷ without_free d image os) m)) (λ o i. a.0 o (kept_owner d image os o i).0, kept_apart d image os a.1)
]

-- the chain of a name is that of its node
pub chain_own : (image : Image) (os : List Owner) (o : Owner) → Apart image os → Owns o os → chain_named image os (name_of image o.node) ≡ o.extents
chain_own image [] o a i = absurd i
chain_own image (x ∷ os) o a (inl e) =
    if_yes (is_name (name_of image x.node) (name_of image o.node)) x.extents (chain_named image os (name_of image o.node)) (name_own _ _ (ap (λ (y : Owner). name_of image y.node) (sym e))) ∙ ap (λ (y : Owner). y.extents) (sym e)
chain_own image (x ∷ os) o a (inr j) =
    if_no (is_name (name_of image x.node) (name_of image o.node)) x.extents (chain_named image os (name_of image o.node)) (a.0 o j) ∙ chain_own image os o a.1 j

-- a node has a name, or none of these has it
pub owner_named : (image : Image) (os : List Owner) (name : List ℕ) → ((o : Owner) × Owns o os × (name_of image o.node ≡ name)) ⊎ ((o : Owner) → Owns o os → is_name (name_of image o.node) name ≡ false)
owner_named image [] name = inr (λ o i. absurd i)
owner_named image (x ∷ os) name = elim (cases_Bool (is_name (name_of image x.node) name)) [
  | inl y ↦ inl (x, inl refl, name_is _ _ y)
  | inr n ↦ by n (owner_named image os name)
]
  where
    none : is_name (name_of image x.node) name ≡ false → ((o : Owner) → Owns o os → is_name (name_of image o.node) name ≡ false) → (o : Owner) → Owns o (x ∷ os) → is_name (name_of image o.node) name ≡ false
    none n f o (inl e) = ap (λ (y : Owner). is_name (name_of image y.node) name) e ∙ n
    none n f o (inr j) = f o j

    by : is_name (name_of image x.node) name ≡ false → ((o : Owner) × Owns o os × (name_of image o.node ≡ name)) ⊎ ((o : Owner) → Owns o os → is_name (name_of image o.node) name ≡ false)
        → ((o : Owner) × Owns o (x ∷ os) × (name_of image o.node ≡ name)) ⊎ ((o : Owner) → Owns o (x ∷ os) → is_name (name_of image o.node) name ≡ false)
    by n (inl t) = inl (t.0, inr t.1, t.2)
    by n (inr f) = inr (none n f)

pub chain_none : (image : Image) (os : List Owner) (name : List ℕ) → ((o : Owner) → Owns o os → is_name (name_of image o.node) name ≡ false) → chain_named image os name ≡ []
chain_none image [] name f = refl
chain_none image (x ∷ os) name f = if_no (is_name (name_of image x.node) name) x.extents (chain_named image os name) (f x (inl refl)) ∙ chain_none image os name (λ o i. f o (inr i))

-- an extent of a node is one of all
pub owned_in : (os : List Owner) (o : Owner) (e : Place) → Owns o os → has o.extents e ≡ true → has (flat_map (λ x. x.extents) os) e ≡ true
owned_in [] o e i h = absurd i
owned_in (x ∷ os) o e (inl s) h = has_in x.extents (flat_map (λ y. y.extents) os) e (inl (ap (λ (y : Owner). has y.extents e) (sym s) ∙ h))
owned_in (x ∷ os) o e (inr j) h = has_in x.extents (flat_map (λ y. y.extents) os) e (inr (owned_in os o e j h))

pub in_owned : (os : List Owner) (e : Place) → has (flat_map (λ x. x.extents) os) e ≡ true → (o : Owner) × Owns o os × (has o.extents e ≡ true)
in_owned [] e h = absurd (false≢true h)
in_owned (x ∷ os) e h = elim (has_either x.extents (flat_map (λ y. y.extents) os) e h) [
  | inl i ↦ (x, inl refl, i)
  | inr j ↦ let t = in_owned os e j in (t.0, inr t.1, t.2)
]

-- ---- the used nodes have different names

module _ (image : Image) (apart : (j k : ℕ) → is_used (ns_in image) j ≡ true → is_used (ns_in image) k ≡ true → name_of image j ≡ name_of image k → j ≡ k) where
  used_differ : (k n : ℕ) → Differs image (used_from (ns_in image) k n)
  used_differ k zero = tt
  used_differ k (suc n) = elim (cases_Bool (is_used (ns_in image) k)) [
    | inl y ↦
        subst (Differs image) (sym (if_yes (is_used (ns_in image) k) (k ∷ used_from (ns_in image) (suc k) n) (used_from (ns_in image) (suc k) n) y)) (
          λ j i. no_true _ (λ h. let u = used_one (ns_in image) j (suc k) n i in let s : k ≡ j = apart k j y u.0 (name_is _ _ h) in let le = u.1 in omega (arith, s, le)),
          used_differ (suc k) n,
        )
    | inr x ↦ subst (Differs image) (sym (if_no (is_used (ns_in image) k) (k ∷ used_from (ns_in image) (suc k) n) (used_from (ns_in image) (suc k) n) x)) (used_differ (suc k) n)
  ]

  pub nodes_differ : Differs image (nodes_in image)
  unfolding nodes_in
  nodes_differ = used_differ 0 (count_of (ns_in image))
