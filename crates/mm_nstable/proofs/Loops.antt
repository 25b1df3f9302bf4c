-- Loops over the nodes.
use Rattle.std.proofs.Common.{◌≡◌, ℕ, ◌+◌, ◌<◌, ◌≤◌, true, false, List, [], ◌∷◌, ◌++◌, inl, inr, take, Option, Some, None, Result, Ok, Err, refl, sym, ◌∙◌, ap, arith}
use Rattle.std.proofs.lemmas.List.{take_all}
use Rattle.std.proofs.lemmas.List.Sums.{count_by_more_yes, count_by_more_no}
use Rattle.std.proofs.lemmas.Bool.Decides.{nat_tests}
use Rattle.std.proofs.lemmas.Bool.{cases_Bool}
use Rattle.std.specs.Prelude.{◌==◌, count_by, IfNone, OnOk, OnErr}
use Rattle.mm_frames.specs.declared.node_head.NodeHead.{NodeHead}
use Rattle.mm_nstable.specs.Nodes.{count_of, node_at, nodes_of, head_in, name_in, is_free, IsNamed, IsTable}
use Rattle.mm_nstable.specs.Table.{entries_from, entries_of}
use Rattle.mm_nstable.proofs.Stored.{length-nodes_of, nodes_at}
use Rattle.mm_nstable.proofs.Entries.{listed, listed_free, listed_used}
use Rattle.mm_nstable.proofs.Tables.{used_from}

-- both ways of a call
pub by_result : {T E P Q R : Type 0} (r : Result T E) → (P → R) → (Q → R) → OnOk r P → OnErr r Q → R
by_result (Ok x) f g p q = f p
by_result (Err e) f g p q = g q

pub none_of : {P : Type 0} (o : Option ℕ) → IfNone o P → ((k : ℕ) → o ≡ Some k → ⊥) → P
none_of None p other = p
none_of (Some k) p other = absurd (other k refl)

is_zero : (h : ℕ) → h ≡ 0 → (h == 0) ≡ true
is_zero h e = grind (arith, nat_tests)

pub not_zero : (h : ℕ) → (h ≡ 0 → ⊥) → (h == 0) ≡ false
not_zero h e = grind (arith, nat_tests)

pub all_nodes : (ns : List ℕ) (n : ℕ) → count_of ns ≤ n → take n (nodes_of ns) ≡ nodes_of ns
all_nodes ns n le = let len = length-nodes_of ns in take_all n (nodes_of ns) (omega (arith, len, le))

pub free_more : (ns : List ℕ) (k : ℕ) (h : NodeHead) → k < count_of ns → h ≡ head_in (node_at ns k) → h.hash ≡ 0 → count_by (λ n. is_free n) (take (k + 1) (nodes_of ns)) ≡ count_by (λ n. is_free n) (take k (nodes_of ns)) + 1
free_more ns k h lt e zero' =
    let len = length-nodes_of ns in
    count_by_more_yes (λ n. is_free n) (nodes_of ns) k [] (omega (arith, len, lt)) (ap (λ (n : List ℕ). is_free n) (nodes_at ns k lt) ∙ is_zero (head_in (node_at ns k)).hash (ap (λ (x : NodeHead). x.hash) (sym e) ∙ zero'))

pub free_same : (ns : List ℕ) (k : ℕ) (h : NodeHead) → k < count_of ns → h ≡ head_in (node_at ns k) → (h.hash ≡ 0 → ⊥) → count_by (λ n. is_free n) (take (k + 1) (nodes_of ns)) ≡ count_by (λ n. is_free n) (take k (nodes_of ns))
free_same ns k h lt e other =
    let len = length-nodes_of ns in
    count_by_more_no (λ n. is_free n) (nodes_of ns) k [] (omega (arith, len, lt)) (ap (λ (n : List ℕ). is_free n) (nodes_at ns k lt) ∙ not_zero (head_in (node_at ns k)).hash (λ z. other (ap (λ (x : NodeHead). x.hash) e ∙ z)))

pub listed_more : (ns : List ℕ) (k : ℕ) (name : List ℕ) → k < count_of ns → is_free (node_at ns k) ≡ false → name ≡ name_in (node_at ns k)
    → listed (entries_from 0 (take (k + 1) (nodes_of ns))) ≡ listed (entries_from 0 (take k (nodes_of ns))) ++ (name, k) ∷ []
listed_more ns k name lt used e =
    let len = length-nodes_of ns in
    let at = nodes_at ns k lt in
    listed_used (nodes_of ns) k (omega (arith, len, lt)) (ap (λ (n : List ℕ). is_free n) at ∙ used)
    ∙ ap (λ (m : List ℕ). listed (entries_from 0 (take k (nodes_of ns))) ++ (m, k) ∷ []) (ap (λ (n : List ℕ). name_in n) at ∙ sym e)

pub listed_same : (ns : List ℕ) (k : ℕ) → k < count_of ns → is_free (node_at ns k) ≡ true → listed (entries_from 0 (take (k + 1) (nodes_of ns))) ≡ listed (entries_from 0 (take k (nodes_of ns)))
listed_same ns k lt free =
    let len = length-nodes_of ns in
    listed_free (nodes_of ns) k (omega (arith, len, lt)) (ap (λ (n : List ℕ). is_free n) (nodes_at ns k lt) ∙ free)

-- a node whose name isn't read is free
pub is_free_if : (ns : List ℕ) (k : ℕ) → IsTable ns → k < count_of ns → (IsNamed (node_at ns k) → is_free (node_at ns k) ≡ true) → is_free (node_at ns k) ≡ true
is_free_if ns k t lt h = elim (cases_Bool (is_free (node_at ns k))) [ inl free ↦ free | inr used ↦ h (t.named k (used_from ns k lt used)) ]

pub all_listed : (ns : List ℕ) (n : ℕ) → count_of ns ≤ n → listed (entries_from 0 (take n (nodes_of ns))) ≡ listed (entries_of ns)
unfolding entries_of
all_listed ns n le = ap (λ (xs : List (List ℕ)). listed (entries_from 0 xs)) (all_nodes ns n le)
