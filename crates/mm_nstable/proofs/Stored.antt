-- Bytes written inside one node.
use Rattle.std.proofs.Common.{◌≡◌, ◌≢◌, ℕ, ◌+◌, ◌*◌, ◌/◌, ◌<◌, ◌≤◌, ◌⊎◌, inl, inr, List, [], length, get_or, sym, ◌∙◌, ap, subst, arith}
use Rattle.std.specs.Prelude.{slice_set}
use Rattle.std.proofs.lemmas.Bool.{cases_lt}
use Rattle.std.proofs.lemmas.List.{get_or-set_other, length-set}
use Rattle.std.proofs.lemmas.Grind.{get_or-set_at}
use Rattle.std.proofs.lemmas.List.FromFn.{fill_by_all, get_or-map-range_with_len}
use Rattle.mm_base.specs.Bytes.{part, overwritten}
use Rattle.mm_base.specs.Lists.{list_of}
use Rattle.mm_base.proofs.ListLaws.{length-list_of}
use Rattle.mm_base.proofs.Parts.{length-overwritten, part_before, part_behind, part_around}
use Rattle.mm_nstable.specs.Nodes.{count_of, node_at, nodes_of}

-- a node lies inside the bytes
pub node_inside : (bytes : List ℕ) (k : ℕ) → k < count_of bytes → 628 * k + 628 ≤ length bytes
node_inside bytes k lt = omega arith

pub length-nodes_of : (bytes : List ℕ) → length (nodes_of bytes) ≡ count_of bytes
unfolding nodes_of
length-nodes_of bytes = length-list_of 628 (count_of bytes) (λ node. node) bytes

pub nodes_at : (bytes : List ℕ) (k : ℕ) → k < count_of bytes → get_or (nodes_of bytes) k [] ≡ node_at bytes k
unfolding nodes_of list_of
nodes_at bytes k lt = get_or-map-range_with_len (λ i. part (628 * i) 628 bytes) 0 (count_of bytes) k k [] lt (omega arith)

-- One node has new bytes, and all others are as they were.
pub record IsStored (bytes new : List ℕ) (j : ℕ) (node : List ℕ) : Type 0 where
  pub there : j < count_of bytes
  pub count : count_of new ≡ count_of bytes
  pub same : node_at new j ≡ node
  pub other : (k : ℕ) → k < count_of bytes → k ≢ j → node_at new k ≡ node_at bytes k

pub nodes_stored : (bytes new : List ℕ) (j : ℕ) (node : List ℕ) → IsStored bytes new j node → nodes_of new ≡ slice_set (nodes_of bytes) j node
unfolding nodes_of list_of
nodes_stored bytes new j node h =
    let xs = nodes_of bytes in
    let len : length (nodes_of bytes) ≡ count_of bytes = length-nodes_of bytes in
    sym (fill_by_all (λ i. part (628 * i) 628 new) (slice_set (nodes_of bytes) j node) (count_of new) [] (length-set (nodes_of bytes) j node ∙ len ∙ sym h.count) (λ k lt. each k (subst (λ (n : ℕ). k < n) h.count lt) (cases_lt k j) (cases_lt j k)))
  where
    each : (k : ℕ) → k < count_of bytes → (k < j) ⊎ (j ≤ k) → (j < k) ⊎ (k ≤ j) → get_or (slice_set (nodes_of bytes) j node) k [] ≡ node_at new k
    each k lt (inl below) _ = get_or-set_other (nodes_of bytes) j k node [] (omega arith) ∙ nodes_at bytes k lt ∙ sym (h.other k lt (omega arith))
    each k lt (inr _) (inl above) = get_or-set_other (nodes_of bytes) j k node [] (omega arith) ∙ nodes_at bytes k lt ∙ sym (h.other k lt (omega arith))
    each k lt (inr up) (inr down) =
        let e : k ≡ j = omega arith in
        let there = h.there in
        let len = length-nodes_of bytes in
        get_or-set_at (nodes_of bytes) j k node [] e (omega (arith, there, len)) ∙ sym (ap (λ (i : ℕ). node_at new i) e ∙ h.same)

-- bytes written at an offset of a node
pub stored_at : (bytes part' : List ℕ) (j p : ℕ) → j < count_of bytes → p + length part' ≤ 628 → IsStored bytes (overwritten (628 * j + p) part' bytes) j (overwritten p part' (node_at bytes j))
stored_at bytes part' j p lt fits =
    let inside = node_inside bytes j lt in
    let long : length (overwritten (628 * j + p) part' bytes) ≡ length bytes = length-overwritten (628 * j + p) part' bytes (omega arith) in
    record {
      there = lt;
      count = ap (λ (n : ℕ). n / 628) long;
      same = part_around (628 * j) 628 p part' bytes fits inside;
      other = λ k k_lt ne. elsewhere k k_lt ne (cases_lt k j);
    }
  where
    elsewhere : (k : ℕ) → k < count_of bytes → k ≢ j → (k < j) ⊎ (j ≤ k) → node_at (overwritten (628 * j + p) part' bytes) k ≡ node_at bytes k
    elsewhere k k_lt ne (inl below) = let inside = node_inside bytes j lt in part_before (628 * k) 628 (628 * j + p) part' bytes (omega arith) (omega arith)
    elsewhere k k_lt ne (inr up) = let inside = node_inside bytes j lt in part_behind (628 * k) 628 (628 * j + p) part' bytes (omega arith) (omega arith)
