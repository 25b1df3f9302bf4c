-- A file of zeros: each node is free.
use Rattle.std.proofs.Common.{◌≡◌, ℕ, ◌+◌, ◌-◌, ◌*◌, ◌<◌, ◌≤◌, true, false, List, [], take, Option, refl, sym, ◌∙◌, ap, subst, arith}
use Rattle.std.proofs.lemmas.Bool.{false≢true}
use Rattle.std.proofs.lemmas.List.{length-replicate, take-replicate, drop-replicate}
use Rattle.std.specs.Prelude.{replicate, unwrap_or}
use Rattle.std.specs.FinMap.{insert, empty, get-empty, get-insert, same_map, slice_cmp-IsAntisymmetric, nat_cmp-IsAntisymmetric}
use Rattle.std.specs.Ordering.{nat_cmp}
use Rattle.std.specs.Cmp.{nat_cmp_total}
use Rattle.std.specs.Cmp.Lexicographic.{slice_cmp, nat_list_cmp_total}
use Rattle.mm_base.specs.Bytes.{part, zeros}
use Rattle.mm_base.specs.Fields.{u32_of}
use Rattle.mm_frames.specs.NodeHead.{node_head_of}
use Rattle.mm_nstable.specs.Nodes.{count_of, node_at, head_in, is_free, is_used, IsTable, AreFreeZeros}
use Rattle.mm_ranges.specs.Overlay.{bytes_at}
use Rattle.mm_ranges.specs.declared.limits.TheConstants.{NS_FILE}
use Rattle.mm_views.specs.State.{State, Drafting, drafting_of}
use Rattle.mm_nstable.specs.Table.{table_of}
use Rattle.mm_nstable.specs.Changes.{ns_of}
use Rattle.mm_nstable.proofs.Stored.{node_inside}
use Rattle.mm_nstable.proofs.Tables.{used_parts, table_none}

pub free_zeros : is_free (zeros 628) ≡ true
unfolding head_in node_head_of u32_of part zeros
free_zeros = refl

part_zeros : (at n len : ℕ) → at + n ≤ len → part at n (replicate len 0) ≡ zeros n
unfolding part zeros
part_zeros at n len le = ap (take n) (drop-replicate at len 0) ∙ take-replicate n (len - at) 0 (omega arith)

node_zeros : (len k : ℕ) → k < count_of (replicate len 0) → node_at (replicate len 0) k ≡ zeros 628
node_zeros len k lt =
    let inside = node_inside (replicate len 0) k lt in
    let long = length-replicate {A = ℕ} len 0 in
    part_zeros (628 * k) 628 len (omega (arith, inside, long))

no_used : (len k : ℕ) → is_used (replicate len 0) k ≡ true → ⊥
no_used len k used =
    let parts = used_parts (replicate len 0) k used in
    false≢true (sym parts.used ∙ ap (λ (n : List ℕ). is_free n) (node_zeros len k parts.there) ∙ free_zeros)

pub zeros_are_table : (len : ℕ) → IsTable (replicate len 0)
zeros_are_table len = record { named = λ k used. absurd (no_used len k used); apart = λ j k used _ _. absurd (no_used len j used) }

pub zeros_are_free : (len : ℕ) → AreFreeZeros (replicate len 0)
zeros_are_free len = λ k lt _. node_zeros len k lt

pub zeros_are_empty : (len : ℕ) → table_of (replicate len 0) ≡ empty
zeros_are_empty len = same_map nat_list_cmp_total (slice_cmp-IsAntisymmetric nat_cmp-IsAntisymmetric) (table_of (replicate len 0)) empty (λ q.
    table_none (replicate len 0) q (λ k used _. no_used len k used) ∙ sym (get-empty (slice_cmp nat_cmp) q))

-- a `.ns` that was loaded
pub loaded_table : (d : Drafting) (v old : State) (len : ℕ) → d ≡ drafting_of v
    → v ≡ record old { shared = insert old.shared NS_FILE (replicate len 0); private = insert old.private NS_FILE (replicate len 0); is_ready = false } → IsTable (ns_of d)
loaded_table d v old len e f =
    let there : bytes_at (insert old.private NS_FILE (replicate len 0)) NS_FILE ≡ replicate len 0 =
    ap (λ (o : Option (List ℕ)). unwrap_or o []) (get-insert nat_cmp_total old.private NS_FILE (replicate len 0) NS_FILE) in
    subst (λ (b : List ℕ). IsTable b) (sym (ap (λ (x : Drafting). ns_of x) e ∙ ap (λ (s : State). bytes_at s.private NS_FILE) f ∙ there)) (zeros_are_table len)
