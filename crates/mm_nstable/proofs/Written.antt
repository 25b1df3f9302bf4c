-- What is read of a node, and what is written into one.
use Rattle.std.proofs.Common.{◌≡◌, ℕ, ◌+◌, ◌-◌, ◌*◌, ◌<◌, ◌≤◌, List, [], ◌++◌, length, take, drop, Option, refl, sym, ◌∙◌, ap, subst, arith, append_assoc}
use Rattle.std.specs.Prelude.{unwrap_or}
use Rattle.mm_base.specs.Bytes.{part, overwritten}
use Rattle.mm_base.proofs.Parts.{length-part, part_whole, part_front, part-part, part_before, part-overwritten, overwritten_whole}
use Rattle.mm_bytes.specs.Files.{read_from}
use Rattle.mm_bytes.proofs.Agree.{read_part, same_overwritten}
use Rattle.mm_ranges.specs.declared.limits.TheConstants.{NS_FILE}
use Rattle.mm_ranges.proofs.Overlaying.{get-laid}
use Rattle.mm_views.specs.State.{Drafting}
use Rattle.mm_frames.specs.NodeHead.{node_head_of}
use Rattle.mm_frames.specs.Details.{details_of}
use Rattle.mm_frames.specs.declared.node_head.NodeHead.{NodeHead}
use Rattle.mm_frames.specs.declared.details.Details.{Details}
use Rattle.mm_nstable.specs.Nodes.{count_of, node_at, head_in, details_in}
use Rattle.mm_nstable.specs.Changes.{ns_of, written_at}
use Rattle.mm_nstable.proofs.Stored.{node_inside, IsStored, stored_at}

-- ---- reading

pub head_is : (ns buf : List ℕ) (at k n : ℕ) (r : NodeHead) → k < count_of ns → at ≡ 628 * k → n ≡ 132 → buf ≡ read_from at n ns → r ≡ node_head_of (part 0 132 buf) → r ≡ head_in (node_at ns k)
unfolding head_in
head_is ns buf at k n r lt e en is r_is =
    let inside = node_inside ns k lt in
    r_is ∙ ap node_head_of (ap (part 0 132) (is ∙ read_part at n ns ∙ ap (λ (a : ℕ). part a n ns) e ∙ ap (λ (m : ℕ). part (628 * k) m ns) en) ∙ part_whole 132 (part (628 * k) 132 ns) (length-part (628 * k) 132 ns (omega arith)) ∙ sym (part_front 132 (628 * k) 628 ns (omega arith)))

pub details_are : (ns buf : List ℕ) (at k n : ℕ) (r : Details) → k < count_of ns → at ≡ 628 * k → n ≡ 496 → buf ≡ read_from (at + 132) n ns → r ≡ details_of (part 0 496 buf) → r ≡ details_in (node_at ns k)
unfolding details_in
details_are ns buf at k n r lt e en is r_is =
    let inside = node_inside ns k lt in
    r_is ∙ ap details_of (ap (part 0 496) (is ∙ read_part (at + 132) n ns ∙ ap (λ (a : ℕ). part (a + 132) n ns) e ∙ ap (λ (m : ℕ). part (628 * k + 132) m ns) en) ∙ part_whole 496 (part (628 * k + 132) 496 ns) (length-part (628 * k + 132) 496 ns (omega arith)) ∙ sym (part-part 132 496 (628 * k) 628 ns (omega arith)))

-- ---- writing

ns_written : (d : Drafting) (at : ℕ) (bytes : List ℕ) → at ≤ length (ns_of d) → ns_of (written_at at bytes d) ≡ overwritten at bytes (ns_of d)
ns_written d at bytes le = ap (λ (o : Option (List ℕ)). unwrap_or o []) (get-laid NS_FILE at bytes d.image NS_FILE) ∙ same_overwritten at bytes (ns_of d) le

length-node : (ns : List ℕ) (k : ℕ) → k < count_of ns → length (node_at ns k) ≡ 628
length-node ns k lt = length-part (628 * k) 628 ns (node_inside ns k lt)

-- a part of a node is written
pub stored_part : (d d' : Drafting) (k p : ℕ) (bytes : List ℕ) → k < count_of (ns_of d) → p + length bytes ≤ 628 → d' ≡ written_at (628 * k + p) bytes d → IsStored (ns_of d) (ns_of d') k (overwritten p bytes (node_at (ns_of d) k))
stored_part d d' k p bytes lt fits e =
    let inside = node_inside (ns_of d) k lt in
    subst (λ (new : List ℕ). IsStored (ns_of d) new k (overwritten p bytes (node_at (ns_of d) k))) (sym (ap (λ (x : Drafting). ns_of x) e ∙ ns_written d (628 * k + p) bytes (omega arith))) (stored_at (ns_of d) bytes k p lt fits)

-- a whole node is written
pub stored_whole : (d d' : Drafting) (k : ℕ) (node : List ℕ) → k < count_of (ns_of d) → length node ≡ 628 → d' ≡ written_at (628 * k) node d → IsStored (ns_of d) (ns_of d') k node
stored_whole d d' k node lt long e =
    let at : 628 * k ≡ 628 * k + 0 = omega arith in
    let fits : 0 + length node ≤ 628 = omega arith in
    subst (λ (n : List ℕ). IsStored (ns_of d) (ns_of d') k n) (overwritten_whole node (node_at (ns_of d) k) (long ∙ sym (length-node (ns_of d) k lt)))
    (stored_part d d' k 0 node lt fits (e ∙ ap (λ (a : ℕ). written_at a node d) at))

-- what a node says whose details are written
pub head_stays : (ns : List ℕ) (k : ℕ) (bytes : List ℕ) → k < count_of ns → head_in (overwritten 132 bytes (node_at ns k)) ≡ head_in (node_at ns k)
unfolding head_in
head_stays ns k bytes lt = let long = length-node ns k lt in ap node_head_of (part_before 0 132 132 bytes (node_at ns k) (omega arith) (omega (arith, long)))

pub details_put : (ns : List ℕ) (k : ℕ) (bytes : List ℕ) (d : Details) → k < count_of ns → length bytes ≡ 496 → details_of bytes ≡ d → details_in (overwritten 132 bytes (node_at ns k)) ≡ d
unfolding details_in
details_put ns k bytes d lt len again = let long = length-node ns k lt in ap details_of (part-overwritten 132 496 bytes (node_at ns k) (omega (arith, long)) len) ∙ again
