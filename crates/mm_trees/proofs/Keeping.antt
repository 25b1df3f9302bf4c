-- A store that no call gave up holds buckets, and one more call keeps it so.
use Rattle.std.proofs.Common.{◌≡◌, ℕ, ◌+◌, ◌*◌, Bool, true, false, List, Option, None, IsSome, cond, refl, sym, ◌∙◌, ap, subst, arith}
use Rattle.mm_base.specs.declared.place.DiskLoc.{DiskLoc}
use Rattle.mm_views.specs.State.{Drafting}
use Rattle.mm_records.specs.Shape.{Shape}
use Rattle.mm_records.specs.Map.{name_at}
use Rattle.mm_records.specs.Asking.{NoFit}
use Rattle.mm_records.specs.Serving.{HasBlock}
use Rattle.mm_records.proofs.Serving.{shorter}
use Rattle.mm_btree.specs.Nodes.{Node, Buckets, put, place_eq}
use Rattle.mm_trees.specs.Buckets.{Holds, Goes, IsStep, IsFull, IsScarce, bucket_in}
use Rattle.mm_trees.specs.Kept.{Kept, IsKept, bucket_of, is_full_of}
use Rattle.mm_trees.proofs.Steps.{goes_on, goes_back}

-- the draft holds buckets now
abbrev pub HoldsNow : Kept → Type 0
HoldsNow k = (free : List ℕ) × ((s : Shape) × Holds k.draft.image free s k.node)

-- and there is one at a place
abbrev pub HoldsAt : Kept → DiskLoc → Type 0
HoldsAt k at = (free : List ℕ) × ((s : Shape) × (Holds k.draft.image free s k.node × IsSome (bucket_in k.draft.image k.node at)))

pub holds_now : (k : Kept) → IsKept k → k.broken ≡ false → HoldsNow k
holds_now k i b = let r = i b in let x = r.goes r.free r.s r.held in (r.free, (x.0, x.1.0))

whole : (k : Kept) (at : DiskLoc) (b : Bool) → k.broken ≡ b → IsSome (cond b None (bucket_in k.draft.image k.node at)) → (b ≡ false) × IsSome (bucket_in k.draft.image k.node at)
whole k at true e y = absurd cc
whole k at false e y = (refl, y)

pub is_whole : (k : Kept) (at : DiskLoc) → IsSome (bucket_of k at) → k.broken ≡ false
is_whole k at y = (whole k at k.broken refl y).0

pub holds_at : (k : Kept) (at : DiskLoc) → IsKept k → IsSome (bucket_of k at) → HoldsAt k at
holds_at k at i y = let w = whole k at k.broken refl y in let h = holds_now k i w.0 in (h.0, (h.1.0, (h.1.1, w.1)))

-- a bucket that is there
pub seen_bucket : (k : Kept) (at : DiskLoc) (v : Option Node) → k.broken ≡ false → bucket_in k.draft.image k.node at ≡ v → bucket_of k at ≡ v
seen_bucket k at v b e = ap (λ (x : Bool). cond x None (bucket_in k.draft.image k.node at)) b ∙ e

-- after a step
abbrev pub after : Kept → Drafting → ℕ → Kept
after k d asked = record { draft = d; node = k.node; broken = false; start = k.start; asked = asked }

pub kept_on : (k : Kept) (d : Drafting) (places asked : ℕ) (m : Buckets) → asked ≡ k.asked + places → IsKept k → k.broken ≡ false → IsStep k.draft.image d.image k.node places m → IsKept (after k d asked)
kept_on k d places asked m e i b s = λ _.
    let r = i b in
    record {
      free = r.free;
      s = r.s;
      held = r.held;
      goes = subst (λ (n : ℕ). Goes k.start.image d.image k.node n) (sym e) (goes_on k.start.image k.draft.image d.image k.node k.asked places r.goes s.goes);
    }

-- one that asked for no place
pub kept_same : (k : Kept) (d : Drafting) (m : Buckets) → IsKept k → k.broken ≡ false → IsStep k.draft.image d.image k.node 0 m → IsKept (after k d k.asked)
kept_same k d m i b s = kept_on k d 0 k.asked m (omega arith) i b s

pub step_seen : (k : Kept) (d : Drafting) (places asked : ℕ) (at : DiskLoc) (v : Option Node) → k.broken ≡ false → IsStep k.draft.image d.image k.node places (put (bucket_in k.draft.image k.node) at v) → (q : DiskLoc) → bucket_of (after k d asked) q ≡ put (bucket_of k) at v q
step_seen k d places asked at v b s q = s.buckets q ∙ ap (λ (z : Option Node). cond (place_eq q at) v z) (sym (seen_bucket k q (bucket_in k.draft.image k.node q) b refl))

-- a store that is made
pub kept_new : (d : Drafting) (node : ℕ) → (free : List ℕ) × ((s : Shape) × Holds d.image free s node) → IsKept (record { draft = d; node = node; broken = false; start = d; asked = 0 })
kept_new d node h = λ _. record { free = h.0; s = h.1.0; held = h.1.1; goes = goes_back d.image node }

-- no room, as the start has it
pub full_on : (k : Kept) (d : Drafting) (b : Bool) (asked : ℕ) → asked ≡ k.asked + 1 → IsKept k → k.broken ≡ false → IsFull k.draft.image d.image k.node → IsScarce k.draft.image k.node 1
    → is_full_of (record { draft = d; node = k.node; broken = b; start = k.start; asked = asked })
full_on k d b asked e i w f g = (
  λ free s h.
      let x = (i w).goes free s h in
      let y = f free x.0 x.1.0 in
      let same = x.1.1.names.names k.node h.is_node.used in
      (y.0, (y.1.0, subst (λ (m : List ℕ). NoFit d.image y.0 free m 8208) same y.1.1)),
  scarce,
)
  where
    scarce : IsScarce k.start.image k.node asked
    scarce free s h block =
        let x = (i w).goes free s h in
        let same = x.1.1.names.names k.node h.is_node.used in
        let left = x.1.1.serves (8208 * 1) (omega arith) (shorter s (name_at k.start.image k.node) (8208 * asked) (8208 * k.asked + 8208 * 1) (omega (arith, e)) block) in
        g free x.0 x.1.0 (subst (λ (m : List ℕ). HasBlock x.0 m (8208 * 1)) (sym same) left)
