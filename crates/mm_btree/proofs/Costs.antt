-- What a tree of height h asks of its store, against its pairs and buckets: there are 2 ^ h of both, but for one pair.
use Rattle.std.proofs.lemmas.List.{length-append}
use Rattle.std.proofs.lemmas.Nat.{pow_pos}
use Rattle.std.proofs.Math.Pow.{pow_mono}
use Rattle.std.proofs.Common.{◌≡◌, ℕ, zero, suc, ◌+◌, ◌*◌, ◌^◌, ◌-◌, ◌≤◌, Bool, List, [], ◌∷◌, ◌++◌, length, map, ap, arith, pow-suc}
use Rattle.std.specs.List.{AllByRecursion}
use Rattle.mm_base.specs.Places.{null}
use Rattle.mm_base.specs.declared.place.DiskLoc.{DiskLoc}
use Rattle.mm_btree.specs.Nodes.{Item, Buckets}
use Rattle.mm_btree.specs.Lists.{back, weave}
use Rattle.mm_btree.specs.Trees.{Sub, pairs_of, Stands}
use Rattle.mm_btree.specs.Changes.{IsTree, least_at}
use Rattle.mm_btree.specs.Costs.{insert_asks, insert_weighs, remove_asks, remove_weighs, requests, may_weigh}
use Rattle.mm_btree.proofs.Large.{large}

-- ---- pairs

two_many : (P : Sub → Type 0) (k : ℕ) → ((c : Sub) → P c → k ≤ length c.pairs + 1) → (cs : List Sub) (ps : List Item) → length cs ≡ suc (length ps) → 1 ≤ length ps → AllByRecursion P cs
    → 2 * k ≤ length (weave (map pairs_of cs) ps) + 1
two_many P k f [] ps e l h = absurd (omega (arith, e))
two_many P k f (c ∷ []) ps e l h = absurd (omega (arith, e, l))
two_many P k f (c ∷ d ∷ cs) [] e l h = absurd (omega (arith, l))
two_many P k f (c ∷ d ∷ cs) (p ∷ ps) e l h =
    omega (arith, f c h.0, f d h.1.0, length-append c.pairs (p ∷ (d.pairs ++ back (map pairs_of cs) ps)), length-append d.pairs (back (map pairs_of cs) ps))

many_below : (m : Buckets) (up : DiskLoc) (h : ℕ) (s : Sub) → Stands m up 1 h s → 2 ^ h ≤ length s.pairs + 1
many_below m up zero s t = omega arith
many_below m up (suc h) s t =
    let both = two_many (Stands m s.at 1 h) (2 ^ h) (λ c k. many_below m s.at h c k) t.1 t.0 t.3.0 t.2.some t.3.1 in
    let e = ap length t.2.pairs in
    let p : 2 ^ suc h ≡ 2 ^ h * 2 = pow-suc 2 h in
    omega (arith, both, e, p)

many_pairs : (m : Buckets) (up : DiskLoc) (h : ℕ) (s : Sub) → Stands m up (least_at h) h s → 2 ^ h ≤ length s.pairs + 1
many_pairs m up zero s t = omega arith
many_pairs m up (suc h) s t = many_below m up (suc h) s t

many_buckets : (m : Buckets) (up : DiskLoc) (h : ℕ) (s : Sub) → Stands m up (least_at h) h s → 2 ^ h ≤ length s.places
many_buckets m up zero s t = let e = ap length t.2.places in omega (arith, e)
many_buckets m up (suc h) s t = large m up (suc h) s t

pub tree_pairs : (lt : Item → Item → Bool) (m : Buckets) (root : DiskLoc) (h : ℕ) (s : Sub) → IsTree lt m root h s → 2 ^ h ≤ length s.pairs + 1
tree_pairs lt m root h s t = many_pairs m null h s t.stands

-- ---- places

from_five : (h : ℕ) → 5 ≤ h → 32 ≤ 2 ^ h
from_five h le = pow_mono {i = 5} {j = h} le

insert_enough : (h p : ℕ) → 2 ^ h ≤ p + 1 → h ≤ 70 → insert_asks h ≤ requests 1 p (p + 1)
insert_enough h p l low = grind (arith, from_five h)

remove_enough : (h p : ℕ) → 2 ^ h ≤ p + 1 → h ≤ 34 → remove_asks h ≤ requests 1 p (p - 1)
remove_enough h p l low = grind (arith, from_five h)

pub insert_within : (lt : Item → Item → Bool) (m : Buckets) (root : DiskLoc) (h : ℕ) (s : Sub) → IsTree lt m root h s → h ≤ 70 → insert_asks h ≤ requests 1 (length s.pairs) (length s.pairs + 1)
insert_within lt m root h s t low = insert_enough h (length s.pairs) (tree_pairs lt m root h s t) low

pub remove_within : (lt : Item → Item → Bool) (m : Buckets) (root : DiskLoc) (h : ℕ) (s : Sub) → IsTree lt m root h s → h ≤ 34 → remove_asks h ≤ requests 1 (length s.pairs) (length s.pairs - 1)
remove_within lt m root h s t low = remove_enough h (length s.pairs) (tree_pairs lt m root h s t) low

-- ---- weights

-- the buckets of a tree are many times its height, but for a few
steep : (h : ℕ) → 8 * h ≤ 2 ^ h + 16
steep zero = omega arith
steep (suc zero) = omega arith
steep (suc (suc zero)) = omega arith
steep (suc (suc (suc h))) =
    let low = steep (suc (suc h)) in
    let p : 2 ^ suc (suc (suc h)) ≡ 2 ^ suc (suc h) * 2 = pow-suc 2 (suc (suc h)) in
    let q : 2 ^ suc (suc h) ≡ 2 ^ suc h * 2 = pow-suc 2 (suc h) in
    let r : 2 ^ suc h ≡ 2 ^ h * 2 = pow-suc 2 h in
    omega (arith, low, p, q, r, pow_pos h)

remove_light : (h b k : ℕ) → 2 ^ h ≤ b → 40 ≤ k → remove_weighs h ≤ may_weigh b k
remove_light h b k l some = omega (arith, l, some, steep h)

insert_light : (h b k : ℕ) → 2 ^ h ≤ b → 40 ≤ k → insert_weighs h ≤ may_weigh b k
insert_light h b k l some = omega (arith, l, some, steep h)

forty : (keys before after : ℕ) → 40 ≤ requests keys before after
forty keys before after = omega arith

pub insert_weighs_little : (lt : Item → Item → Bool) (m : Buckets) (root : DiskLoc) (h : ℕ) (s : Sub) → IsTree lt m root h s
    → insert_weighs h ≤ may_weigh (length s.places) (requests 1 (length s.pairs) (length s.pairs + 1))
insert_weighs_little lt m root h s t = insert_light h (length s.places) (requests 1 (length s.pairs) (length s.pairs + 1)) (many_buckets m null h s t.stands) (forty 1 (length s.pairs) (length s.pairs + 1))

pub remove_weighs_little : (lt : Item → Item → Bool) (m : Buckets) (root : DiskLoc) (h : ℕ) (s : Sub) → IsTree lt m root h s
    → remove_weighs h ≤ may_weigh (length s.places) (requests 1 (length s.pairs) (length s.pairs - 1))
remove_weighs_little lt m root h s t = remove_light h (length s.places) (requests 1 (length s.pairs) (length s.pairs - 1)) (many_buckets m null h s t.stands) (forty 1 (length s.pairs) (length s.pairs - 1))
