-- How many levels a tree can have, and one level down.
use Rattle.std.proofs.Common.{◌≡◌, ℕ, zero, suc, ℤ, pos, negsuc, ◌+◌, ◌-◌, ◌*◌, ◌^◌, ◌<◌, ◌≤◌, inl, inr, Bool, true, false, List, [], ◌∷◌, ◌++◌, length, map, slice_get, Some, IsSome, refl, sym, ◌∙◌, ap, subst, arith}
use Rattle.std.specs.Prelude.{FitsSigned, ◌==◌, ◌||◌, nat_lt}
use Rattle.std.specs.Int.{w32}
use Rattle.std.specs.List.{IsDistinct, list_any, AllByRecursion}
use Rattle.std.proofs.lemmas.Bool.{cases_Bool, false≢true, eqb-true, ne_eqb, ltb-true, ltb-false}
use Rattle.std.proofs.lemmas.List.{length-map, length-append}
use Rattle.std.proofs.lemmas.Nat.{pow_below}
use Rattle.std.proofs.lemmas.Map.Steps.{length-le_from_distinct_below}
use Rattle.mm_base.specs.Places.{null}
use Rattle.mm_base.specs.declared.place.DiskLoc.{DiskLoc}
use Rattle.mm_base.proofs.PlaceLaws.{place_same, file_fits, ofs_fits}
use Rattle.mm_links.proofs.LinkLaws.{either}
use Rattle.mm_bucket.specs.Pairs.{Contents, child_at}
use Rattle.mm_bucket.specs.Rules.{left_of, children}
use Rattle.mm_btree.specs.Nodes.{Node, Buckets, node_of, place_eq}
use Rattle.mm_btree.specs.Lists.{has, Distinct}
use Rattle.mm_btree.specs.Trees.{Sub, at_of, Stands}
use Rattle.mm_btree.specs.Changes.{least_at}
use Rattle.mm_btree.proofs.Places.{place_eq-is}
use Rattle.mm_btree.proofs.Edits.{kids_none, kids_all, child_is}
use Rattle.mm_btree.proofs.InsertCalls.{bucket_is}
use Rattle.mm_btree.proofs.Large.{large}
use Rattle.mm_trees.specs.Indexes.{IsRooted}

-- ---- there are no more places than eight bytes name

abbrev number : ℤ → ℕ
number (pos n) = n
number (negsuc n) = 2147483648 + n

abbrev code : DiskLoc → ℕ
code p = number p.file * 4294967296 + number p.ofs

number_low : (z : ℤ) → FitsSigned w32 z → number z < 4294967296
number_low (pos n) f = let l = f.sfits in omega (arith, l)
number_low (negsuc n) f = let l = f.sfits in omega (arith, l)

number_same : (z w : ℤ) → FitsSigned w32 z → FitsSigned w32 w → number z ≡ number w → z ≡ w
number_same (pos n) (pos m) f g e = ap (λ (x : ℕ). pos x) e
number_same (pos n) (negsuc m) f g e = absurd (let l = f.sfits in omega (arith, l, e))
number_same (negsuc n) (pos m) f g e = absurd (let l = g.sfits in omega (arith, l, e))
number_same (negsuc n) (negsuc m) f g e = ap (λ (x : ℕ). negsuc x) (omega (arith, e))

code_same : (p q : DiskLoc) → code p ≡ code q → p ≡ q
code_same p q e =
    let a = number_low p.ofs (ofs_fits p) in
    let b = number_low q.ofs (ofs_fits q) in
    let first : number p.file ≡ number q.file = omega (arith, a, b, e) in
    let second : number p.ofs ≡ number q.ofs = omega (arith, first, e) in
    place_same p q (number_same p.file q.file (file_fits p) (file_fits q) first) (number_same p.ofs q.ofs (ofs_fits p) (ofs_fits q) second)

neither : (a b : Bool) → (a || b) ≡ false → (a ≡ false) × (b ≡ false)
neither true b h = absurd (false≢true (sym h))
neither false b h = (refl, h)

all_off : (x : DiskLoc) (ys : List DiskLoc) → has x ys ≡ false → AllByRecursion (λ y. (code x == y) ≡ false) (map code ys)
all_off x [] h = tt
all_off x (y ∷ ys) h =
    let t = neither (place_eq x y) (has x ys) h in
    (ne_eqb (code x) (code y) (λ e. false≢true (sym t.0 ∙ place_eq-is x y (code_same x y e))), all_off x ys t.1)

distinct : (xs : List DiskLoc) → Distinct xs → IsDistinct (λ a b. a == b) (map code xs)
unfolding IsDistinct
distinct [] o = tt
distinct (x ∷ xs) o = (all_off x xs o.0, distinct xs o.1)

any_code : (xs : List DiskLoc) (q : ℕ) → list_any (λ y. q == y) (map code xs) ≡ true → q < 18446744073709551616
any_code [] q h = absurd (false≢true h)
any_code (x ∷ xs) q h = elim (either (q == code x) (list_any (λ y. q == y) (map code xs)) h) [
  | inl y ↦ let e = eqb-true q (code x) y in let a = number_low x.file (file_fits x) in let b = number_low x.ofs (ofs_fits x) in omega (arith, e, a, b)
  | inr r ↦ any_code xs q r
]

few_places : (xs : List DiskLoc) → Distinct xs → length xs ≤ 18446744073709551616
few_places xs d = subst (λ (n : ℕ). n ≤ 18446744073709551616) (length-map xs code) (length-le_from_distinct_below (map code xs) 18446744073709551616 (distinct xs d) (λ q h. any_code xs q h))

-- ---- levels

pub few_levels : (m : Buckets) (root : DiskLoc) (h : ℕ) (s : Sub) → IsRooted m root h s → h ≤ 64
few_levels m root zero s w = omega arith
few_levels m root (suc k) s w = elim (cases_Bool (nat_lt 64 (suc k))) [
  | inl y ↦ absurd (
      let high : 2 ^ 64 < 2 ^ suc k = pow_below 64 (suc k) (ltb-true 64 (suc k) y) in
      let many : 2 ^ suc k ≤ length s.places = large m null (suc k) s w.stands in
      let few = few_places s.places w.apart in
      omega (arith, high, many, few))
  | inr n ↦ let l = ltb-false 64 (suc k) n in omega (arith, l)
]

-- a subtree so many levels below a root
pub record IsDown (m : Buckets) (at : DiskLoc) (h level : ℕ) : Type 0 where
  pub low : level ≤ h
  pub up : DiskLoc
  pub least : ℕ
  pub t : Sub
  pub here : t.at ≡ at
  pub stands : Stands m up least (h - level) t

pub at_root : (m : Buckets) (root : DiskLoc) (h : ℕ) (s : Sub) → IsRooted m root h s → IsDown m root h 0
at_root m root h s w =
    let e : h ≡ h - 0 = omega arith in
    record { low = omega arith; up = null; least = least_at h; t = s; here = w.here; stands = subst (λ (k : ℕ). Stands m null (least_at h) k s) e w.stands }

some_there : (m : Buckets) (up : DiskLoc) (least k : ℕ) (t : Sub) → Stands m up least k t → IsSome (m t.at)
some_there m up least zero t st = subst IsSome (sym st.2.bucket) refl
some_there m up least (suc k) t st = subst IsSome (sym st.2.bucket) refl

pub down_there : (m : Buckets) (at : DiskLoc) (h level : ℕ) → IsDown m at h level → IsSome (m at)
down_there m at h level d = subst (λ (q : DiskLoc). IsSome (m q)) d.here (some_there m d.up d.least (h - level) d.t d.stands)

-- a leaf
leaf_low : (m : Buckets) (at up : DiskLoc) (least k : ℕ) (t : Sub) (b : Contents) → t.at ≡ at → m at ≡ Some (node_of b) → b.next ≡ null → Stands m up least k t → k ≡ 0
leaf_low m at up least zero t b here e n st = refl
leaf_low m at up least (suc k) t b here e n st = absurd (
    let is = bucket_is m at up t (node_of b) st.0 st.1 least here st.2 e in
    let none : ◌≡◌ {A = List DiskLoc} [] (map at_of st.1) = sym (kids_none b n) ∙ ap (λ (c : Node). c.kids) is in
    omega (arith, ap length none, length-map st.1 at_of, st.3.0))

pub leaf_level : (m : Buckets) (at : DiskLoc) (h level : ℕ) (b : Contents) → m at ≡ Some (node_of b) → b.next ≡ null → IsDown m at h level → level ≡ h
leaf_level m at h level b e n d =
    let z = leaf_low m at d.up d.least (h - level) d.t b d.here e n d.stands in
    let l = d.low in
    omega (arith, z, l)

-- one level down
pub record IsChild (m : Buckets) (at : DiskLoc) (k : ℕ) : Type 0 where
  pub some : 1 ≤ k
  pub up : DiskLoc
  pub c : Sub
  pub here : c.at ≡ at
  pub stands : Stands m up 1 (k - 1) c

first_child : (m : Buckets) (at up : DiskLoc) (least k : ℕ) (t : Sub) (b : Contents) → t.at ≡ at → m at ≡ Some (node_of b) → (b.next ≡ null → ⊥) → Stands m up least k t → IsChild m (child_at b 0) k
first_child m at up least zero t b here e n st = absurd (
    let is = bucket_is m at up t (node_of b) st.0 st.1 least here st.2 e in
    let none : ◌≡◌ {A = List DiskLoc} (map left_of b.pairs ++ b.next ∷ []) [] = sym (kids_all b n) ∙ ap (λ (c : Node). c.kids) is ∙ ap (map at_of) st.3 in
    omega (arith, ap length none, length-append (map left_of b.pairs) (b.next ∷ [])))
first_child m at up least (suc k) t b here e n st = by st.1 refl
  where
    by : (cs : List Sub) → st.1 ≡ cs → IsChild m (child_at b 0) (suc k)
    by [] i = absurd (let l = ap length i in omega (arith, l, st.3.0))
    by (c ∷ cs) i =
        let is = bucket_is m at up t (node_of b) st.0 st.1 least here st.2 e in
        let kids : children b ≡ c.at ∷ map at_of cs = sym (kids_all b n) ∙ ap (λ (x : Node). x.kids) is ∙ ap (map at_of) i in
        let first : Some (child_at b 0) ≡ Some c.at = sym (child_is b 0 (omega arith)) ∙ ap (λ (xs : List DiskLoc). slice_get xs 0) kids in
        let all : AllByRecursion (Stands m t.at 1 k) (c ∷ cs) = subst (AllByRecursion (Stands m t.at 1 k)) i st.3.1 in
        let step : k ≡ suc k - 1 = omega arith in
        record { some = omega arith; up = t.at; c = c; here = cc; stands = subst (λ (j : ℕ). Stands m t.at 1 j c) step all.0 }

pub child_level : (m : Buckets) (at : DiskLoc) (h level : ℕ) (b : Contents) → m at ≡ Some (node_of b) → (b.next ≡ null → ⊥) → IsDown m at h level → IsDown m (child_at b 0) h (level + 1)
child_level m at h level b e n d =
    let c = first_child m at d.up d.least (h - level) d.t b d.here e n d.stands in
    let l = d.low in
    let s = c.some in
    let step : h - level - 1 ≡ h - (level + 1) = omega arith in
    record { low = omega (arith, l, s); up = c.up; least = 1; t = c.c; here = c.here; stands = subst (λ (j : ℕ). Stands m c.up 1 j c.c) step c.stands }
