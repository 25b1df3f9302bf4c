-- How many buckets the files can hold, and how many levels a tree of them has.
use Rattle.std.proofs.Common.{◌≡◌, ℕ, zero, suc, ◌+◌, ◌-◌, ◌*◌, ◌/◌, ◌^◌, ◌<◌, ◌≤◌, inl, inr, Bool, true, false, List, [], ◌∷◌, ◌++◌, length, map, Option, Some, None, IsSome, refl, sym, ◌∙◌, ap, subst, arith, pow-suc}
use Rattle.std.specs.Prelude.{◌==◌, ◌||◌, nat_lt}
use Rattle.std.specs.List.{IsDistinct, list_any, AllByRecursion}
use Rattle.std.proofs.Math.Pow.{pow_mono}
use Rattle.std.proofs.lemmas.Bool.{cases_Bool, false≢true, eqb-true, ne_eqb, ltb-true, ltb-false}
use Rattle.std.proofs.lemmas.List.{length-map, length-append}
use Rattle.std.proofs.lemmas.Map.Steps.{length-le_from_distinct_below}
use Rattle.mm_base.specs.Places.{null}
use Rattle.mm_base.specs.declared.place.DiskLoc.{DiskLoc}
use Rattle.mm_ranges.specs.Overlay.{Image}
use Rattle.mm_links.specs.Links.{Place}
use Rattle.mm_links.proofs.LinkLaws.{either}
use Rattle.mm_extents.specs.Heap.{Cell, size, live}
use Rattle.mm_records.specs.Shape.{Shape}
use Rattle.mm_records.specs.Map.{name_at}
use Rattle.mm_records.proofs.Owning.{lives}
use Rattle.mm_btree.specs.Nodes.{Node, Buckets, place_eq}
use Rattle.mm_btree.specs.Lists.{has, Distinct}
use Rattle.mm_btree.specs.Trees.{Sub, all_places, Stands}
use Rattle.mm_btree.proofs.Places.{place_eq-is}
use Rattle.mm_btree.proofs.Frames.{stands_some}
use Rattle.mm_trees.specs.Walked.{spot_in}
use Rattle.mm_trees.specs.Buckets.{bucket_in, Holds}
use Rattle.mm_trees.specs.Indexes.{IsRooted}
use Rattle.mm_trees.proofs.Following.{spot_once}
use Rattle.mm_trees.proofs.Showing.{found}
use Rattle.mm_trees.proofs.Calls.{is_room}

-- ---- a tree of height h has 2 ^ (h + 1) - 1 buckets or more

two_larger : (P : Sub → Type 0) (k : ℕ) → ((c : Sub) → P c → k ≤ length c.places + 1) → (cs : List Sub) (n : ℕ) → length cs ≡ suc n → 1 ≤ n → AllByRecursion P cs → 2 * k ≤ length (all_places cs) + 2
two_larger P k f [] n e l h = absurd (omega (arith, e))
two_larger P k f (c ∷ []) n e l h = absurd (omega (arith, e, l))
two_larger P k f (c ∷ d ∷ cs) n e l h =
    omega (arith, f c h.0, f d h.1.0, length-append c.places (d.places ++ all_places cs), length-append d.places (all_places cs))

larger : (m : Buckets) (up : DiskLoc) (h : ℕ) (s : Sub) → Stands m up 1 h s → 2 ^ suc h ≤ length s.places + 1
larger m up zero s t = let e = ap length t.2.places in omega (arith, e)
larger m up (suc h) s t =
    let both = two_larger (Stands m s.at 1 h) (2 ^ suc h) (λ c k. larger m s.at h c k) t.1 (length t.0) t.3.0 t.2.some t.3.1 in
    let e = ap length t.2.places in
    let p : 2 ^ suc (suc h) ≡ 2 ^ suc h * 2 = pow-suc 2 (suc h) in
    omega (arith, both, e, p)

-- ---- 65,528 buckets have room

-- which of the files' parts of 8192 bytes a place lies in, but the first of each
abbrev part_of : Place → ℕ
part_of p = 8191 * p.0 + (p.1 / 8192 - 1)

abbrev part_at : Option Place → ℕ
part_at None = 0
part_at (Some p) = part_of p

module _ (image : Image) (free : List ℕ) (s : Shape) (node : ℕ) (h : Holds image free s node) where
  abbrev IsThere : DiskLoc → Type 0
  IsThere at = IsSome (bucket_in image node at)

  -- a bucket's place, and what is known of it
  record Stood (at : DiskLoc) : Type 0 where
    p : Place
    spot : spot_in at ≡ Some p
    c : Cell
    here : s.heap p ≡ Some c
    long : 8208 ≤ size c
    file : p.0 < 8
    low : p.1 < 67108864
    high : 8192 ≤ p.1

  stood : (at : DiskLoc) → IsThere at → Stood at
  stood at y =
      let f = found image free s node at h y in
      let v = lives s (name_at image node) f.p f.room f.live in
      let l = (is_room image free s node at h f).long in
      record {
        p = f.p;
        spot = f.spot;
        c = live v.h f.room;
        here = v.here;
        long = omega (arith, l);
        file = f.low.file;
        low = f.low.ofs;
        high = h.stands.heap.behind_header f.p (live v.h f.room) v.here;
      }

  abbrev code : DiskLoc → ℕ
  code at = part_at (spot_in at)

  code_is : (at : DiskLoc) (x : Stood at) → code at ≡ part_of x.p
  code_is at x = ap part_at x.spot

  code_low : (at : DiskLoc) → IsThere at → code at < 65528
  code_low at y =
      let x = stood at y in
      let e = code_is at x in
      let a = x.file in
      let b = x.low in
      let c = x.high in
      omega (arith, e, a, b, c)

  -- two that begin in one part are one
  same_ofs : (file a b : ℕ) (c d : Cell) → s.heap (file, a) ≡ Some c → s.heap (file, b) ≡ Some d → 8208 ≤ size c → 8208 ≤ size d → a / 8192 ≡ b / 8192 → a ≡ b
  same_ofs file a b c d e f m n q = elim (cases_Bool (nat_lt a b)) [
    | inl y ↦ absurd (let z = h.stands.heap.apart file a b c d e f (ltb-true a b y) in omega (arith, z, m, q))
    | inr y ↦ elim (cases_Bool (nat_lt b a)) [
      | inl w ↦ absurd (let z = h.stands.heap.apart file b a d c f e (ltb-true b a w) in omega (arith, z, n, q))
      | inr w ↦ let u = ltb-false a b y in let v = ltb-false b a w in omega (arith, u, v)
    ]
  ]

  code_once : (at to : DiskLoc) → IsThere at → IsThere to → code at ≡ code to → at ≡ to
  code_once at to y z e =
      let x = stood at y in
      let w = stood to z in
      let a = code_is at x in
      let b = code_is to w in
      let al = x.low in
      let ah = x.high in
      let bl = w.low in
      let bh = w.high in
      let files : x.p.0 ≡ w.p.0 = omega (arith, a, b, e, al, ah, bl, bh) in
      let parts : x.p.1 / 8192 ≡ w.p.1 / 8192 = omega (arith, a, b, e, files, al, ah, bl, bh) in
      let there = subst (λ (f : ℕ). s.heap (f, w.p.1) ≡ Some w.c) (sym files) w.here in
      let ofs = same_ofs x.p.0 x.p.1 w.p.1 x.c w.c x.here there x.long w.long parts in
      let same : ◌≡◌ {A = Place} x.p w.p = λ i. (files i, ofs i) in
      spot_once at to w.p (x.spot ∙ ap (λ (q : Place). Some q) same) w.spot

  neither : (a b : Bool) → (a || b) ≡ false → (a ≡ false) × (b ≡ false)
  neither true b e = absurd (false≢true (sym e))
  neither false b e = (refl, e)

  more : (x q : DiskLoc) (ys : List DiskLoc) → has q ys ≡ true → has q (x ∷ ys) ≡ true
  more x q ys y = by (place_eq q x)
    where
      by : (b : Bool) → (b || has q ys) ≡ true
      by true = refl
      by false = y

  own : (x : DiskLoc) (ys : List DiskLoc) → has x (x ∷ ys) ≡ true
  own x ys = ap (λ (b : Bool). b || has x ys) (place_eq-is x x refl)

  all_off : (x : DiskLoc) (ys : List DiskLoc) → IsThere x → ((q : DiskLoc) → has q ys ≡ true → IsThere q) → has x ys ≡ false → AllByRecursion (λ y. (code x == y) ≡ false) (map code ys)
  all_off x [] y f o = tt
  all_off x (z ∷ zs) y f o =
      let t = neither (place_eq x z) (has x zs) o in
      (ne_eqb (code x) (code z) (λ e. false≢true (sym t.0 ∙ place_eq-is x z (code_once x z y (f z (own z zs)) e))), all_off x zs y (λ q i. f q (more z q zs i)) t.1)

  distinct : (xs : List DiskLoc) → ((q : DiskLoc) → has q xs ≡ true → IsThere q) → Distinct xs → IsDistinct (λ a b. a == b) (map code xs)
  unfolding IsDistinct
  distinct [] f o = tt
  distinct (x ∷ xs) f o = (all_off x xs (f x (own x xs)) (λ q i. f q (more x q xs i)) o.0, distinct xs (λ q i. f q (more x q xs i)) o.1)

  any_code : (xs : List DiskLoc) (n : ℕ) → ((q : DiskLoc) → has q xs ≡ true → IsThere q) → list_any (λ y. n == y) (map code xs) ≡ true → n < 65528
  any_code [] n f y = absurd (false≢true y)
  any_code (x ∷ xs) n f y = elim (either (n == code x) (list_any (λ z. n == z) (map code xs)) y) [
    | inl z ↦ let e = eqb-true n (code x) z in let l = code_low x (f x (own x xs)) in omega (arith, e, l)
    | inr z ↦ any_code xs n (λ q i. f q (more x q xs i)) z
  ]

  pub few_buckets : (xs : List DiskLoc) → Distinct xs → ((q : DiskLoc) → has q xs ≡ true → IsThere q) → length xs ≤ 65528
  few_buckets xs d f = subst (λ (n : ℕ). n ≤ 65528) (length-map xs code) (length-le_from_distinct_below (map code xs) 65528 (distinct xs f d) (λ n y. any_code xs n f y))

  -- ---- 15 levels

  some_of : (o : Option Node) → (o ≡ None → ⊥) → IsSome o
  some_of None n = absurd (n refl)
  some_of (Some b) n = refl

  pub low_trees : (root : DiskLoc) (k : ℕ) (u : Sub) → IsRooted (bucket_in image node) root k u → k ≤ 14
  low_trees root zero u w = omega arith
  low_trees root (suc k) u w = elim (cases_Bool (nat_lt 14 (suc k))) [
    | inl y ↦ absurd (
        let deep = ltb-true 14 (suc k) y in
        let high : 2 ^ 16 ≤ 2 ^ suc (suc k) = pow_mono {i = 16} {j = suc (suc k)} (omega (arith, deep)) in
        let many = larger (bucket_in image node) null (suc k) u w.stands in
        let few = few_buckets u.places w.apart (λ q i. some_of (bucket_in image node q) (stands_some (bucket_in image node) null 1 (suc k) u w.stands q i)) in
        omega (arith, high, many, few))
    | inr n ↦ let l = ltb-false 14 (suc k) n in omega (arith, l)
  ]
