-- An extent becomes a free one, and the files are tiled as before.
use Rattle.std.proofs.Common.{◌≡◌, ◌≢◌, ℕ, ℤ, pos, ◌+◌, ◌<◌, ◌≤◌, ◌⊎◌, inl, inr, Bool, true, false, List, Option, Some, None, refl, sym, ◌∙◌, ap, subst, arith}
use Rattle.std.specs.Prelude.{◌&&◌, ◌==◌, nat_lt}
use Rattle.std.proofs.lemmas.Bool.{cases_Bool, cases_lt, eqb-true, eq-eqb, false≢true}
use Rattle.std.proofs.lemmas.Bool.Decides.{nat_tests}
use Rattle.mm_base.specs.Bytes.{padded}
use Rattle.mm_base.specs.declared.place.DiskLoc.{DiskLoc}
use Rattle.mm_frames.specs.Texts.{text_in}
use Rattle.mm_links.specs.Links.{Place, same}
use Rattle.mm_links.proofs.LinkLaws.{same_is, same_not, not_same}
use Rattle.mm_extents.specs.Changes.{loc}
use Rattle.mm_extents.specs.Tiling.{Outline, an_extent, a_block, ExtentAt, BlockAt, IsExtent, IsHome, IsBlock, IsTiled}
use Rattle.mm_extents.specs.Dropping.{within}
use Rattle.mm_extents.proofs.Reuses.{extent_parts, magic_part, Stood}

some_same : {A : Type 0} (x y : A) → Some x ≡ Some y → x ≡ y
some_same x y e = cc

and_false : (b : Bool) → (b && false) ≡ false
and_false true = refl
and_false false = refl

-- ---- what lies in an extent

pub outside : (e : Place) (n : ℕ) (q : Place) → (q.0 ≡ e.0 → (q.1 ≤ e.1) ⊎ (e.1 + n ≤ q.1)) → within e n q ≡ false
outside e n q o = elim (cases_Bool (q.0 == e.0)) [
  | inr m ↦ ap (λ (b : Bool). b && (nat_lt e.1 q.1 && nat_lt q.1 (e.1 + n))) m
  | inl y ↦ elim (o (eqb-true q.0 e.0 y)) [
    | inl low ↦
        let f : nat_lt e.1 q.1 ≡ false = grind (arith, nat_tests) in
        ap (λ (b : Bool). (q.0 == e.0) && (b && nat_lt q.1 (e.1 + n))) f ∙ and_false (q.0 == e.0)
    | inr high ↦
        let f : nat_lt q.1 (e.1 + n) ≡ false = grind (arith, nat_tests) in
        ap (λ (b : Bool). (q.0 == e.0) && (nat_lt e.1 q.1 && b)) f ∙ ap (λ (b : Bool). (q.0 == e.0) && b) (and_false (nat_lt e.1 q.1)) ∙ and_false (q.0 == e.0)
  ]
]

pub inside : (e : Place) (n : ℕ) (q : Place) → q.0 ≡ e.0 → e.1 < q.1 → q.1 < e.1 + n → within e n q ≡ true
inside e n q file lo hi =
    let f : nat_lt e.1 q.1 ≡ true = grind (arith, nat_tests) in
    let g : nat_lt q.1 (e.1 + n) ≡ true = grind (arith, nat_tests) in
    ap (λ (b : Bool). b && (nat_lt e.1 q.1 && nat_lt q.1 (e.1 + n))) (eq-eqb q.0 e.0 file) ∙ ap (λ (b : Bool). b && nat_lt q.1 (e.1 + n)) f ∙ g

-- a place of the file that isn't in the extent is before or behind it
pub sides_of : (e : Place) (n : ℕ) (q : Place) → same e q ≡ false → within e n q ≡ false → q.0 ≡ e.0 → (q.1 < e.1) ⊎ (e.1 + n ≤ q.1)
sides_of e n q ne out file = elim (cases_lt q.1 e.1) [
  | inl low ↦ inl low
  | inr up ↦ elim (cases_lt q.1 (e.1 + n)) [
    | inl few ↦ elim (cases_lt e.1 q.1) [
      | inl lo ↦ absurd (false≢true (sym out ∙ inside e n q file lo few))
      | inr ge ↦ absurd (not_same e q ne (let f : e.1 ≡ q.1 = omega (arith, up, ge) in λ j. (sym file j, f j)))
    ]
    | inr high ↦ inr (omega (arith, high))
  ]
]

module _ (g new : Place → Option Outline) (unused : ℕ → Option ℤ) (free : List ℕ) (t : IsTiled g unused free) (e : Place) (magic : ℕ) (here : DiskLoc) (old name : List ℕ) (n : ℕ)
    (there : g e ≡ Some (an_extent magic here old (pos n))) (spelled : name ≡ padded 128 (text_in name)) (is_free : text_in name ≡ free)
    (new_here : new e ≡ Some (an_extent 0x41424344 (loc e) name (pos n)))
    (gone : (q : Place) → same e q ≡ false → within e n q ≡ true → new q ≡ None)
    (elsewhere : (q : Place) → same e q ≡ false → within e n q ≡ false → new q ≡ g q) where
  -- another extent is before or behind this one
  sides : (q : Place) (m m' : ℕ) (l : DiskLoc) (x : List ℕ) → g q ≡ Some (an_extent m' l x (pos m)) → same e q ≡ false → q.0 ≡ e.0 → (q.1 + m ≤ e.1) ⊎ (e.1 + n ≤ q.1)
  sides q m m' l x f ne file = elim (cases_lt q.1 e.1) [
    | inl low ↦ inl (t.apart e.0 q.1 e.1 m' magic m l here x old (pos n) (ap (λ (k : ℕ). g (k, q.1)) (sym file) ∙ f) there low)
    | inr up ↦ elim (cases_lt e.1 q.1) [
      | inl high ↦ inr (t.apart e.0 e.1 q.1 magic m' n here l old x (pos m) there (ap (λ (k : ℕ). g (k, q.1)) (sym file) ∙ f) high)
      | inr down ↦ absurd (not_same e q ne (let k : e.1 ≡ q.1 = omega (arith, up, down) in λ j. (sym file j, k j)))
    ]
  ]

  pub extent_out : (q : Place) (m : ℕ) (l : DiskLoc) (x : List ℕ) (len : ℤ) → g q ≡ Some (an_extent m l x len) → same e q ≡ false → within e n q ≡ false
  extent_out q m l x len i ne =
      let o = t.extents q.0 q.1 m l x len i in
      let k = o.2.0 in
      outside e n q (λ file. elim (sides q k m l x (i ∙ ap (λ (z : ℤ). Some (an_extent m l x z)) o.2.1.long) ne file) [
        | inl low ↦ inl (omega (arith, low))
        | inr high ↦ inr high
      ])

  -- an extent is there, under whatever name
  stays : (q : Place) (m : ℕ) (l : DiskLoc) (x : List ℕ) (len : ℤ) → g q ≡ Some (an_extent m l x len) → Stood new q len
  stays q m l x len i = elim (cases_Bool (same e q)) [
    | inl y ↦
        let eq = same_is e q y in
        let parts = extent_parts magic m here l old x (pos n) len (some_same _ _ (sym there ∙ ap g eq ∙ i)) in
        record { magic = 0x41424344; here = loc e; name = name; is = ap new (sym eq) ∙ new_here ∙ ap (λ (z : ℤ). Some (an_extent 0x41424344 (loc e) name z)) parts.1.1 }
    | inr ne ↦ record { magic = m; here = l; name = x; is = elsewhere q ne (extent_out q m l x len i ne) ∙ i }
  ]

  was : (q : Place) (m : ℕ) (l : DiskLoc) (x : List ℕ) (len : ℤ) → new q ≡ Some (an_extent m l x len) → Stood g q len
  was q m l x len i = elim (cases_Bool (same e q)) [
    | inl y ↦
        let eq = same_is e q y in
        let parts = extent_parts 0x41424344 m (loc e) l name x (pos n) len (some_same _ _ (sym new_here ∙ ap new eq ∙ i)) in
        record { magic = magic; here = here; name = old; is = ap g (sym eq) ∙ there ∙ ap (λ (z : ℤ). Some (an_extent magic here old z)) parts.1.1 }
    | inr ne ↦ elim (cases_Bool (within e n q)) [
      | inl y ↦ absurd (let z : None ≡ Some (an_extent m l x len) = sym (gone q ne y) ∙ i in cc)
      | inr out ↦ record { magic = m; here = l; name = x; is = sym (elsewhere q ne out) ∙ i }
    ]
  ]

  extent_at : (u file at : ℕ) → ExtentAt g u file at → ExtentAt new u file at
  extent_at u file at (inl f) = inl f
  extent_at u file at (inr x) = let s = stays (file, at) x.0 x.1 x.2 x.3 x.4 in inr (s.magic, s.here, s.name, x.3, s.is)

  -- a block of another extent stays
  block_stays : (q : Place) (k a m : ℕ) (ext len : ℤ) → g q ≡ Some (a_block ext len k) → IsBlock g free q.0 q.1 ext len k a m → same e (q.0, a) ≡ false → new q ≡ g q
  block_stays q k a m ext len i x ne =
      let h = x.of_extent in
      let from = x.from in
      let to = x.to in
      elsewhere q (same_not e q (λ f. (let z : Some (an_extent magic here old (pos n)) ≡ Some (a_block ext len k) = sym there ∙ ap g f ∙ i in cc)))
      (outside e n q (λ file. elim (sides (q.0, a) m h.magic h.here h.name h.is ne file) [
        | inl low ↦ inl (omega (arith, low, from, to))
        | inr high ↦ inr (omega (arith, high, from))
      ]))

  block_at : (stop file a at : ℕ) → same e (file, a) ≡ false → BlockAt g stop file a at → BlockAt new stop file a at
  block_at stop file a at ne (inl f) = inl f
  block_at stop file a at ne (inr x) =
      let w = t.blocks file at x.1 (pos a) x.0 x.2 in
      let own : pos a ≡ pos w.0 = w.1.1.extent_place in
      let same_a : a ≡ w.0 = cc in
      inr (x.0, x.1, block_stays (file, at) x.1 w.0 w.1.0 (pos a) x.0 x.2 w.1.1 (ap (λ (b : ℕ). same e (file, b)) (sym same_a) ∙ ne) ∙ x.2)

  whole : (u : ℕ) × (unused e.0 ≡ Some (pos u)) × ((k : ℕ) × IsExtent g u e.0 e.1 magic here old (pos n) k × (text_in old ≢ free → BlockAt g (e.1 + k) e.0 e.1 (e.1 + 176)))
  whole = t.extents e.0 e.1 magic here old (pos n) there

  home_stays : (file a m : ℕ) → same e (file, a) ≡ false → IsHome g free file a m → IsHome new free file a m
  home_stays file a m ne x = record {
    magic = x.magic;
    here = x.here;
    name = x.name;
    is = elsewhere (file, a) ne (extent_out (file, a) x.magic x.here x.name (pos m) x.is ne) ∙ x.is;
    isnt_free = x.isnt_free;
  }

  again : (q : Place) (m : ℕ) (l : DiskLoc) (x : List ℕ) (len : ℤ) (u k : ℕ) → IsExtent g u q.0 q.1 m l x len k → IsExtent new u q.0 q.1 m l x len k
  again q m l x len u k i = record { magic_word = i.magic_word; own_place = i.own_place; named = i.named; long = i.long; pages = i.pages; some = i.some; inside = i.inside; behind = extent_at u q.0 (q.1 + k) i.behind }

  mine : (u k : ℕ) → IsExtent g u e.0 e.1 magic here old (pos n) k → IsExtent new u e.0 e.1 0x41424344 (loc e) name (pos n) k
  mine u k i = record { magic_word = refl; own_place = refl; named = spelled; long = i.long; pages = i.pages; some = i.some; inside = i.inside; behind = extent_at u e.0 (e.1 + k) i.behind }

  abbrev Holds : Place → ℕ → DiskLoc → List ℕ → ℤ → Type 0
  Holds q m l x len = (u : ℕ) × (unused q.0 ≡ Some (pos u)) × ((k : ℕ) × IsExtent new u q.0 q.1 m l x len k × (text_in x ≢ free → BlockAt new (q.1 + k) q.0 q.1 (q.1 + 176)))

  extents : (q : Place) (m : ℕ) (l : DiskLoc) (x : List ℕ) (len : ℤ) → new q ≡ Some (an_extent m l x len) → Holds q m l x len
  extents q m l x len i = elim (cases_Bool (same e q)) [
    | inl y ↦
        let eq = same_is e q y in
        let cells = some_same (an_extent 0x41424344 (loc e) name (pos n)) (an_extent m l x len) (sym new_here ∙ ap new eq ∙ i) in
        let parts = extent_parts 0x41424344 m (loc e) l name x (pos n) len cells in
        let magics = magic_part 0x41424344 m (loc e) l name x (pos n) len cells in
        let own : Holds e 0x41424344 (loc e) name (pos n) = (whole.0, whole.1, (whole.2.0, mine whole.0 whole.2.0 whole.2.1, λ ne. absurd (ne is_free))) in
        subst (λ (z : Place × ℕ × DiskLoc × List ℕ × ℤ). Holds z.0 z.1 z.2 z.3 z.4) (let p : (e, 0x41424344, loc e, name, pos n) ≡ (q, m, l, x, len) = λ j. (eq j, magics j, parts.0 j, parts.1.0 j, parts.1.1 j) in p) own
    | inr ne ↦ elim (cases_Bool (within e n q)) [
      | inl y ↦ absurd (let z : None ≡ Some (an_extent m l x len) = sym (gone q ne y) ∙ i in cc)
      | inr out ↦
          let o = t.extents q.0 q.1 m l x len (sym (elsewhere q ne out) ∙ i) in
          (o.0, o.1, (o.2.0, again q m l x len o.0 o.2.0 o.2.1, λ used. block_at (q.1 + o.2.0) q.0 q.1 (q.1 + 176) ne (o.2.2 used)))
    ]
  ]

  -- the extent of a block that isn't in this one
  apart_home : (q : Place) (k a m : ℕ) (ext len : ℤ) → IsBlock g free q.0 q.1 ext len k a m → within e n q ≡ false → same e (q.0, a) ≡ false
  apart_home q k a m ext len x out = elim (cases_Bool (same e (q.0, a))) [
    | inr ne ↦ ne
    | inl y ↦ absurd (
        let eq = same_is e (q.0, a) y in
        let h = x.of_extent in
        let parts = extent_parts magic h.magic here h.here old h.name (pos n) (pos m) (some_same _ _ (sym there ∙ ap g eq ∙ h.is)) in
        let lens : pos n ≡ pos m = parts.1.1 in
        let long : n ≡ m = cc in
        let at : e.1 ≡ a = ap (λ (p : Place). p.1) eq in
        let file : q.0 ≡ e.0 = sym (ap (λ (p : Place). p.0) eq) in
        let from = x.from in
        let to = x.to in
        let some = x.some in
        false≢true (sym out ∙ inside e n q file (omega (arith, at, from)) (omega (arith, at, to, some, long))))
  ]

  blocks : (q : Place) (k : ℕ) (ext len : ℤ) → new q ≡ Some (a_block ext len k) → (a : ℕ) × ((m : ℕ) × IsBlock new free q.0 q.1 ext len k a m)
  blocks q k ext len i = elim (cases_Bool (same e q)) [
    | inl y ↦ absurd (let z : Some (an_extent 0x41424344 (loc e) name (pos n)) ≡ Some (a_block ext len k) = sym new_here ∙ ap new (same_is e q y) ∙ i in cc)
    | inr ne ↦ elim (cases_Bool (within e n q)) [
      | inl y ↦ absurd (let z : None ≡ Some (a_block ext len k) = sym (gone q ne y) ∙ i in cc)
      | inr out ↦
          let w = t.blocks q.0 q.1 k ext len (sym (elsewhere q ne out) ∙ i) in
          let x = w.1.1 in
          let off = apart_home q k w.0 w.1.0 ext len x out in
          (w.0, (w.1.0, record { long = x.long; some = x.some; extent_place = x.extent_place; of_extent = home_stays q.0 w.0 w.1.0 off x.of_extent; from = x.from; to = x.to; behind = block_at (w.0 + w.1.0) q.0 w.0 (q.1 + k) off x.behind }))
    ]
  ]

  pub freed_tiled : IsTiled new unused free
  freed_tiled = record {
    begins = λ file u i. extent_at u file 8192 (t.begins file u i);
    extents = λ file at m l x len i. extents (file, at) m l x len i;
    apart = λ file a b m m' k l l' x x' len i j lt.
        let p = was (file, a) m l x (pos k) i in let q = was (file, b) m' l' x' len j in
        t.apart file a b p.magic q.magic k p.here q.here p.name q.name len p.is q.is lt;
    blocks = λ file at k ext len i. blocks (file, at) k ext len i;
  }
