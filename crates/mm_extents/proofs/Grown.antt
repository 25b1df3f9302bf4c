-- An extent is cut from the unused rest of a file, and the files are tiled again.
use Rattle.std.proofs.Common.{◌≡◌, ◌≢◌, ℕ, ℤ, pos, ◌+◌, ◌-◌, ◌%◌, ◌<◌, ◌≤◌, inl, inr, true, false, List, Option, Some, None, refl, sym, ◌∙◌, ap, subst, arith}
use Rattle.std.specs.Prelude.{◌==◌}
use Rattle.std.specs.Option.{option_map}
use Rattle.std.proofs.lemmas.Bool.{cases_Bool, eqb-true}
use Rattle.mm_base.specs.Bytes.{padded}
use Rattle.mm_base.specs.declared.place.DiskLoc.{DiskLoc}
use Rattle.mm_frames.specs.Texts.{text_in}
use Rattle.mm_links.specs.Links.{Place, same}
use Rattle.mm_links.proofs.LinkLaws.{same_is, same_not}
use Rattle.mm_extents.specs.Heap.{Cell, extent, live, deleted, size, Heap}
use Rattle.mm_extents.specs.Changes.{loc, behind_of}
use Rattle.mm_extents.specs.Tiling.{Outline, an_extent, a_block, outline, ground, ExtentAt, BlockAt, IsExtent, IsHome, IsBlock, IsTiled}
use Rattle.mm_extents.proofs.Reuses.{extent_parts, magic_part}

some_same : {A : Type 0} (x y : A) → Some x ≡ Some y → x ≡ y
some_same x y e = cc

same_number : (a b : ℕ) → pos a ≡ pos b → a ≡ b
same_number a b e = cc

-- What stands in a file ends before its unused rest.
pub below_unused : (heap : Heap) (unused : ℕ → Option ℤ) (free : List ℕ) (t : IsTiled (ground heap) unused free) (file u at : ℕ) (c : Cell) → unused file ≡ Some (pos u) → heap (file, at) ≡ Some c → at + size c ≤ u
below_unused heap unused free t file u at c known there = by c there
  where
    extent_below : (a m : ℕ) (magic : ℕ) (here : DiskLoc) (name : List ℕ) → ground heap (file, a) ≡ Some (an_extent magic here name (pos m)) → a + m ≤ u
    extent_below a m magic here name e =
        let w = t.extents file a magic here name (pos m) e in
        let i = w.2.1.inside in
        let n : m ≡ w.2.0 = same_number m w.2.0 w.2.1.long in
        let same_u : w.0 ≡ u = same_number w.0 u (some_same (pos w.0) (pos u) (sym w.1 ∙ known)) in
        omega (arith, i, n, same_u)

    block_below : (ext len : ℤ) (k : ℕ) → ground heap (file, at) ≡ Some (a_block ext len k) → at + k ≤ u
    block_below ext len k e =
        let w = t.blocks file at k ext len e in
        let h = w.1.1.of_extent in
        let b = extent_below w.0 w.1.0 h.magic h.here h.name h.is in
        let to = w.1.1.to in
        omega (arith, b, to)

    by : (d : Cell) → heap (file, at) ≡ Some d → at + size d ≤ u
    by (extent h) f =
        let g = ap (λ (o : Option Cell). option_map outline o) f in
        let w = t.extents file at h.magic h.my_loc h.namespace h.len g in
        let i = w.2.1.inside in
        let s = w.2.1.some in
        let same_u : w.0 ≡ u = same_number w.0 u (some_same (pos w.0) (pos u) (sym w.1 ∙ known)) in
        omega (arith, i, s, same_u)
    by (live h room) f = block_below h.extent_ofs h.length_with_headers _ (ap (λ (o : Option Cell). option_map outline o) f)
    by (deleted h rest) f = block_below h.extent_ofs h.length_with_headers _ (ap (λ (o : Option Cell). option_map outline o) f)

module _ (g new : Place → Option Outline) (unused unused' : ℕ → Option ℤ) (free : List ℕ) (t : IsTiled g unused free) (e : Place) (name : List ℕ) (n : ℕ)
    (rest : unused e.0 ≡ Some (pos e.1)) (grown : unused' e.0 ≡ Some (pos (e.1 + n))) (others : (f : ℕ) → (f == e.0) ≡ false → unused' f ≡ unused f)
    (pages : n % 4096 ≡ 0) (long : 4096 ≤ n) (spelled : name ≡ padded 128 (text_in name)) (isnt : text_in name ≢ free) (none : g e ≡ None) (empty : g (behind_of e 176) ≡ None)
    (new_here : new e ≡ Some (an_extent 0x41424344 (loc e) name (pos n))) (new_behind : new (behind_of e 176) ≡ Some (a_block (pos e.1) (pos (n - 176)) (n - 176)))
    (elsewhere : (q : Place) → same e q ≡ false → same (behind_of e 176) q ≡ false → new q ≡ g q) where
  -- what stood somewhere stands there
  stays : (q : Place) (x : Outline) → g q ≡ Some x → new q ≡ Some x
  stays q x i = elsewhere q (same_not e q (λ f. (let z : None ≡ Some x = sym none ∙ ap g f ∙ i in cc))) (same_not (behind_of e 176) q (λ f. (let z : None ≡ Some x = sym empty ∙ ap g f ∙ i in cc))) ∙ i

  same_at : (file at u : ℕ) → (file == e.0) ≡ true → unused file ≡ Some (pos u) → u ≡ e.1
  same_at file at u y k = same_number u e.1 (some_same (pos u) (pos e.1) (sym k ∙ ap unused (eqb-true file e.0 y) ∙ rest))

  extent_at : (file u u' at : ℕ) → unused file ≡ Some (pos u) → unused' file ≡ Some (pos u') → ExtentAt g u file at → ExtentAt new u' file at
  extent_at file u u' at k k' (inr x) = inr (x.0, x.1, x.2, x.3, stays (file, at) (an_extent x.0 x.1 x.2 x.3) x.4)
  extent_at file u u' at k k' (inl a) = elim (cases_Bool (file == e.0)) [
    | inl y ↦
        let up = same_at file at u y k in
        let here : e ≡ (file, at) = λ i. (sym (eqb-true file e.0 y) i, sym (a ∙ up) i) in
        inr (0x41424344, loc e, name, pos n, ap new (sym here) ∙ new_here)
    | inr m ↦ inl (a ∙ same_number u u' (some_same (pos u) (pos u') (sym k ∙ sym (others file m) ∙ k')))
  ]

  -- how far the unused rest has moved
  moved : (file u u' : ℕ) → unused file ≡ Some (pos u) → unused' file ≡ Some (pos u') → u ≤ u'
  moved file u u' k k' = elim (cases_Bool (file == e.0)) [
    | inl y ↦
        let a = same_at file 0 u y k in
        let b : u' ≡ e.1 + n = same_number u' (e.1 + n) (some_same (pos u') (pos (e.1 + n)) (sym k' ∙ ap unused' (eqb-true file e.0 y) ∙ grown)) in
        omega (arith, a, b)
    | inr m ↦ let a : u ≡ u' = same_number u u' (some_same (pos u) (pos u') (sym k ∙ sym (others file m) ∙ k')) in omega (arith, a)
  ]

  known' : (file u : ℕ) → unused file ≡ Some (pos u) → (u' : ℕ) × (unused' file ≡ Some (pos u'))
  known' file u k = elim (cases_Bool (file == e.0)) [
    | inl y ↦ (e.1 + n, ap unused' (eqb-true file e.0 y) ∙ grown)
    | inr m ↦ (u, others file m ∙ k)
  ]

  known : (file u' : ℕ) → unused' file ≡ Some (pos u') → (u : ℕ) × (unused file ≡ Some (pos u))
  known file u' k = elim (cases_Bool (file == e.0)) [
    | inl y ↦ (e.1, ap unused (eqb-true file e.0 y) ∙ rest)
    | inr m ↦ (u', sym (others file m) ∙ k)
  ]

  block_at : (stop file a at : ℕ) → BlockAt g stop file a at → BlockAt new stop file a at
  block_at stop file a at (inl f) = inl f
  block_at stop file a at (inr x) = inr (x.0, x.1, stays (file, at) (a_block (pos a) x.0 x.1) x.2)

  home_stays : (file a m : ℕ) → IsHome g free file a m → IsHome new free file a m
  home_stays file a m x = record { magic = x.magic; here = x.here; name = x.name; is = stays (file, a) (an_extent x.magic x.here x.name (pos m)) x.is; isnt_free = x.isnt_free }

  abbrev Holds : Place → ℕ → DiskLoc → List ℕ → ℤ → Type 0
  Holds q m l x len = (u : ℕ) × (unused' q.0 ≡ Some (pos u)) × ((k : ℕ) × IsExtent new u q.0 q.1 m l x len k × (text_in x ≢ free → BlockAt new (q.1 + k) q.0 q.1 (q.1 + 176)))

  mine : Holds e 0x41424344 (loc e) name (pos n)
  mine = (
    e.1 + n,
    grown,
    (
      n,
      record { magic_word = refl; own_place = refl; named = spelled; long = refl; pages = pages; some = long; inside = omega arith; behind = inl refl },
      λ _. inr (pos (n - 176), n - 176, new_behind),
    ),
  )

  old : (q : Place) (m : ℕ) (l : DiskLoc) (x : List ℕ) (len : ℤ) → g q ≡ Some (an_extent m l x len) → Holds q m l x len
  old q m l x len i =
      let o = t.extents q.0 q.1 m l x len i in
      let k = known' q.0 o.0 o.1 in
      let y = o.2.1 in
      let inside = y.inside in
      let up = moved q.0 o.0 k.0 o.1 k.1 in (
        k.0,
        k.1,
        (
          o.2.0,
          record { magic_word = y.magic_word; own_place = y.own_place; named = y.named; long = y.long; pages = y.pages; some = y.some; inside = omega (arith, inside, up); behind = extent_at q.0 o.0 k.0 (q.1 + o.2.0) o.1 k.1 y.behind },
          λ ne. block_at (q.1 + o.2.0) q.0 q.1 (q.1 + 176) (o.2.2 ne),
        ),
      )

  -- an extent is the new one, or was there
  data Which (q : Place) (m : ℕ) (l : DiskLoc) (x : List ℕ) (len : ℤ) : Type 0 where
    is_new : e ≡ q → an_extent 0x41424344 (loc e) name (pos n) ≡ an_extent m l x len → Which q m l x len
    is_old : g q ≡ Some (an_extent m l x len) → Which q m l x len

  which : (q : Place) (m : ℕ) (l : DiskLoc) (x : List ℕ) (len : ℤ) → new q ≡ Some (an_extent m l x len) → Which q m l x len
  which q m l x len i = elim (cases_Bool (same e q)) [
    | inl y ↦ is_new (same_is e q y) (some_same (an_extent 0x41424344 (loc e) name (pos n)) (an_extent m l x len) (sym new_here ∙ ap new (same_is e q y) ∙ i))
    | inr a ↦ elim (cases_Bool (same (behind_of e 176) q)) [
      | inl y ↦ absurd (let z : Some (a_block (pos e.1) (pos (n - 176)) (n - 176)) ≡ Some (an_extent m l x len) = sym new_behind ∙ ap new (same_is (behind_of e 176) q y) ∙ i in cc)
      | inr b ↦ is_old (sym (elsewhere q a b) ∙ i)
    ]
  ]

  extents : (q : Place) (m : ℕ) (l : DiskLoc) (x : List ℕ) (len : ℤ) → Which q m l x len → Holds q m l x len
  extents q m l x len (is_old i) = old q m l x len i
  extents q m l x len (is_new at cells) =
      let parts = extent_parts 0x41424344 m (loc e) l name x (pos n) len cells in
      let magics = magic_part 0x41424344 m (loc e) l name x (pos n) len cells in
      subst (λ (z : Place × ℕ × DiskLoc × List ℕ × ℤ). Holds z.0 z.1 z.2 z.3 z.4) (let p : (e, 0x41424344, loc e, name, pos n) ≡ (q, m, l, x, len) = λ j. (at j, magics j, parts.0 j, parts.1.0 j, parts.1.1 j) in p) mine

  -- in the new one's file every other ends before it
  ends_before : (file a m k : ℕ) (l : DiskLoc) (x : List ℕ) → g (file, a) ≡ Some (an_extent m l x (pos k)) → file ≡ e.0 → a + k ≤ e.1
  ends_before file a m k l x i same_file =
      let o = t.extents file a m l x (pos k) i in
      let inside = o.2.1.inside in
      let same_k : k ≡ o.2.0 = same_number k o.2.0 o.2.1.long in
      let up : o.0 ≡ e.1 = same_number o.0 e.1 (some_same (pos o.0) (pos e.1) (sym o.1 ∙ ap unused same_file ∙ rest)) in
      omega (arith, inside, same_k, up)

  some_long : (file a m : ℕ) (l : DiskLoc) (x : List ℕ) (len : ℤ) → g (file, a) ≡ Some (an_extent m l x len) → file ≡ e.0 → a < e.1
  some_long file a m l x len i same_file =
      let o = t.extents file a m l x len i in
      let inside = o.2.1.inside in
      let s = o.2.1.some in
      let up : o.0 ≡ e.1 = same_number o.0 e.1 (some_same (pos o.0) (pos e.1) (sym o.1 ∙ ap unused same_file ∙ rest)) in
      omega (arith, inside, s, up)

  apart : (file a b m m' k : ℕ) (l l' : DiskLoc) (x x' : List ℕ) (len : ℤ) → Which (file, a) m l x (pos k) → Which (file, b) m' l' x' len → a < b → a + k ≤ b
  apart file a b m m' k l l' x x' len (is_old i) (is_old j) lt = t.apart file a b m m' k l l' x x' len i j lt
  apart file a b m m' k l l' x x' len (is_old i) (is_new at cells) lt =
      let same_file : file ≡ e.0 = ap (λ (q : Place). q.0) (sym at) in
      let same_b : b ≡ e.1 = ap (λ (q : Place). q.1) (sym at) in
      let before = ends_before file a m k l x i same_file in
      omega (arith, before, same_b)
  apart file a b m m' k l l' x x' len (is_new at cells) (is_old j) lt =
      let same_file : file ≡ e.0 = ap (λ (q : Place). q.0) (sym at) in
      let same_a : a ≡ e.1 = ap (λ (q : Place). q.1) (sym at) in
      let before = some_long file b m' l' x' len j same_file in
      absurd (omega (arith, before, same_a, lt))
  apart file a b m m' k l l' x x' len (is_new at cells) (is_new at' cells') lt =
      let same_a : a ≡ e.1 = ap (λ (q : Place). q.1) (sym at) in
      let same_b : b ≡ e.1 = ap (λ (q : Place). q.1) (sym at') in
      absurd (omega (arith, same_a, same_b, lt))

  new_block : IsBlock new free e.0 (e.1 + 176) (pos e.1) (pos (n - 176)) (n - 176) e.1 n
  new_block = record {
    long = refl;
    some = omega (arith, long);
    extent_place = refl;
    of_extent = record { magic = 0x41424344; here = loc e; name = name; is = new_here; isnt_free = isnt };
    from = omega arith;
    to = omega (arith, long);
    behind = inl (omega (arith, long));
  }

  blocks : (q : Place) (k : ℕ) (ext len : ℤ) → new q ≡ Some (a_block ext len k) → (a : ℕ) × ((m : ℕ) × IsBlock new free q.0 q.1 ext len k a m)
  blocks q k ext len i = elim (cases_Bool (same e q)) [
    | inl y ↦ absurd (let z : Some (an_extent 0x41424344 (loc e) name (pos n)) ≡ Some (a_block ext len k) = sym new_here ∙ ap new (same_is e q y) ∙ i in cc)
    | inr m ↦ elim (cases_Bool (same (behind_of e 176) q)) [
      | inl y ↦
          let bq = same_is (behind_of e 176) q y in
          let cells : Some (a_block (pos e.1) (pos (n - 176)) (n - 176)) ≡ Some (a_block ext len k) = sym new_behind ∙ ap new bq ∙ i in
          let ee : pos e.1 ≡ ext = cc in
          let el : pos (n - 176) ≡ len = cc in
          let ek : n - 176 ≡ k = cc in
          (e.1, (n, subst (λ (z : Place × ℤ × ℤ × ℕ). IsBlock new free z.0.0 z.0.1 z.1 z.2 z.3 e.1 n) (let p : (behind_of e 176, pos e.1, pos (n - 176), n - 176) ≡ (q, ext, len, k) = λ j. (bq j, ee j, el j, ek j) in p) new_block))
      | inr h ↦
          let w = t.blocks q.0 q.1 k ext len (sym (elsewhere q m h) ∙ i) in
          let x = w.1.1 in
          (w.0, (w.1.0, record { long = x.long; some = x.some; extent_place = x.extent_place; of_extent = home_stays q.0 w.0 w.1.0 x.of_extent; from = x.from; to = x.to; behind = block_at (w.0 + w.1.0) q.0 w.0 (q.1 + k) x.behind }))
    ]
  ]

  pub grown_tiled : IsTiled new unused' free
  grown_tiled = record {
    begins = λ file u' i. let k = known file u' i in extent_at file k.0 u' 8192 k.1 i (t.begins file k.0 k.1);
    extents = λ file at m l x len i. extents (file, at) m l x len (which (file, at) m l x len i);
    apart = λ file a b m m' k l l' x x' len i j lt. apart file a b m m' k l l' x x' len (which (file, a) m l x (pos k) i) (which (file, b) m' l' x' len j) lt;
    blocks = λ file at k ext len i. blocks (file, at) k ext len i;
  }
