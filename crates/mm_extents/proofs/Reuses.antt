-- A free extent becomes one of a namespace, and the files are tiled as before.
use Rattle.std.proofs.Common.{◌≡◌, ◌≢◌, ℕ, ℤ, pos, ◌+◌, ◌-◌, ◌≤◌, ◌⊎◌, inl, inr, false, List, Option, Some, None, refl, sym, ◌∙◌, ap, subst, arith}
use Rattle.std.specs.Option.{option_map}
use Rattle.std.proofs.lemmas.Bool.{cases_Bool, cases_lt}
use Rattle.mm_base.specs.Bytes.{padded}
use Rattle.mm_base.specs.declared.place.DiskLoc.{DiskLoc}
use Rattle.mm_frames.specs.Texts.{text_in}
use Rattle.mm_links.specs.Links.{Place, same}
use Rattle.mm_links.proofs.LinkLaws.{same_is, same_not, not_same}
use Rattle.mm_extents.specs.Heap.{Cell, extent, live, deleted, size, Heap}
use Rattle.mm_extents.specs.Changes.{loc, behind_of}
use Rattle.mm_extents.specs.Tiling.{Outline, an_extent, a_block, outline, ground, ExtentAt, BlockAt, IsExtent, IsHome, IsBlock, IsTiled}

some_same : {A : Type 0} (x y : A) → Some x ≡ Some y → x ≡ y
some_same x y e = cc

pub extent_parts : (m m' : ℕ) (l l' : DiskLoc) (x y : List ℕ) (u v : ℤ) → an_extent m l x u ≡ an_extent m' l' y v → (l ≡ l') × ((x ≡ y) × (u ≡ v))
extent_parts m m' l l' x y u v e = (let f : l ≡ l' = cc in f, (let g : x ≡ y = cc in g, let h : u ≡ v = cc in h))

pub magic_part : (m m' : ℕ) (l l' : DiskLoc) (x y : List ℕ) (u v : ℤ) → an_extent m l x u ≡ an_extent m' l' y v → m ≡ m'
magic_part m m' l l' x y u v e = cc

-- the outline of what stands in an extent
pub record Stood (g : Place → Option Outline) (q : Place) (len : ℤ) : Type 0 where
  pub magic : ℕ
  pub here : DiskLoc
  pub name : List ℕ
  pub is : g q ≡ Some (an_extent magic here name len)

module _ (g new : Place → Option Outline) (unused : ℕ → Option ℤ) (free : List ℕ) (t : IsTiled g unused free) (e : Place) (magic : ℕ) (here : DiskLoc) (old name : List ℕ) (n : ℕ)
    (there : g e ≡ Some (an_extent magic here old (pos n))) (old_free : text_in old ≡ free) (spelled : name ≡ padded 128 (text_in name)) (isnt : text_in name ≢ free) (empty : g (behind_of e 176) ≡ None)
    (new_here : new e ≡ Some (an_extent 0x41424344 (loc e) name (pos n))) (new_behind : new (behind_of e 176) ≡ Some (a_block (pos e.1) (pos (n - 176)) (n - 176)))
    (elsewhere : (q : Place) → same e q ≡ false → same (behind_of e 176) q ≡ false → new q ≡ g q) where
  -- an extent is there, under whatever name
  stays : (q : Place) (m : ℕ) (l : DiskLoc) (x : List ℕ) (len : ℤ) → g q ≡ Some (an_extent m l x len) → Stood new q len
  stays q m l x len i = elim (cases_Bool (same e q)) [
    | inl y ↦
        let eq = same_is e q y in
        let parts = extent_parts magic m here l old x (pos n) len (some_same _ _ (sym there ∙ ap g eq ∙ i)) in
        record { magic = 0x41424344; here = loc e; name = name; is = ap new (sym eq) ∙ new_here ∙ ap (λ (z : ℤ). Some (an_extent 0x41424344 (loc e) name z)) parts.1.1 }
    | inr m' ↦ record { magic = m; here = l; name = x; is = elsewhere q m' (same_not (behind_of e 176) q (λ f. (let z : None ≡ Some (an_extent m l x len) = sym empty ∙ ap g f ∙ i in cc))) ∙ i }
  ]

  was : (q : Place) (m : ℕ) (l : DiskLoc) (x : List ℕ) (len : ℤ) → new q ≡ Some (an_extent m l x len) → Stood g q len
  was q m l x len i = elim (cases_Bool (same e q)) [
    | inl y ↦
        let eq = same_is e q y in
        let parts = extent_parts 0x41424344 m (loc e) l name x (pos n) len (some_same _ _ (sym new_here ∙ ap new eq ∙ i)) in
        record { magic = magic; here = here; name = old; is = ap g (sym eq) ∙ there ∙ ap (λ (z : ℤ). Some (an_extent magic here old z)) parts.1.1 }
    | inr m' ↦ elim (cases_Bool (same (behind_of e 176) q)) [
      | inl y ↦ absurd (let z : Some (a_block (pos e.1) (pos (n - 176)) (n - 176)) ≡ Some (an_extent m l x len) = sym new_behind ∙ ap new (same_is (behind_of e 176) q y) ∙ i in cc)
      | inr k ↦ record { magic = m; here = l; name = x; is = sym (elsewhere q m' k) ∙ i }
    ]
  ]

  extent_at : (u file at : ℕ) → ExtentAt g u file at → ExtentAt new u file at
  extent_at u file at (inl f) = inl f
  extent_at u file at (inr x) = let s = stays (file, at) x.0 x.1 x.2 x.3 x.4 in inr (s.magic, s.here, s.name, x.3, s.is)

  block_at : (stop file a at : ℕ) → BlockAt g stop file a at → BlockAt new stop file a at
  block_at stop file a at (inl f) = inl f
  block_at stop file a at (inr x) = inr (
    x.0,
    x.1,
    elsewhere (file, at)
        (same_not e (file, at) (λ f. (let z : Some (an_extent magic here old (pos n)) ≡ Some (a_block (pos a) x.0 x.1) = sym there ∙ ap g f ∙ x.2 in cc)))
        (same_not (behind_of e 176) (file, at) (λ f. (let z : None ≡ Some (a_block (pos a) x.0 x.1) = sym empty ∙ ap g f ∙ x.2 in cc))) ∙ x.2,
  )

  -- the extent as it was
  whole : (u : ℕ) × (unused e.0 ≡ Some (pos u)) × ((k : ℕ) × IsExtent g u e.0 e.1 magic here old (pos n) k × (text_in old ≢ free → BlockAt g (e.1 + k) e.0 e.1 (e.1 + 176)))
  whole = t.extents e.0 e.1 magic here old (pos n) there

  same_n : whole.2.0 ≡ n
  same_n = let f : pos n ≡ pos whole.2.0 = whole.2.1.long in (let g : n ≡ whole.2.0 = cc in sym g)

  long : 4096 ≤ n
  long = let s = whole.2.1.some in let f = same_n in omega (arith, s, f)

  home_stays : (file a m : ℕ) → IsHome g free file a m → IsHome new free file a m
  home_stays file a m x = record {
    magic = x.magic;
    here = x.here;
    name = x.name;
    is = elsewhere (file, a)
        (same_not e (file, a) (λ f. x.isnt_free (ap text_in (sym (extent_parts magic x.magic here x.here old x.name (pos n) (pos m) (some_same _ _ (sym there ∙ ap g f ∙ x.is))).1.0) ∙ old_free)))
        (same_not (behind_of e 176) (file, a) (λ f. (let z : None ≡ Some (an_extent x.magic x.here x.name (pos m)) = sym empty ∙ ap g f ∙ x.is in cc))) ∙ x.is;
    isnt_free = x.isnt_free;
  }

  again : (q : Place) (m : ℕ) (l : DiskLoc) (x : List ℕ) (len : ℤ) (u k : ℕ) → IsExtent g u q.0 q.1 m l x len k → IsExtent new u q.0 q.1 m l x len k
  again q m l x len u k i = record { magic_word = i.magic_word; own_place = i.own_place; named = i.named; long = i.long; pages = i.pages; some = i.some; inside = i.inside; behind = extent_at u q.0 (q.1 + k) i.behind }

  mine : (u k : ℕ) → IsExtent g u e.0 e.1 magic here old (pos n) k → IsExtent new u e.0 e.1 0x41424344 (loc e) name (pos n) k
  mine u k i = record { magic_word = refl; own_place = refl; named = spelled; long = i.long; pages = i.pages; some = i.some; inside = i.inside; behind = extent_at u e.0 (e.1 + k) i.behind }

  abbrev Holds : Place → ℕ → DiskLoc → List ℕ → ℤ → Type 0
  Holds q m l x len = (u : ℕ) × (unused q.0 ≡ Some (pos u)) × ((k : ℕ) × IsExtent new u q.0 q.1 m l x len k × (text_in x ≢ free → BlockAt new (q.1 + k) q.0 q.1 (q.1 + 176)))

  extents : (q : Place) (m : ℕ) (l : DiskLoc) (x : List ℕ) (len : ℤ) → new q ≡ Some (an_extent m l x len) → Holds q m l x len
  extents q m l x len i = elim (cases_Bool (same e q)) [
    | inl y ↦
        let eq = same_is e q y in
        let cells = some_same (an_extent 0x41424344 (loc e) name (pos n)) (an_extent m l x len) (sym new_here ∙ ap new eq ∙ i) in
        let parts = extent_parts 0x41424344 m (loc e) l name x (pos n) len cells in
        let magics = magic_part 0x41424344 m (loc e) l name x (pos n) len cells in
        let own : Holds e 0x41424344 (loc e) name (pos n) = (whole.0, whole.1, (whole.2.0, mine whole.0 whole.2.0 whole.2.1, λ _. inr (pos (n - 176), n - 176, new_behind))) in
        subst (λ (z : Place × ℕ × DiskLoc × List ℕ × ℤ). Holds z.0 z.1 z.2 z.3 z.4) (let p : (e, 0x41424344, loc e, name, pos n) ≡ (q, m, l, x, len) = λ j. (eq j, magics j, parts.0 j, parts.1.0 j, parts.1.1 j) in p) own
    | inr m' ↦ elim (cases_Bool (same (behind_of e 176) q)) [
      | inl y ↦ absurd (let z : Some (a_block (pos e.1) (pos (n - 176)) (n - 176)) ≡ Some (an_extent m l x len) = sym new_behind ∙ ap new (same_is (behind_of e 176) q y) ∙ i in cc)
      | inr k ↦
          let o = t.extents q.0 q.1 m l x len (sym (elsewhere q m' k) ∙ i) in
          (o.0, o.1, (o.2.0, again q m l x len o.0 o.2.0 o.2.1, λ ne. block_at (q.1 + o.2.0) q.0 q.1 (q.1 + 176) (o.2.2 ne)))
    ]
  ]

  new_block : IsBlock new free e.0 (e.1 + 176) (pos e.1) (pos (n - 176)) (n - 176) e.1 n
  new_block = let l = long in record {
    long = refl;
    some = omega (arith, l);
    extent_place = refl;
    of_extent = record { magic = 0x41424344; here = loc e; name = name; is = new_here; isnt_free = isnt };
    from = omega arith;
    to = omega (arith, l);
    behind = inl (omega (arith, l));
  }

  blocks : (q : Place) (k : ℕ) (ext len : ℤ) → new q ≡ Some (a_block ext len k) → (a : ℕ) × ((m : ℕ) × IsBlock new free q.0 q.1 ext len k a m)
  blocks q k ext len i = elim (cases_Bool (same e q)) [
    | inl y ↦ absurd (let z : Some (an_extent 0x41424344 (loc e) name (pos n)) ≡ Some (a_block ext len k) = sym new_here ∙ ap new (same_is e q y) ∙ i in cc)
    | inr m ↦ elim (cases_Bool (same (behind_of e 176) q)) [
      | inl y ↦
          let bq = same_is (behind_of e 176) q y in
          let cells : Some (a_block (pos e.1) (pos (n - 176)) (n - 176)) ≡ Some (a_block ext len k) = sym new_behind ∙ ap new bq ∙ i in
          let ee : pos e.1 ≡ ext = cc in
          let el : pos (n - 176) ≡ len = cc in
          let ek : n - 176 ≡ k = cc in
          (e.1, (n, subst (λ (z : Place × ℤ × ℤ × ℕ). IsBlock new free z.0.0 z.0.1 z.1 z.2 z.3 e.1 n) (let p : (behind_of e 176, pos e.1, pos (n - 176), n - 176) ≡ (q, ext, len, k) = λ j. (bq j, ee j, el j, ek j) in p) new_block))
      | inr h ↦
          let w = t.blocks q.0 q.1 k ext len (sym (elsewhere q m h) ∙ i) in
          let x = w.1.1 in
          (w.0, (w.1.0, record { long = x.long; some = x.some; extent_place = x.extent_place; of_extent = home_stays q.0 w.0 w.1.0 x.of_extent; from = x.from; to = x.to; behind = block_at (w.0 + w.1.0) q.0 w.0 (q.1 + k) x.behind }))
    ]
  ]

  pub reused_tiled : IsTiled new unused free
  reused_tiled = record {
    begins = λ file u i. extent_at u file 8192 (t.begins file u i);
    extents = λ file at m l x len i. extents (file, at) m l x len i;
    apart = λ file a b m m' k l l' x x' len i j lt.
        let p = was (file, a) m l x (pos k) i in let q = was (file, b) m' l' x' len j in
        t.apart file a b p.magic q.magic k p.here q.here p.name q.name len p.is q.is lt;
    blocks = λ file at k ext len i. blocks (file, at) k ext len i;
  }

-- What stands in the file of an extent without blocks, as a free one, stands before or behind it.
pub clear_of : (heap : Heap) (unused : ℕ → Option ℤ) (free : List ℕ) (t : IsTiled (ground heap) unused free) (e q : Place) (magic n : ℕ) (here : DiskLoc) (old : List ℕ) (c : Cell)
    → ground heap e ≡ Some (an_extent magic here old (pos n)) → text_in old ≡ free → heap q ≡ Some c → same e q ≡ false → q.0 ≡ e.0 → (q.1 + size c ≤ e.1) ⊎ (e.1 + n ≤ q.1)
clear_of heap unused free t e q magic n here old c there old_free i ne file = by c i
  where
    at_file : (x : Option Outline) → ground heap q ≡ x → ground heap (e.0, q.1) ≡ x
    at_file x f = ap (λ (k : ℕ). ground heap (k, q.1)) (sym file) ∙ f

    distinct : (q.1 ≡ e.1) → ⊥
    distinct f = not_same e q ne (λ j. (sym file j, sym f j))

    -- an extent is before or behind
    sides : (a m m' : ℕ) (l : DiskLoc) (x : List ℕ) → ground heap (e.0, a) ≡ Some (an_extent m' l x (pos m)) → (a ≡ e.1 → ⊥) → (a + m ≤ e.1) ⊎ (e.1 + n ≤ a)
    sides a m m' l x f differs = elim (cases_lt a e.1) [
      | inl low ↦ inl (t.apart e.0 a e.1 m' magic m l here x old (pos n) f there low)
      | inr up ↦ elim (cases_lt e.1 a) [
        | inl high ↦ inr (t.apart e.0 e.1 a magic m' n here l old x (pos m) there f high)
        | inr down ↦ absurd (differs (omega (arith, up, down)))
      ]
    ]

    of_block : (ext len : ℤ) (k : ℕ) → ground heap q ≡ Some (a_block ext len k) → (q.1 + k ≤ e.1) ⊎ (e.1 + n ≤ q.1)
    of_block ext len k f =
        let w = t.blocks e.0 q.1 k ext len (at_file _ f) in
        let x = w.1.1 in
        let h = x.of_extent in
        let from = x.from in let to = x.to in
        elim (sides w.0 w.1.0 h.magic h.here h.name h.is (λ z. h.isnt_free (ap text_in (sym (extent_parts magic h.magic here h.here old h.name (pos n) (pos w.1.0) (some_same _ _ (sym there ∙ ap (λ (a : ℕ). ground heap (e.0, a)) (sym z) ∙ h.is))).1.0) ∙ old_free))) [
          | inl low ↦ inl (omega (arith, low, from, to))
          | inr high ↦ inr (omega (arith, high, from))
        ]

    by : (d : Cell) → heap q ≡ Some d → (q.1 + size d ≤ e.1) ⊎ (e.1 + n ≤ q.1)
    by (extent h) f =
        let g = at_file _ (ap (λ (o : Option Cell). option_map outline o) f) in
        let w = t.extents e.0 q.1 h.magic h.my_loc h.namespace h.len g in
        let some = w.2.1.some in
        let same_len = w.2.1.long in
        elim (sides q.1 w.2.0 h.magic h.my_loc h.namespace (g ∙ ap (λ (z : ℤ). Some (an_extent h.magic h.my_loc h.namespace z)) same_len) distinct) [
          | inl low ↦ inl (omega (arith, low, some))
          | inr high ↦ inr high
        ]
    by (live h room) f = of_block h.extent_ofs h.length_with_headers _ (ap (λ (o : Option Cell). option_map outline o) f)
    by (deleted h rest) f = of_block h.extent_ofs h.length_with_headers _ (ap (λ (o : Option Cell). option_map outline o) f)
