-- An extent is put behind the last free one.
use Rattle.std.proofs.Common.{◌≡◌, ◌≢◌, ℕ, ℤ, pos, ◌+◌, ◌<◌, ◌≤◌, ◌⊎◌, inl, inr, Bool, true, false, List, [], ◌∷◌, length, Option, Some, None, refl, sym, ◌∙◌, ap, subst, arith}
use Rattle.std.specs.Prelude.{◌==◌, if◌then◌else◌, nat_lt, unwrap_or}
use Rattle.std.specs.FinMap.{get}
use Rattle.std.specs.Option.{option_map}
use Rattle.std.proofs.lemmas.Bool.{cases_Bool, cases_lt, false≢true}
use Rattle.mm_base.specs.Bytes.{part, padded, overwritten}
use Rattle.mm_base.specs.Places.{null}
use Rattle.mm_base.specs.declared.place.DiskLoc.{DiskLoc}
use Rattle.mm_base.proofs.Parts.{length-overwritten, part-overwritten, part_before, part_behind}
use Rattle.mm_ranges.specs.Overlay.{Image, bytes_at, laid}
use Rattle.mm_frames.specs.Texts.{text_in}
use Rattle.mm_frames.specs.ExtentHeader.{extent_header_of}
use Rattle.mm_frames.specs.declared.extent_header.ExtentHeader.{ExtentHeader}
use Rattle.mm_frames.specs.declared.free_ends.FreeEnds.{FreeEnds}
use Rattle.mm_links.specs.Links.{Place, same, has, first_of, last_of, next_in, appended, IsLinked}
use Rattle.mm_links.proofs.LinkLaws.{same_is, same_own, same_not, if_true, if_false, has_here, has_before, has_last, last_next}
use Rattle.mm_links.proofs.Appending.{has_appended, last_new, linked_on}
use Rattle.mm_extents.specs.Heap.{Cell, extent, size, Heap, Shows, IsHeap, change}
use Rattle.mm_extents.specs.Changes.{loc, loc_or, LowOr, IsLow, KeepsHeaders, xnext_set}
use Rattle.mm_extents.specs.Files.{header_unused, unused_in}
use Rattle.mm_extents.specs.Tiling.{Outline, an_extent, outline, ground, IsExtent, BlockAt, IsTiled}
use Rattle.mm_extents.specs.Chains.{ext_next, ext_prev}
use Rattle.mm_extents.specs.FreeExtents.{HasFree, ExtentOr, PassFits, next_passed, without_links}
use Rattle.mm_extents.specs.Dropping.{within, header_freed, with_freed, IsUsed, joined}
use Rattle.mm_extents.proofs.FileLaws.{low_place, files_kept}
use Rattle.mm_extents.proofs.Writes.{changed_here, changed_there, laid_here, laid_elsewhere}
use Rattle.mm_extents.proofs.Within.{SameBut, IsOld, IsNew, heap_within}
use Rattle.mm_extents.proofs.Headers.{unused_inside}
use Rattle.mm_extents.proofs.ReuseSteps.{next_passed_stays, wl_next, prev_next, wl_outline, extent_like, not_null}
use Rattle.mm_extents.proofs.Drops.{sides_of, extent_out, freed_tiled}

some_same : {A : Type 0} (x y : A) → Some x ≡ Some y → x ≡ y
some_same x y e = cc

-- ---- what stands where then

pub freed_here : (e : Place) (n : ℕ) (h : ExtentHeader) (heap : Heap) → with_freed e n h heap e ≡ Some (extent h)
freed_here e n h heap = if_true (same e e) _ _ (same_own e)

pub freed_gone : (e : Place) (n : ℕ) (h : ExtentHeader) (heap : Heap) (q : Place) → same e q ≡ false → within e n q ≡ true → with_freed e n h heap q ≡ None
freed_gone e n h heap q ne y = if_false (same e q) _ _ ne ∙ if_true (within e n q) _ _ y

pub freed_there : (e : Place) (n : ℕ) (h : ExtentHeader) (heap : Heap) (q : Place) → same e q ≡ false → within e n q ≡ false → with_freed e n h heap q ≡ heap q
freed_there e n h heap q ne out = if_false (same e q) _ _ ne ∙ if_false (within e n q) _ _ out

-- ---- the header is written

module _ (image : Image) (heap : Heap) (e : Place) (n : ℕ) (is : IsHeap image heap) (old : ExtentHeader) (there : heap e ≡ Some (extent old)) (inside : e.1 + n ≤ length (bytes_at image e.0)) (long : 4096 ≤ n)
    (hb : List ℕ) (hlong : length hb ≡ 176) (h : ExtentHeader) (hh : extent_header_of hb ≡ h) where
  abbrev new : Image
  new = laid e.0 e.1 hb image

  first : bytes_at new e.0 ≡ overwritten e.1 hb (bytes_at image e.0)
  first = laid_here image e.0 e.1 hb (omega (arith, inside))

  same_but : SameBut e n image new
  same_but = record {
    elsewhere = λ f ne. laid_elsewhere image e.0 e.1 f hb ne;
    long = ap length first ∙ length-overwritten e.1 hb (bytes_at image e.0) (omega (arith, inside, hlong, long));
    before = λ q m le. ap (part q m) first ∙ part_before q m e.1 hb (bytes_at image e.0) le (omega (arith, inside));
    behind = λ q m le. ap (part q m) first ∙ part_behind q m e.1 hb (bytes_at image e.0) (omega (arith, le, hlong, long)) (omega (arith, inside));
  }

  -- the header stands at its place
  record Put (q : Place) (d : Cell) : Type 0 where
    at : q ≡ e
    cell : d ≡ extent h

  put_shows : Shows (bytes_at new e.0) e.1 (extent h)
  put_shows = ap extent_header_of (ap (part e.1 176) first ∙ part-overwritten e.1 176 hb (bytes_at image e.0) (omega (arith, inside)) hlong) ∙ hh

  put_new : (q : Place) (d : Cell) → Put q d → IsNew e n new q d
  put_new q d p =
      let file = ap (λ (x : Place). x.0) p.at in
      let ofs = ap (λ (x : Place). x.1) p.at in
      let sized = ap size p.cell in
      record {
        file = file;
        from = omega (arith, ofs);
        to = omega (arith, ofs, sized, long);
        shows = subst (λ (x : Place). Shows (bytes_at new x.0) x.1 d) (sym p.at) (subst (λ (c : Cell). Shows (bytes_at new e.0) e.1 c) (sym p.cell) put_shows);
      }

  each : (q : Place) (d : Cell) → with_freed e n h heap q ≡ Some d → IsOld e n heap q d ⊎ Put q d
  each q d i = elim (cases_Bool (same e q)) [
    | inl y ↦
        let at = same_is e q y in
        let cell : extent h ≡ d = some_same (extent h) d (sym (freed_here e n h heap) ∙ ap (with_freed e n h heap) at ∙ i) in
        inr (record { at = sym at; cell = sym cell })
    | inr ne ↦ elim (cases_Bool (within e n q)) [
      | inl y ↦ absurd (let z : None ≡ Some d = sym (freed_gone e n h heap q ne y) ∙ i in cc)
      | inr out ↦
          let stood : heap q ≡ Some d = sym (freed_there e n h heap q ne out) ∙ i in
          inl (record {
            there = stood;
            outside = λ file. elim (sides_of e n q ne out file) [
              | inl low ↦ inl (is.apart e.0 q.1 e.1 d (extent old) (ap (λ (k : ℕ). heap (k, q.1)) (sym file) ∙ stood) there low)
              | inr high ↦ inr high
            ];
          })
    ]
  ]

  pub freed_written : IsHeap (laid e.0 e.1 hb image) (with_freed e n h heap)
  freed_written = heap_within image new heap (with_freed e n h heap) e n is same_but (is.data_file e (extent old) there) (is.behind_header e (extent old) there) inside Put each put_new
      (λ file a b c d p q lt. absurd (let x = ap (λ (z : Place). z.1) p.at in let y = ap (λ (z : Place). z.1) q.at in omega (arith, x, y, lt)))

-- ---- the free chain

module _ (image : Image) (db : List ℕ) (heap : Heap) (chain : List Place) (ends : FreeEnds) (f : HasFree image db heap chain ends) (e : Place) (n : ℕ) (u : IsUsed heap db e n) where
  abbrev h : ExtentHeader
  h = u.h

  pub whole : (v : ℕ) × (unused_in image e.0 ≡ Some (pos v)) × ((k : ℕ) × IsExtent (ground heap) v e.0 e.1 h.magic h.my_loc h.namespace h.len k × (text_in h.namespace ≢ db → BlockAt (ground heap) (e.1 + k) e.0 e.1 (e.1 + 176)))
  whole = f.tiled.extents e.0 e.1 h.magic h.my_loc h.namespace h.len (ap (λ (o : Option Cell). option_map outline o) u.is)

  same_n : whole.2.0 ≡ n
  same_n = let k : pos n ≡ pos whole.2.0 = sym u.long ∙ whole.2.1.long in (let z : n ≡ whole.2.0 = cc in sym z)

  pub long : 4096 ≤ n
  long = let s = whole.2.1.some in let k = same_n in omega (arith, s, k)

  pub inside_used : e.1 + n ≤ length (bytes_at image e.0)
  inside_used = by (get image e.0) refl
    where
      by : (o : Option (List ℕ)) → get image e.0 ≡ o → e.1 + n ≤ length (bytes_at image e.0)
      by None g = absurd (let z : length (bytes_at image e.0) ≡ 0 = ap (λ (o : Option (List ℕ)). length (unwrap_or o [])) g in let i = f.shown.inside e (extent h) u.is in omega (arith, z, i))
      by (Some b) g =
          let z : length (bytes_at image e.0) ≡ length b = ap (λ (o : Option (List ℕ)). length (unwrap_or o [])) g in
          let v = unused_inside image e.0 (length b) whole.0 f.files (f.shown.data_file e (extent h) u.is) (ap (λ (o : Option (List ℕ)). option_map length o) g) whole.1 in
          let i = whole.2.1.inside in
          let k = same_n in
          omega (arith, z, v, i, k)

  pub e_off : has chain e ≡ false
  e_off = elim (cases_Bool (has chain e)) [
    | inr no' ↦ no'
    | inl y ↦ absurd (
        let x = f.on_chain e y in
        let one : extent x.0 ≡ extent h = some_same (extent x.0) (extent h) (sym x.1 ∙ u.is) in
        let head : x.0 ≡ h = cc in
        u.isnt_free (ap (λ (k : ExtentHeader). text_in k.namespace) (sym head) ∙ x.2))
  ]

  low_last : (o : Option Place) → last_of chain ≡ o → LowOr o
  low_last None g = tt
  low_last (Some x) g = let y = f.on_chain x (has_last chain x g) in low_place image heap x (extent y.0) f.files f.shown y.1

  there_last : (o : Option Place) → last_of chain ≡ o → ExtentOr heap o
  there_last None g = tt
  there_last (Some x) g = let y = f.on_chain x (has_last chain x g) in record { h = y.0; is = y.1 }

  pub last_low : LowOr (last_of chain)
  last_low = low_last (last_of chain) refl

  pub last_there : ExtentOr heap (last_of chain)
  last_there = there_last (last_of chain) refl

  pub asks : (o : Option Place) × PassFits image o ends.last
  asks = (last_of chain, record { named = f.last; low = last_low; heap = heap; is = f.shown; there = last_there })

  pub low_here : IsLow e
  low_here = low_place image heap e (extent h) f.files f.shown u.is

  abbrev pub heap1 : Heap
  heap1 = next_passed (last_of chain) (loc e) heap

  wl1 : (q : Place) → without_links (heap1 q) ≡ without_links (heap q)
  wl1 q = next_passed_stays without_links wl_next (last_of chain) (loc e) heap q

  ground1 : (q : Place) → ground heap1 q ≡ ground heap q
  ground1 q = sym (wl_outline (heap1 q)) ∙ ap (λ (o : Option Cell). option_map outline o) (wl1 q) ∙ wl_outline (heap q)

  off_last : (q : Place) → (last_of chain ≡ Some q → ⊥) → heap1 q ≡ heap q
  off_last q ne = by (last_of chain) refl
    where
      by : (o : Option Place) → last_of chain ≡ o → next_passed o (loc e) heap q ≡ heap q
      by None g = refl
      by (Some x) g = changed_there x q (xnext_set (loc e)) heap (same_not x q (λ k. ne (g ∙ ap (λ (z : Place). Some z) k)))

  pub here1 : heap1 e ≡ Some (extent h)
  here1 = off_last e (λ g. false≢true (sym e_off ∙ has_last chain e g)) ∙ u.is

  tiled1 : IsTiled (ground heap1) (unused_in image) db
  tiled1 = subst (λ (g : Place → Option Outline). IsTiled g (unused_in image) db) (λ i q. sym (ground1 q) i) f.tiled

  there1 : ground heap1 e ≡ Some (an_extent h.magic h.my_loc h.namespace (pos n))
  there1 = ap (λ (o : Option Cell). option_map outline o) here1 ∙ ap (λ (z : ℤ). Some (an_extent h.magic h.my_loc h.namespace z)) u.long

  module _ (named : text_in (padded 128 db) ≡ db) where
    abbrev t : Heap
    t = joined heap db chain e n ends.last

    abbrev g' : ExtentHeader
    g' = header_freed e db (pos n) ends.last

    t_here : t e ≡ Some (extent g')
    t_here = freed_here e n g' heap1

    outline_here : ground t e ≡ Some (an_extent 0x41424344 (loc e) (padded 128 db) (pos n))
    outline_here = ap (λ (o : Option Cell). option_map outline o) t_here

    outline_gone : (q : Place) → same e q ≡ false → within e n q ≡ true → ground t q ≡ None
    outline_gone q ne y = ap (λ (o : Option Cell). option_map outline o) (freed_gone e n g' heap1 q ne y)

    outline_there : (q : Place) → same e q ≡ false → within e n q ≡ false → ground t q ≡ ground heap1 q
    outline_there q ne out = ap (λ (o : Option Cell). option_map outline o) (freed_there e n g' heap1 q ne out)

    tiled_now : IsTiled (ground t) (unused_in image) db
    tiled_now = freed_tiled (ground heap1) (ground t) (unused_in image) db tiled1 e h.magic h.my_loc h.namespace (padded 128 db) n there1 (ap (padded 128) (sym named)) named outline_here outline_gone outline_there

    -- another extent isn't in this one
    extent_there : (q : Place) (x : ExtentHeader) → heap q ≡ Some (extent x) → same e q ≡ false → t q ≡ heap1 q
    extent_there q x i ne =
        let cell = ground1 q ∙ ap (λ (o : Option Cell). option_map outline o) i in
        freed_there e n g' heap1 q ne (extent_out (ground heap1) (ground t) (unused_in image) db tiled1 e h.magic h.my_loc h.namespace (padded 128 db) n there1 (ap (padded 128) (sym named)) named outline_here outline_gone outline_there q x.magic x.my_loc x.namespace x.len cell ne)

    chain_there : (q : Place) → has chain q ≡ true → t q ≡ heap1 q
    chain_there q on =
        let x = f.on_chain q on in
        extent_there q x.0 x.1 (same_not e q (λ z. false≢true (sym e_off ∙ ap (has chain) z ∙ on)))

    -- an extent that isn't free stays as it is
    pub used_stays : (q : Place) (m : ℕ) (v : IsUsed heap db q m) → same e q ≡ false → joined heap db chain e n ends.last q ≡ heap q
    used_stays q m v ne = extent_there q v.h v.is ne ∙ off_last q (λ l.
        let x = f.on_chain q (has_last chain q l) in
        let one : extent x.0 ≡ extent v.h = some_same (extent x.0) (extent v.h) (sym x.1 ∙ v.is) in
        let head : x.0 ≡ v.h = cc in
        v.isnt_free (ap (λ (y : ExtentHeader). text_in y.namespace) (sym head) ∙ x.2))

    pub links_stay : (q : Place) → same e q ≡ false → within e n q ≡ false → without_links (joined heap db chain e n ends.last q) ≡ without_links (heap q)
    links_stay q ne out = ap without_links (freed_there e n g' heap1 q ne out) ∙ wl1 q

    -- a free extent stays but in its link to the next
    pub next_only : (q : Place) (x : ExtentHeader) → has chain q ≡ true → heap q ≡ Some (extent x) → (next : DiskLoc) × (joined heap db chain e n ends.last q ≡ Some (extent (record x { xnext = next })))
    next_only q x on i = by (last_of chain) refl
      where
        by : (o : Option Place) → last_of chain ≡ o → (next : DiskLoc) × (joined heap db chain e n ends.last q ≡ Some (extent (record x { xnext = next })))
        by None g = (x.xnext, chain_there q on ∙ ap (λ (o : Option Place). next_passed o (loc e) heap q) g ∙ i)
        by (Some y) g = elim (cases_Bool (same y q)) [
          | inl z ↦ (loc e, chain_there q on ∙ ap (λ (o : Option Place). next_passed o (loc e) heap q) g ∙ ap (λ (w : Place). change w (xnext_set (loc e)) heap q) (same_is y q z) ∙ changed_here q (xnext_set (loc e)) heap (extent x) i)
          | inr m ↦ (x.xnext, chain_there q on ∙ ap (λ (o : Option Place). next_passed o (loc e) heap q) g ∙ changed_there y q (xnext_set (loc e)) heap m ∙ i)
        ]

    last_next_is : (q : Place) → last_of chain ≡ Some q → ext_next (t q) ≡ loc e
    last_next_is q g =
        let on = has_last chain q g in
        let x = f.on_chain q on in
        ap ext_next (chain_there q on ∙ ap (λ (o : Option Place). next_passed o (loc e) heap q) g ∙ changed_here q (xnext_set (loc e)) heap (extent x.0) x.1)

    linked_now : IsLinked loc_or (appended chain e) (λ q. ext_next (t q)) (λ q. ext_prev (t q))
    linked_now = linked_on loc_or chain (λ q. ext_next (heap q)) (λ q. ext_prev (heap q)) (λ q. ext_next (t q)) (λ q. ext_prev (t q)) e f.linked e_off
        (ap ext_next t_here) (ap ext_prev t_here ∙ f.last) last_next_is
        (λ q r g. ap ext_next (chain_there q (has_before chain q r g) ∙ off_last q (λ l. (let z : None ≡ Some r = sym (last_next chain q f.linked.no_twice l) ∙ g in cc))))
        (λ q on. ap ext_prev (chain_there q on) ∙ next_passed_stays ext_prev prev_next (last_of chain) (loc e) heap q)

    module _ (i2 : Image) (k : KeepsHeaders image i2) (is2 : IsHeap i2 (joined heap db chain e n ends.last)) (ends' : FreeEnds) (alone : ends.first ≡ null → ends'.first ≡ loc e) (first_kept : ends.first ≢ null → ends'.first ≡ ends.first) (last_is : ends'.last ≡ loc e) where
      first_now : (ps : List Place) → chain ≡ ps → ends'.first ≡ loc_or (first_of (appended chain e))
      first_now [] g = alone (f.first ∙ ap (λ (ps : List Place). loc_or (first_of ps)) g) ∙ ap (λ (ps : List Place). loc_or (first_of (appended ps e))) (sym g)
      first_now (x ∷ xs) g =
          let on : has chain x ≡ true = ap (λ (ps : List Place). has ps x) g ∙ has_here x xs x (same_own x) in
          let y = f.on_chain x on in
          let low = low_place image heap x (extent y.0) f.files f.shown y.1 in
          let head : ends.first ≡ loc_or (Some x) = f.first ∙ ap (λ (ps : List Place). loc_or (first_of ps)) g in
          first_kept (λ z. not_null (Some x) low x refl (sym head ∙ z)) ∙ head ∙ ap (λ (ps : List Place). loc_or (first_of (appended ps e))) (sym g)

      unused_same : (g : ℕ) → unused_in image g ≡ unused_in i2 g
      unused_same g = ap (λ (b : List ℕ). if nat_lt g 8 then header_unused b else None) (sym (k.headers g))

      pub freed_free : HasFree i2 db (joined heap db chain e n ends.last) (appended chain e) ends'
      freed_free = record {
        files = files_kept image i2 k.lengths (λ g lt. k.headers g) f.files;
        shown = is2;
        tiled = subst (λ (w : ℕ → Option ℤ). IsTiled (ground t) w db) (λ i g. unused_same g i) tiled_now;
        linked = linked_now;
        on_chain = λ q i. elim (has_appended chain e q i) [
          | inl on ↦
              let y = f.on_chain q on in
              let l = extent_like (heap1 q) y.0 (wl1 q ∙ ap without_links y.1) in
              (l.h, chain_there q on ∙ l.is, ap text_in l.name_is ∙ y.2)
          | inr z ↦ (g', ap t z ∙ t_here, named)
        ];
        first = first_now chain refl;
        last = last_is ∙ ap loc_or (sym (last_new chain e));
      }
