-- Where files stand in some shape, phase 3 finds nothing, and finds the shape's extents.
use Rattle.std.proofs.Common.{◌≡◌, ℕ, zero, suc, ℤ, pos, ◌+◌, ◌≤◌, ◌<◌, inl, inr, Bool, true, false, List, [], ◌∷◌, ◌++◌, length, map, Option, Some, None, refl, sym, ◌∙◌, ap, subst, arith}
use Rattle.std.specs.Prelude.{is_some, unwrap_or}
use Rattle.std.specs.FinMap.{get}
use Rattle.std.specs.Option.{option_map}
use Rattle.std.proofs.lemmas.Bool.{cases_Bool, cases_lt, false≢true}
use Rattle.mm_base.specs.Bytes.{part, padded}
use Rattle.mm_ranges.specs.Overlay.{Image, bytes_at}
use Rattle.mm_frames.specs.Texts.{text_in}
use Rattle.mm_frames.specs.declared.extent_header.ExtentHeader.{ExtentHeader}
use Rattle.mm_links.specs.Links.{Place, same, has, once}
use Rattle.mm_links.proofs.LinkLaws.{both, either, same_is, same_own, has_here, has_more}
use Rattle.mm_extents.specs.Heap.{Heap, Cell, extent, IsHeap}
use Rattle.mm_extents.specs.Tiling.{an_extent, outline, ground, ExtentAt, BlockAt, IsTiled}
use Rattle.mm_extents.specs.Files.{FilesStand, unused_in}
use Rattle.mm_extents.proofs.FileLaws.{file_len_most}
use Rattle.mm_extents.proofs.MadeFiles as made
use Rattle.mm_records.proofs.Owning.{extent_there}
use Rattle.mm_records.proofs.Freed.{name_is}
use Rattle.mm_walk.specs.Walk.{Leads, AreWhole}
use Rattle.mm_walk.specs.declared.walk.Link.TheVariants.{End}
use Rattle.mm_walk.proofs.TileLaws.{not_eq}
use Rattle.mm_check.specs.ExtentChain.{ext_at, ext_size, nat_of, IsExtentHere, leads_on, file_reading}
use Rattle.mm_check.specs.FileQuestions.{unused_of}
use Rattle.mm_check.specs.Findings.{joined, files_from}
use Rattle.mm_check.specs.Phases.{file_chain}
use Rattle.mm_check.proofs.RecordLaws.{if_yes, if_no, and_of, eq_of}
use Rattle.mm_check.proofs.PhaseBack.{has_either, once_append}
use Rattle.mm_check.proofs.ExtentLaws.{test_of_extent}
use Rattle.mm_check.proofs.FileQuestionLaws.{no_file_finding}
use Rattle.mm_check.proofs.Insides.{has_in, IsThere, file_is_right}

no_true : (b : Bool) → (b ≡ true → ⊥) → b ≡ false
no_true true f = absurd (f refl)
no_true false f = refl

same_pos : (m n : ℕ) → Some (pos m) ≡ Some (pos n) → m ≡ n
same_pos m n e = let f : pos m ≡ pos n = cc in cc

module _ (image : Image) (free : List ℕ) (heap : Heap) (files : FilesStand image) (shown : IsHeap image heap) (tiled : IsTiled (ground heap) (unused_in image) free) where
  pub ext_is : (p : Place) (h : ExtentHeader) → heap p ≡ Some (extent h) → ext_at image p ≡ h
  ext_is p h e = shown.shown p (extent h) e

  -- an extent of the heap is right, up to where its file's unused rest begins
  pub record IsHere (p : Place) (h : ExtentHeader) : Type 0 where
    pub u : ℕ
    pub unused : unused_in image p.0 ≡ Some (pos u)
    pub here : IsExtentHere image u p
    pub size : ext_size image p ≡ here.n
    pub long : h.len ≡ pos (ext_size image p)
    pub named : h.namespace ≡ padded 128 (text_in h.namespace)
    pub behind : ExtentAt (ground heap) u p.0 (p.1 + ext_size image p)
    pub room : ¬ (text_in h.namespace ≡ free) → BlockAt (ground heap) (p.1 + ext_size image p) p.0 p.1 (p.1 + 176)

  pub is_here : (p : Place) (h : ExtentHeader) → heap p ≡ Some (extent h) → IsHere p h
  is_here p h e =
      let t = tiled.extents p.0 p.1 h.magic h.my_loc h.namespace h.len (ap (λ (o : Option Cell). option_map outline o) e) in
      let n = t.2.0 in let x = t.2.1 in
      let is = ext_is p h e in
      let long = ap (λ (y : ExtentHeader). y.len) is ∙ x.long in
      let size : ext_size image p ≡ n = ap nat_of long in
      let some = x.some in let inside = x.inside in
      record {
        u = t.0;
        unused = t.1;
        here = record {
          header = omega (arith, some, inside);
          magic = ap (λ (y : ExtentHeader). y.magic) is ∙ x.magic_word;
          own_place = ap (λ (y : ExtentHeader). y.my_loc) is ∙ x.own_place;
          n = n;
          long = long;
          pages = x.pages;
          some = some;
          inside = inside;
        };
        size = size;
        long = x.long ∙ ap pos (sym size);
        named = x.named;
        behind = subst (λ (k : ℕ). ExtentAt (ground heap) t.0 p.0 (p.1 + k)) (sym size) x.behind;
        room = λ isnt. subst (λ (k : ℕ). BlockAt (ground heap) (p.1 + k) p.0 p.1 (p.1 + 176)) (sym size) (t.2.2 isnt);
      }

  -- ---- one file

  -- from an offset on these are the extents of a file
  record AreFrom (file u at : ℕ) : Type 0 where
    ps : List Place
    leads : (before : Option Place) → Leads (file_reading image file u) before (leads_on file u at) ps End
    each : (p : Place) → has ps p ≡ true → (p.0 ≡ file) × (at ≤ p.1) × (h : ExtentHeader) × (heap p ≡ Some (extent h))
    all : (p : Place) (h : ExtentHeader) → heap p ≡ Some (extent h) → p.0 ≡ file → at ≤ p.1 → has ps p ≡ true
    apart : once ps ≡ true

  module _ (file u : ℕ) (low : file < 8) (unused : unused_in image file ≡ Some (pos u)) (short : u ≤ 67108864) where
    own_u : (p : Place) (h : ExtentHeader) (x : IsHere p h) → p.0 ≡ file → x.u ≡ u
    own_u p h x e = same_pos x.u u (sym x.unused ∙ ap (unused_in image) e ∙ unused)

    none_behind : (at : ℕ) → at ≡ u → AreFrom file u at
    none_behind at e = record {
      ps = [];
      leads = λ before. if_yes _ _ _ (eq_of at u e);
      each = λ p h. absurd (false≢true h);
      all = λ p h f k le.
          let x = is_here p h f in let s = own_u p h x k in
          let some = x.here.some in let inside = x.here.inside in
          absurd (omega (arith, some, inside, s, e, le));
      apart = refl;
    }

    -- the first of them and those behind it
    one_more : (at : ℕ) (h : ExtentHeader) (e : heap (file, at) ≡ Some (extent h)) → AreFrom file u (at + ext_size image (file, at)) → AreFrom file u at
    one_more at h e r =
        let x = is_here (file, at) h e in
        let s = own_u (file, at) h x refl in
        let some = x.here.some in let inside = x.here.inside in let size = x.size in
        let here : IsExtentHere image u (file, at) = subst (λ (v : ℕ). IsExtentHere image v (file, at)) s x.here in
        record {
          ps = (file, at) ∷ r.ps;
          leads = λ before. (
            if_no _ _ _ (not_eq at u (omega (arith, some, inside, s))),
            leads_on file u (at + ext_size image (file, at)),
            if_yes _ _ _ (and_of _ _ (eq_of file file refl) (test_of_extent image file u (file, at) low short here)),
            r.leads (Some (file, at)),
          );
          each = λ p i. elim (either (same (file, at) p) (has r.ps p) i) [
            | inl y ↦ let k : (file, at) ≡ p = same_is (file, at) p y in (ap (λ (q : Place). q.0) (sym k), let l : p.1 ≡ at = ap (λ (q : Place). q.1) (sym k) in omega (arith, l), h, ap heap (sym k) ∙ e)
            | inr j ↦ let t = r.each p j in let le = t.1 in (t.0, omega (arith, le), t.2, t.3)
          ];
          all = λ p g f k le. elim (cases_lt at p.1) [
            | inl lt ↦
                let y = is_here p g f in
                let a = tiled.apart file at p.1 h.magic g.magic (ext_size image (file, at)) h.my_loc g.my_loc h.namespace g.namespace g.len
                (ap (λ (o : Option Cell). option_map outline o) e ∙ ap (λ (z : ℤ). Some (an_extent h.magic h.my_loc h.namespace z)) x.long)
                (ap (λ (m : ℕ). ground heap (m, p.1)) (sym k) ∙ ap (λ (o : Option Cell). option_map outline o) f) lt in
                has_more (file, at) r.ps p (r.all p g f k a)
            | inr ge ↦ let l : at ≡ p.1 = omega (arith, ge, le) in has_here (file, at) r.ps p (ap (same (file, at)) (λ i. (k i, sym l i)) ∙ same_own (file, at))
          ];
          apart = once_more (file, at) r.ps (no_true (has r.ps (file, at)) (λ i. let t = r.each (file, at) i in let le = t.1 in omega (arith, le, some, size))) r.apart;
        }
      where
        once_more : (q : Place) (qs : List Place) → has qs q ≡ false → once qs ≡ true → once (q ∷ qs) ≡ true
        once_more q qs f o = once_append (q ∷ []) qs refl o (λ p i j. elim (either (same q p) false i) [ inl y ↦ false≢true (sym f ∙ ap (has qs) (same_is q p y) ∙ j) | inr n ↦ false≢true n ])

    from_at : (n at : ℕ) → u ≤ at + n → ExtentAt (ground heap) u file at → AreFrom file u at
    from_at n at fuel (inl e) = none_behind at e
    from_at zero at fuel (inr t) =
        let g = extent_there (heap (file, at)) t.0 t.1 t.2 t.3 t.4 in
        let x = is_here (file, at) g.0 g.1 in let s = own_u (file, at) g.0 x refl in
        let some = x.here.some in let inside = x.here.inside in
        absurd (omega (arith, fuel, some, inside, s))
    from_at (suc n) at fuel (inr t) =
        let g = extent_there (heap (file, at)) t.0 t.1 t.2 t.3 t.4 in
        let x = is_here (file, at) g.0 g.1 in let s = own_u (file, at) g.0 x refl in
        let some = x.here.some in let size = x.size in
        one_more at g.0 g.1 (from_at n (at + ext_size image (file, at)) (omega (arith, fuel, some, size)) (subst (λ (v : ℕ). ExtentAt (ground heap) v file (at + ext_size image (file, at))) s x.behind))

    of_file : AreFrom file u 8192
    of_file = from_at u 8192 (omega arith) (tiled.begins file u unused)

  -- ---- file by file

  -- where nothing was seen in these files, their extents are all chains of phase 3
  pub record AreFound (m n : ℕ) (seen : List Place) : Type 0 where
    pub pss : List (List Place)
    pub whole : AreWhole seen (map (file_chain image) (files_from image m n)) pss
    pub each : (p : Place) → has (joined pss) p ≡ true → (h : ExtentHeader) × (heap p ≡ Some (extent h))
    pub all : (p : Place) (h : ExtentHeader) → heap p ≡ Some (extent h) → m ≤ p.0 → p.0 < m + n → has (joined pss) p ≡ true

  abbrev unused_at : ℕ → ℕ
  unused_at k = unused_of (part 0 8192 (bytes_at image k))

  unused_is : (k : ℕ) → IsThere image k → (unused_in image k ≡ Some (pos (unused_at k))) × (unused_at k ≤ 67108864)
  unused_is k t =
      let r = file_is_right image k (no_file_finding image files) t in
      let most = file_len_most k in let short = r.short in
      (made.unused_of image k (unused_at k) t.low r.short (name_is _ _ (both _ _ r.header).0), omega (arith, most, short))

  no_bytes : (k : ℕ) (o : Option (List ℕ)) → get image k ≡ o → is_some o ≡ false → length (bytes_at image k) ≡ 0
  no_bytes k None e f = ap (λ (x : Option (List ℕ)). length (unwrap_or x [])) e
  no_bytes k (Some x) e f = absurd (false≢true (sym f))

  pub file_by_file : (m n : ℕ) (seen : List Place) → m + n ≤ 8 → once seen ≡ true → ((p : Place) → has seen p ≡ true → p.0 < m) → AreFound m n seen
  file_by_file m zero seen le o before = record { pss = []; whole = tt; each = λ p h. absurd (false≢true h); all = λ p h e lo hi. absurd (omega (arith, lo, hi)) }
  file_by_file m (suc n) seen le o before = elim (cases_Bool (is_some (get image m))) [
    | inl y ↦
        let t : IsThere image m = record { low = omega (arith, le); there = y } in
        let u = unused_is m t in
        let f = of_file m (unused_at m) t.low u.0 u.1 in
        let fresh = once_append f.ps seen f.apart o (λ p i j. let a = (f.each p i).0 in let b = before p j in omega (arith, a, b)) in
        let r = file_by_file (suc m) n (f.ps ++ seen) (omega (arith, le)) fresh
        (λ p h. elim (has_either f.ps seen p h) [ inl i ↦ let a = (f.each p i).0 in omega (arith, a) | inr j ↦ let b = before p j in omega (arith, b) ]) in
        record {
          pss = f.ps ∷ r.pss;
          whole = subst (λ (ks : List ℕ). AreWhole seen (map (file_chain image) ks) (f.ps ∷ r.pss)) (sym (if_yes (is_some (get image m)) (m ∷ files_from image (suc m) n) (files_from image (suc m) n) y))
              (record { followed = record { leads = f.leads None; fresh = fresh }; closed = refl }, r.whole);
          each = λ p h. elim (has_either f.ps (joined r.pss) p h) [ inl i ↦ let a = f.each p i in (a.2, a.3) | inr j ↦ r.each p j ];
          all = λ p h e lo hi. elim (cases_lt m p.0) [
            | inl lt ↦ has_in f.ps (joined r.pss) p (inr (r.all p h e (omega (arith, lt)) (omega (arith, hi))))
            | inr ge ↦ has_in f.ps (joined r.pss) p (inl (f.all p h e (omega (arith, lo, ge)) (shown.behind_header p (extent h) e)))
          ];
        }
    | inr x ↦
        let r = file_by_file (suc m) n seen (omega (arith, le)) o (λ p h. let b = before p h in omega (arith, b)) in
        record {
          pss = r.pss;
          whole = subst (λ (ks : List ℕ). AreWhole seen (map (file_chain image) ks) r.pss) (sym (if_no (is_some (get image m)) (m ∷ files_from image (suc m) n) (files_from image (suc m) n) x)) r.whole;
          each = r.each;
          all = λ p h e lo hi. elim (cases_lt m p.0) [
            | inl lt ↦ r.all p h e (omega (arith, lt)) (omega (arith, hi))
            | inr ge ↦
                let k : p.0 ≡ m = omega (arith, lo, ge) in
                let i = shown.inside p (extent h) e in
                let z : length (bytes_at image p.0) ≡ 0 = ap (λ (j : ℕ). length (bytes_at image j)) k ∙ no_bytes m (get image m) refl x in
                absurd (omega (arith, i, z))
          ];
        }
  ]
