-- How many bytes are asked for.
use Rattle.std.proofs.Common.{◌≡◌, ℕ, ℤ, pos, negsuc, zero, suc, ◌+◌, ◌-◌, ◌*◌, ◌/◌, ◌^◌, ◌<◌, ◌≤◌, inl, inr, List, Option, Some, None, refl, sym, ◌∙◌, ap, arith}
use Rattle.std.specs.Prelude.{min, max}
use Rattle.std.specs.Option.{option_map}
use Rattle.std.proofs.lemmas.Bool.{cases_lt}
use Rattle.std.proofs.Math.Pow.{pow_mono}
use Rattle.std.proofs.Math.Nat.{two-pow-succ}
use Rattle.mm_base.specs.Places.{null}
use Rattle.mm_base.specs.declared.place.DiskLoc.{DiskLoc}
use Rattle.mm_ranges.specs.Overlay.{Image}
use Rattle.mm_frames.specs.declared.extent_header.ExtentHeader.{ExtentHeader}
use Rattle.mm_frames.specs.declared.details.Details.{Details}
use Rattle.mm_links.specs.Links.{Place, last_of}
use Rattle.mm_links.proofs.LinkLaws.{has_last}
use Rattle.mm_extents.specs.Heap.{Cell, extent, deleted, IsHeap}
use Rattle.mm_extents.specs.Changes.{loc, loc_or, len_of}
use Rattle.mm_extents.specs.Files.{FilesStand, unused_in}
use Rattle.mm_extents.proofs.Headers.{unused_inside}
use Rattle.mm_extents.proofs.MadeFiles.{no_unused}
use Rattle.mm_extents.specs.Tiling.{outline, ground, IsTiled}
use Rattle.mm_extents.proofs.FileLaws.{low_place, short_file, file_len_most}
use Rattle.mm_extents.proofs.Spots.{low_file}
use Rattle.mm_records.specs.declared.asking.Request.{Request}
use Rattle.mm_records.specs.declared.asking.Request.TheVariants.{Record, Bucket}
use Rattle.mm_records.specs.Shape.{Shape}
use Rattle.mm_records.specs.Stands.{Stands, ext_len, len_at}
use Rattle.mm_records.specs.Map.{ofs_of, name_at}
use Rattle.mm_records.specs.InHand.{StandsWith}
use Rattle.mm_records.specs.Asking.{IsPower, IsWhole, IsAsked, base_at, extent_len, NoFit}

-- ---- blocks

power_most : (n a b : ℕ) → IsPower n a → IsPower n b → a ≤ b
power_most n a b x y =
    let e = y.is in
    let s = y.some in
    let m = y.enough in
    let l = x.least y.i (omega (arith, e, s)) (omega (arith, e, m)) in
    omega (arith, l, e)

whole_most : (n a b : ℕ) → IsWhole n a → IsWhole n b → a ≤ b
whole_most n a b x y = let e = x.is in let f = y.is in let l = x.least in let m = y.enough in elim (cases_lt y.k x.k) [
  | inl lt ↦ absurd (omega (arith, e, f, l, m, lt))
  | inr ge ↦ omega (arith, e, f, ge)
]

-- one length is asked for
pub asked_once : (q : Request) (p a b : ℕ) → IsAsked q p a → IsAsked q p b → a ≡ b
asked_once Record p a b x y = elim (cases_lt 4194304 (p + 16)) [
  | inl large ↦ let l = whole_most (p + 16) a b (x.1 large) (y.1 large) in let m = whole_most (p + 16) b a (y.1 large) (x.1 large) in omega (arith, l, m)
  | inr small ↦
      let le : p + 16 ≤ 4194304 = omega (arith, small) in
      let l = power_most (p + 16) a b (x.0 le) (y.0 le) in
      let m = power_most (p + 16) b a (y.0 le) (x.0 le) in
      omega (arith, l, m)
]
asked_once Bucket p a b x y = x ∙ sym y

pub power_is : (n size step : ℕ) → size ≡ 2 ^ (5 + step) → n ≤ size → ((j : ℕ) → j < step → 2 ^ (5 + j) < n) → IsPower n size
power_is n size step is enough less = record {
  i = 5 + step;
  is = is;
  some = let m : 2 ^ 5 ≤ 2 ^ (5 + step) = pow_mono {i = 5} {j = 5 + step} (omega arith) in omega (arith, m, is);
  enough = enough;
  least = λ j some fits. elim (cases_lt j (5 + step)) [
    | inr ge ↦ let m : 2 ^ (5 + step) ≤ 2 ^ j = pow_mono {i = 5 + step} {j = j} (omega (arith, ge)) in omega (arith, m, is)
    | inl lt ↦ elim (cases_lt j 5) [
      | inl low ↦ absurd (let m : 2 ^ j ≤ 2 ^ 4 = pow_mono {i = j} {j = 4} (omega (arith, low)) in omega (arith, m, some))
      | inr up ↦ absurd (let e : 5 + (j - 5) ≡ j = omega (arith, up) in let f = less (j - 5) (omega (arith, lt, up)) in let same : 2 ^ (5 + (j - 5)) ≡ 2 ^ j = ap (λ (k : ℕ). 2 ^ k) e in omega (arith, f, same, fits))
    ]
  ];
}

pub power_bound : (n size : ℕ) → IsPower n size → n ≤ 4194304 → size ≤ 4194304
power_bound n size x le = let l = x.least 22 (omega arith) (omega (arith, le)) in omega (arith, l)

pub power_twice : (size step : ℕ) → size ≡ 2 ^ (5 + step) → size * 2 ≡ 2 ^ (5 + (step + 1))
power_twice size step e =
    let n : 5 + (step + 1) ≡ suc (5 + step) = omega arith in
    let f : 2 ^ (5 + (step + 1)) ≡ 2 ^ suc (5 + step) = ap (λ (k : ℕ). 2 ^ k) n in
    let t : 2 ^ suc (5 + step) ≡ 2 ^ (5 + step) + 2 ^ (5 + step) = two-pow-succ (5 + step) in
    omega (arith, e, f, t)

pub whole_is : (n : ℕ) → IsWhole n ((n + 1048575) / 1048576 * 1048576)
whole_is n = record { k = (n + 1048575) / 1048576; is = omega arith; enough = omega arith; least = omega arith }

-- the least power of two from a step on
least_power : (n fuel step : ℕ) → n ≤ 2 ^ (5 + (step + fuel)) → ((j : ℕ) → j < step → 2 ^ (5 + j) < n) → (r : ℕ) × IsPower n r
least_power n zero step le less =
    let same : step + 0 ≡ step = omega arith in
    let e : 2 ^ (5 + (step + 0)) ≡ 2 ^ (5 + step) = ap (λ (k : ℕ). 2 ^ (5 + k)) same in
    (2 ^ (5 + step), power_is n (2 ^ (5 + step)) step refl (omega (arith, le, e)) less)
least_power n (suc fuel) step le less = elim (cases_lt (2 ^ (5 + step)) n) [
  | inr ge ↦ (2 ^ (5 + step), power_is n (2 ^ (5 + step)) step refl ge less)
  | inl lt ↦
      let same : step + suc fuel ≡ step + 1 + fuel = omega arith in
      let e : 2 ^ (5 + (step + suc fuel)) ≡ 2 ^ (5 + (step + 1 + fuel)) = ap (λ (k : ℕ). 2 ^ (5 + k)) same in
      least_power n fuel (step + 1) (omega (arith, le, e)) (λ j l. elim (cases_lt j step) [
        | inl old ↦ less j old
        | inr here ↦ let at : j ≡ step = omega (arith, l, here) in let f : 2 ^ (5 + j) ≡ 2 ^ (5 + step) = ap (λ (k : ℕ). 2 ^ (5 + k)) at in omega (arith, f, lt)
      ])
]

-- so many bytes are asked for
pub asked : (q : Request) (p : ℕ) → (r : ℕ) × IsAsked q p r
asked Record p = elim (cases_lt 4194304 (p + 16)) [
  | inl large ↦ ((p + 16 + 1048575) / 1048576 * 1048576, (λ le. absurd (omega (arith, large, le)), λ _. whole_is (p + 16)))
  | inr small ↦ let x = least_power (p + 16) 17 0 small (λ j lt. absurd (omega (arith, lt))) in (x.0, (λ _. x.1, λ lt. absurd (omega (arith, small, lt))))
]
asked Bucket p = (8208, refl)

-- ---- extents

-- no extent is longer than a file
extent_most : (image : Image) (free : List ℕ) (s : Shape) (fs : FilesStand image) (is : IsHeap image s.heap) (tiled : IsTiled (ground s.heap) (unused_in image) free) (q : Place) (h : ExtentHeader) → s.heap q ≡ Some (extent h) → (n : ℕ) → h.len ≡ pos n → n ≤ 67108864
extent_most image free s fs is tiled q h e n l =
    let w = tiled.extents q.0 q.1 h.magic h.my_loc h.namespace h.len (ap (λ (o : Option Cell). option_map outline o) e) in
    let file = is.data_file q (extent h) e in
    let numbers : pos n ≡ pos w.2.0 = sym l ∙ w.2.1.long in
    let same : n ≡ w.2.0 = cc in
    let inside = w.2.1.inside in
    let u = unused_most image fs q.0 file w.0 w.1 in
    omega (arith, inside, same, u)
  where
    unused_most : (image : Image) → FilesStand image → (k : ℕ) → k < 8 → (u : ℕ) → unused_in image k ≡ Some (pos u) → u ≤ 67108864
    unused_most image fs k lt u f = by (len_of image k) refl
      where
        by : (o : Option ℕ) → len_of image k ≡ o → u ≤ 67108864
        by None g = absurd (no_unused image k g (pos u) f)
        by (Some n) g =
            let a = unused_inside image k n u fs lt g f in
            let b = fs.long k n lt g in
            let c = file_len_most k in
            omega (arith, a, b, c)

module _ (image : Image) (free : List ℕ) (s : Shape) (node : ℕ) (d : Details) (st : StandsWith image free s node d) where
  abbrev name : List ℕ
  name = name_at image node

  last_place : (q : Place) → last_of (s.extents name) ≡ Some q → loc q ≡ null → ⊥
  last_place q f z =
      let c = st.extents.on_chain name q (has_last (s.extents name) q f) in
      let l = low_place image s.heap q (extent c.0) st.files st.heap c.1 in
      (let k : pos q.0 ≡ negsuc 0 = sym (low_file q l).0 ∙ ap (λ (w : DiskLoc). w.file) z in cc)

  pub base_none : d.last_extent ≡ null → base_at s.heap (last_of (s.extents name)) ≡ 16384
  base_none e = by (last_of (s.extents name)) refl
    where
      by : (o : Option Place) → last_of (s.extents name) ≡ o → base_at s.heap (last_of (s.extents name)) ≡ 16384
      by None f = ap (base_at s.heap) f
      by (Some q) f = absurd (last_place q f (sym (ap loc_or f) ∙ sym st.own.last ∙ e))

  -- the length of the last extent
  pub record LastLen : Type 0 where
    pub n : ℕ
    pub is : d.last_extent_size ≡ pos n
    pub most : n ≤ 67108864
    pub base : base_at s.heap (last_of (s.extents name)) ≡ min (2 * n) 8388608

  pub last_len : (d.last_extent ≡ null → ⊥) → LastLen
  last_len ne = by (last_of (s.extents name)) refl
    where
      by : (o : Option Place) → last_of (s.extents name) ≡ o → LastLen
      by None f = absurd (ne (st.own.last ∙ ap loc_or f))
      by (Some q) f =
          let c = st.extents.on_chain name q (has_last (s.extents name) q f) in
          let h = c.0 in
          let w = st.tiled.extents q.0 q.1 h.magic h.my_loc h.namespace h.len (ap (λ (o : Option Cell). option_map outline o) c.1) in
          let size : ext_len (s.heap q) ≡ pos w.2.0 = ap ext_len c.1 ∙ w.2.1.long in
          record {
            n = w.2.0;
            is = st.own.last_size ∙ ap (len_at s.heap) f ∙ size;
            most = extent_most image free s st.files st.heap st.tiled q h c.1 w.2.0 w.2.1.long;
            base = ap (base_at s.heap) f ∙ ap (λ (z : ℤ). min (2 * ofs_of z) 8388608) size;
          }

pub extent_least : (s : Shape) (name : List ℕ) (r : ℕ) → r + 176 ≤ extent_len s name r
extent_least s name r = rounded (base_at s.heap (last_of (s.extents name))) (r + 176)
  where
    rounded : (a b : ℕ) → b ≤ 4096 * ((max a b + 4095) / 4096)
    rounded a b = omega arith

-- nothing is as long as a file
pub too_long : (image : Image) (free : List ℕ) (s : Shape) (name : List ℕ) (q : Request) (p r : ℕ) → Stands image free s → IsAsked q p r → (q ≡ Bucket → p ≤ 8192) → 67108864 < p → NoFit image s free name r
too_long image free s name q p r st asked bucket long = record {
  no_block = λ i b h rest on there.
      let inside = st.heap.inside b (deleted h rest) there in
      let short = short_file image st.files b.0 (st.heap.data_file b (deleted h rest) there) in
      let l = large q asked bucket in
      omega (arith, inside, short, l, long);
  no_extent = record {
    short = λ b h n on there l.
        let most = extent_most image free s st.files st.heap st.tiled b h there n l in
        let least = extent_least s name r in
        let big = large q asked bucket in
        omega (arith, most, least, big, long);
    no_rest = record {
      last = λ k u l e. let most = file_len_most k in let least = extent_least s name r in let big = large q asked bucket in omega (arith, most, least, big, long);
      others = λ k lt e. let most = file_len_most k in let least = extent_least s name r in let big = large q asked bucket in omega (arith, most, least, big, long);
    };
  };
}
  where
    large : (q : Request) → IsAsked q p r → (q ≡ Bucket → p ≤ 8192) → p ≤ r
    large Record x b = let e = (x.1 (omega (arith, long))).enough in omega (arith, e)
    large Bucket x b = absurd (let le = b refl in omega (arith, le, long))
