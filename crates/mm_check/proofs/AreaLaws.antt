-- Where phase 3 finds nothing, extents tile each file.
use Rattle.std.proofs.Common.{◌≡◌, ℕ, ℤ, pos, ◌+◌, ◌≤◌, ◌<◌, inl, inr, true, List, [], ◌∷◌, Option, Some, None, sym, ◌∙◌, ap, subst}
use Rattle.std.specs.Option.{option_map}
use Rattle.std.proofs.lemmas.Bool.{false≢true}
use Rattle.mm_base.specs.Bytes.{padded}
use Rattle.mm_base.specs.declared.place.DiskLoc.{DiskLoc}
use Rattle.mm_ranges.specs.Overlay.{Image}
use Rattle.mm_frames.specs.Texts.{text_in}
use Rattle.mm_links.specs.Links.{Place, same, has}
use Rattle.mm_links.proofs.LinkLaws.{either, same_is, same_own, has_here, has_more}
use Rattle.mm_extents.specs.Heap.{Heap, Cell}
use Rattle.mm_extents.specs.Tiling.{Outline, an_extent, outline, ground, ExtentAt, IsExtent}
use Rattle.mm_extents.proofs.Reuses.{extent_parts, magic_part}
use Rattle.mm_records.proofs.Owning.{extent_there}
use Rattle.mm_walk.specs.Tiles.{Block, In, BeginsAt, AreTiling}
use Rattle.mm_walk.proofs.TileLaws.{tiling_of_no_gap}
use Rattle.mm_check.specs.ExtentChain.{ext_at, nat_of, ext_size, IsExtentHere, areas}
use Rattle.mm_check.specs.Areas.{AreasFound}
use Rattle.mm_check.proofs.ExtentLaws.{no_gap_of_leads, right_of_leads}

-- ---- extents as blocks of their file

pub in_areas : (image : Image) (ps : List Place) (b : Block) → In b (areas image ps) → (p : Place) × (has ps p ≡ true) × (b ≡ (p.1, ext_size image p))
in_areas image [] b i = absurd i
in_areas image (p ∷ ps) b (inl e) = (p, has_here p ps p (same_own p), e)
in_areas image (p ∷ ps) b (inr i) = let t = in_areas image ps b i in (t.0, has_more p ps t.0 t.1, t.2)

pub areas_in : (image : Image) (ps : List Place) (p : Place) → has ps p ≡ true → In (p.1, ext_size image p) (areas image ps)
areas_in image [] p h = absurd (false≢true h)
areas_in image (x ∷ xs) p h = elim (either (same x p) (has xs p) h) [
  | inl y ↦ inl (ap (λ (q : Place). (q.1, ext_size image q)) (sym (same_is x p y)))
  | inr t ↦ inr (areas_in image xs p t)
]

one : (x y : Outline) → Some x ≡ Some y → x ≡ y
one x y e = cc

same_pos : (m n : ℕ) → pos m ≡ pos n → m ≡ n
same_pos m n e = cc

module _ (image : Image) (heap : Heap) (unused : ℕ → Option ℤ) (f : AreasFound image heap unused) where
  tiling : (file u : ℕ) → unused file ≡ Some (pos u) → AreTiling 8192 (areas image (f.found file)) u
  tiling file u e = tiling_of_no_gap 8192 (areas image (f.found file)) u (no_gap_of_leads image file u None 8192 (f.found file) (f.whole file u e).followed.leads)

  right : (file u : ℕ) → unused file ≡ Some (pos u) → (p : Place) → has (f.found file) p ≡ true → (p.0 ≡ file) × IsExtentHere image u p
  right file u e p h = right_of_leads image file u None 8192 (f.found file) p (f.whole file u e).followed.leads h

  extent_at : (file u at : ℕ) → unused file ≡ Some (pos u) → BeginsAt (areas image (f.found file)) u at → ExtentAt (ground heap) u file at
  extent_at file u at e (inl g) = inl g
  extent_at file u at e (inr (c, i, g)) =
      let t = in_areas image (f.found file) c i in
      let p = t.0 in
      let r = right file u e p t.1 in
      let at_is : p.1 ≡ at = sym (ap (λ (b : Block). b.0) t.2) ∙ g in
      let h = ext_at image p in
      inr (h.magic, h.my_loc, h.namespace, h.len, ap (ground heap) (λ j. (sym r.0 j, sym at_is j)) ∙ ap (λ (c : Option Cell). option_map outline c) (f.there file p t.1))

  -- the field `begins` of IsTiled
  pub extents_begin : (file u : ℕ) → unused file ≡ Some (pos u) → ExtentAt (ground heap) u file 8192
  extents_begin file u e = extent_at file u 8192 e (tiling file u e).begins

  -- an extent of the heap, with what the bytes have of it
  found_there : (p : Place) (magic : ℕ) (here : DiskLoc) (name : List ℕ) (len : ℤ) → ground heap p ≡ Some (an_extent magic here name len)
      → (u : ℕ) × (unused p.0 ≡ Some (pos u)) × (has (f.found p.0) p ≡ true) × (an_extent (ext_at image p).magic (ext_at image p).my_loc (ext_at image p).namespace (ext_at image p).len ≡ an_extent magic here name len)
  found_there p magic here name len g =
      let t = extent_there (heap p) magic here name len g in
      let o = f.only p t.0 t.1 in
      (o.0, o.1, o.2, one _ _ (sym (ap (λ (c : Option Cell). option_map outline c) (f.there p.0 p o.2)) ∙ g))

  -- how long it is, is what its header says
  pub size_there : (p : Place) (magic : ℕ) (here : DiskLoc) (name : List ℕ) (n : ℕ) → ground heap p ≡ Some (an_extent magic here name (pos n)) → ext_size image p ≡ n
  size_there p magic here name n g = let t = found_there p magic here name (pos n) g in ap nat_of (extent_parts _ magic _ here _ name _ (pos n) t.3).1.1

  -- the field `extents` of IsTiled, but for the blocks
  pub extents_tile : (file at magic : ℕ) (here : DiskLoc) (name : List ℕ) (len : ℤ) → ground heap (file, at) ≡ Some (an_extent magic here name len)
      → (u : ℕ) × (unused file ≡ Some (pos u)) × (n : ℕ) × IsExtent (ground heap) u file at magic here name len n
  extents_tile file at magic here name len g =
      let t = found_there (file, at) magic here name len g in
      let r = (right file t.0 t.1 (file, at) t.2).1 in
      let p = extent_parts _ magic _ here _ name _ len t.3 in
      let n = r.n in
      let size_is : ext_size image (file, at) ≡ n = ap nat_of r.long in (
        t.0,
        t.1,
        n,
        record {
          magic_word = sym (magic_part _ magic _ here _ name _ len t.3) ∙ r.magic;
          own_place = sym p.0 ∙ r.own_place;
          named = sym p.1.0 ∙ f.named file (file, at) t.2 ∙ ap (λ (x : List ℕ). padded 128 (text_in x)) p.1.0;
          long = sym p.1.1 ∙ r.long;
          pages = r.pages;
          some = r.some;
          inside = r.inside;
          behind = extent_at file t.0 (at + n) t.1 (subst (λ (k : ℕ). BeginsAt (areas image (f.found file)) t.0 (at + k)) size_is ((tiling file t.0 t.1).behind (at, ext_size image (file, at)) (areas_in image (f.found file) (file, at) t.2)));
        },
      )

  -- the field `apart` of IsTiled
  pub extents_apart : (file a b magic magic' n : ℕ) (here here' : DiskLoc) (name name' : List ℕ) (len : ℤ) → ground heap (file, a) ≡ Some (an_extent magic here name (pos n)) → ground heap (file, b) ≡ Some (an_extent magic' here' name' len) → a < b → a + n ≤ b
  extents_apart file a b magic magic' n here here' name name' len g h lt =
      let s = found_there (file, a) magic here name (pos n) g in
      let t = found_there (file, b) magic' here' name' len h in
      let p = extent_parts _ magic _ here _ name _ (pos n) s.3 in
      let size_is : ext_size image (file, a) ≡ n = ap nat_of p.1.1 in
      subst (λ (k : ℕ). a + k ≤ b) size_is
      ((tiling file s.0 s.1).apart (a, ext_size image (file, a)) (b, ext_size image (file, b)) (areas_in image (f.found file) (file, a) s.2) (areas_in image (f.found file) (file, b) t.2) lt)
