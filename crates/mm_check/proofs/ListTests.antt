-- The test of a deleted block says what it is to say.
use Rattle.std.proofs.Common.{◌≡◌, ℕ, ℤ, pos, negsuc, ◌+◌, ◌<◌, ◌≤◌, inl, inr, true, List, length, Some, None, refl, sym, ◌∙◌, ap, subst, arith}
use Rattle.std.proofs.lemmas.Bool.{cases_Bool, false≢true, eqb-true}
use Rattle.mm_base.specs.declared.place.DiskLoc.{DiskLoc}
use Rattle.mm_ranges.specs.Overlay.{Image, bytes_at}
use Rattle.mm_frames.specs.Texts.{text_in}
use Rattle.mm_frames.specs.declared.extent_header.ExtentHeader.{ExtentHeader}
use Rattle.mm_links.specs.Links.{Place, has}
use Rattle.mm_links.proofs.LinkLaws.{both}
use Rattle.mm_extents.specs.Heap.{Heap, extent}
use Rattle.mm_extents.specs.Changes.{loc_or}
use Rattle.mm_records.specs.Shape.{list_for}
use Rattle.mm_walk.specs.Listed.{ReadsList}
use Rattle.mm_check.specs.RecordChain.{link_in, place_link}
use Rattle.mm_check.specs.ExtentChain.{nat_of, ext_size}
use Rattle.mm_check.specs.ListChain.{del_at, IsDeletedAt, lies_in_own, is_of_list, is_deleted, list_reading}
use Rattle.mm_check.proofs.RecordLaws.{if_yes, if_no, nat_lt_of, nat_le_of, nat_le_true, eq_of, and_of, is_long_true, is_long_of, loc_numbers, loc_end, null_file, loc_is}
use Rattle.mm_check.proofs.RecordsBack.{loc_fits}

-- These places are the extents of the namespace, with these lengths, and lie in the files.
pub record AreOwn (image : Image) (heap : Heap) (len : Place → ℕ) (name : List ℕ) (own : List Place) : Type 0 where
  pub named : (e : Place) → has own e ≡ true → (h : ExtentHeader) × (heap e ≡ Some (extent h)) × (text_in h.namespace ≡ name)
  pub all : (e : Place) (h : ExtentHeader) → heap e ≡ Some (extent h) → text_in h.namespace ≡ name → has own e ≡ true
  pub sizes : (e : Place) → has own e ≡ true → len e ≡ ext_size image e
  pub low : (e : Place) → has own e ≡ true → (e.0 < 8) × (e.1 + ext_size image e ≤ length (bytes_at image e.0)) × (e.1 + ext_size image e ≤ 67108864)

module _ (image : Image) (heap : Heap) (len : Place → ℕ) (name : List ℕ) (own : List Place) (o : AreOwn image heap len name own) (i : ℕ) where
  deleted_by : (p : Place) (z : ℤ) → (del_at image p).extent_ofs ≡ z → lies_in_own image own p z ≡ true → is_of_list i (del_at image p).length_with_headers ≡ true → IsDeletedAt image heap len name i p
  deleted_by p (negsuc n) e h g = absurd (false≢true h)
  deleted_by p (pos a) e h g =
      let b = both _ _ h in let c = both _ _ b.1 in let l = both _ _ g in
      let n = is_long_true (del_at image p).length_with_headers l.0 in
      let x = o.named (p.0, a) b.0 in
      let s = o.sizes (p.0, a) b.0 in
      record {
        a = a;
        h = x.0;
        is = x.1;
        named = x.2;
        from = nat_le_true _ _ c.0;
        to = subst (λ (k : ℕ). p.1 + 16 ≤ a + k) (sym s) (nat_le_true _ _ c.1);
        n = n.0;
        long = n.1;
        some = n.2;
        of_extent = e;
        right_list = sym (ap (λ (z : ℤ). list_for (nat_of z)) n.1) ∙ eqb-true (list_for (nat_of (del_at image p).length_with_headers)) i l.1;
      }

  pub deleted_of_test : (p : Place) → is_deleted image own i p ≡ true → IsDeletedAt image heap len name i p
  deleted_of_test p h = let t = both _ _ (both _ _ h).1 in deleted_by p (del_at image p).extent_ofs refl t.0 t.1

  pub test_of_deleted : (p : Place) → IsDeletedAt image heap len name i p → is_deleted image own i p ≡ true
  test_of_deleted p x =
      let there = o.all (p.0, x.a) x.h x.is x.named in
      let s = o.sizes (p.0, x.a) there in
      let lies : lies_in_own image own p (pos x.a) ≡ true = and_of _ _ there (and_of _ _ (nat_le_of _ _ x.from) (nat_le_of _ _ (subst (λ (k : ℕ). p.1 + 16 ≤ x.a + k) s x.to))) in
      let l = (o.low (p.0, x.a) there).1 in let t = x.to in
      and_of _ _ (nat_le_of _ _ (omega (arith, l, t, s))) (and_of _ _ (ap (lies_in_own image own p) x.of_extent ∙ lies)
      (and_of _ _ (is_long_of _ x.n x.long x.some) (eq_of _ _ (ap (λ (z : ℤ). list_for (nat_of z)) x.long ∙ x.right_list))))

  -- a right block lies in a data file
  inside : (p : Place) → IsDeletedAt image heap len name i p → (p.0 < 8) × (p.1 < 67108864) × (p.1 < length (bytes_at image p.0))
  inside p x =
      let there = o.all (p.0, x.a) x.h x.is x.named in
      let s = o.sizes (p.0, x.a) there in
      let l = o.low (p.0, x.a) there in
      let t = x.to in let y = l.1 in let z = l.2 in
      (l.0, omega (arith, t, s, z), omega (arith, t, s, y))

  -- so the reading of list i is one of blocks that name the next
  pub reads_list : (node : Place) (head : DiskLoc) → ReadsList (list_reading image own i node head) loc_or (IsDeletedAt image heap len name i) (λ p. (del_at image p).next_deleted) (place_link image)
  reads_list node head = record {
    sound = λ before p l h. elim (cases_Bool (is_deleted image own i p)) [
      | inl y ↦ let f : Some (place_link image (del_at image p).next_deleted) ≡ Some l = sym (if_yes _ _ _ y) ∙ h in (deleted_of_test p y, cc)
      | inr n ↦ absurd (let f : None ≡ Some l = sym (if_no _ _ _ n) ∙ h in cc)
    ];
    complete = λ before p x. if_yes _ _ _ (test_of_deleted p x);
    ends = λ d e. null_file d (loc_end image d e);
    leads = λ d p e. let t = loc_numbers image d p e in loc_is d p t.0 t.1;
    none = refl;
    some = λ p x. let k = inside p x in let n = loc_fits p k.0 k.1 in (λ j. link_in image (n.0 j) (n.1 j)) ∙ if_yes _ _ _ (nat_lt_of p.0 8 k.0) ∙ if_yes _ _ _ (nat_lt_of p.1 (length (bytes_at image p.0)) k.2);
  }
