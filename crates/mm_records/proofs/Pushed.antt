-- A new deleted block heads the list of its length.
use Rattle.std.proofs.Common.{◌≡◌, ◌≢◌, ℕ, ℤ, pos, ◌+◌, inl, inr, Bool, true, false, List, ◌∷◌, length, Option, Some, sym, ◌∙◌, ap, subst}
use Rattle.std.specs.Prelude.{◌&&◌, ◌==◌, not, if◌then◌else◌}
use Rattle.std.specs.Option.{option_map}
use Rattle.std.proofs.lemmas.Bool.{cases_Bool, eqb-true, eq-eqb}
use Rattle.mm_base.specs.declared.place.DiskLoc.{DiskLoc}
use Rattle.mm_frames.specs.Texts.{text_in}
use Rattle.mm_frames.specs.declared.extent_header.ExtentHeader.{ExtentHeader}
use Rattle.mm_frames.specs.declared.deleted_header.DeletedHeader.{DeletedHeader}
use Rattle.mm_links.specs.Links.{Place, same, has, once, first_of, next_in}
use Rattle.mm_links.proofs.LinkLaws.{same_is, both, if_true, if_false, has_more, has_there, has_here, next_here, next_there}
use Rattle.mm_extents.specs.Heap.{Cell, extent, deleted}
use Rattle.mm_extents.specs.Changes.{loc_or}
use Rattle.mm_extents.specs.Tiling.{an_extent, outline, ground, IsTiled}
use Rattle.mm_records.specs.Constants.{is_name}
use Rattle.mm_records.specs.Shape.{Shape, list_for}
use Rattle.mm_records.specs.Stands.{ListsStand, IsDeleted}
use Rattle.mm_records.proofs.Freed.{name_is, name_own}
use Rattle.mm_records.proofs.Owning.{extent_there}

some_same : {A : Type 0} (x y : A) → Some x ≡ Some y → x ≡ y
some_same x y e = cc

pair : (b c : Bool) → b ≡ true → c ≡ true → (b && c) ≡ true
pair b c e f = ap (λ (x : Bool). x && c) e ∙ f

one_name : (m m' : ℕ) (l l' : DiskLoc) (x y : List ℕ) (u v : ℤ) → Some (an_extent m l x u) ≡ Some (an_extent m' l' y v) → x ≡ y
one_name m m' l l' x y u v e = cc

-- the same extent, with the same name
pub record Stays (t : Shape) (q : Place) (g : ExtentHeader) : Type 0 where
  pub h : ExtentHeader
  pub is : t.heap q ≡ Some (extent h)
  pub name_is : h.namespace ≡ g.namespace

module _ (s t : Shape) (unused : ℕ → Option ℤ) (free name : List ℕ) (b : Place) (a : ℕ) (h : DeletedHeader) (rest : List ℕ) (hh : ExtentHeader) (ls : ListsStand s) (tiled : IsTiled (ground s.heap) unused free)
    (none : (g : DeletedHeader) (r : List ℕ) → s.heap b ≡ Some (deleted g r) → ⊥) (here : t.heap b ≡ Some (deleted h rest)) (ext : h.extent_ofs ≡ pos a) (there : t.heap (b.0, a) ≡ Some (extent hh)) (named : text_in hh.namespace ≡ name)
    (next : h.next_deleted ≡ loc_or (first_of (s.lists name (list_for (16 + length rest)))))
    (back : (q : Place) (g : DeletedHeader) (r : List ℕ) → same b q ≡ false → t.heap q ≡ Some (deleted g r) → s.heap q ≡ Some (deleted g r))
    (forth : (q : Place) (g : DeletedHeader) (r : List ℕ) → s.heap q ≡ Some (deleted g r) → t.heap q ≡ Some (deleted g r))
    (homes : (q : Place) (g : ExtentHeader) → s.heap q ≡ Some (extent g) → text_in g.namespace ≢ free → Stays t q g)
    (lists : (m : List ℕ) (i : ℕ) → t.lists m i ≡ (if is_name m name && i == list_for (16 + length rest) then b ∷ s.lists m i else s.lists m i)) where
  lists_of : (m : List ℕ) (i : ℕ) → (is_name m name && i == list_for (16 + length rest)) ≡ true → t.lists m i ≡ b ∷ s.lists m i
  lists_of m i y = lists m i ∙ if_true (is_name m name && i == list_for (16 + length rest)) (b ∷ s.lists m i) (s.lists m i) y

  lists_other : (m : List ℕ) (i : ℕ) → (is_name m name && i == list_for (16 + length rest)) ≡ false → t.lists m i ≡ s.lists m i
  lists_other m i n = lists m i ∙ if_false (is_name m name && i == list_for (16 + length rest)) (b ∷ s.lists m i) (s.lists m i) n

  off_lists : (m : List ℕ) (i : ℕ) → has (s.lists m i) b ≡ false
  off_lists m i = elim (cases_Bool (has (s.lists m i) b)) [ inl y ↦ let d = ls.on_list m i b y in absurd (none d.h d.rest d.there) | inr n ↦ n ]

  -- the home of a block stays
  home : (q : Place) (g : DeletedHeader) (r : List ℕ) (c : ℕ) (gg : ExtentHeader) → s.heap q ≡ Some (deleted g r) → g.extent_ofs ≡ pos c → s.heap (q.0, c) ≡ Some (extent gg) → Stays t (q.0, c) gg
  home q g r c gg i x k =
      let w = tiled.blocks q.0 q.1 (16 + length r) g.extent_ofs g.length_with_headers (ap (λ (o : Option Cell). option_map outline o) i) in
      let hm = w.1.1.of_extent in
      let ofs : pos w.0 ≡ pos c = sym w.1.1.extent_place ∙ x in
      let at : w.0 ≡ c = cc in
      let names : hm.name ≡ gg.namespace = one_name hm.magic gg.magic hm.here gg.my_loc hm.name gg.namespace (pos w.1.0) gg.len (sym hm.is ∙ ap (λ (y : ℕ). ground s.heap (q.0, y)) at ∙ ap (λ (o : Option Cell). option_map outline o) k) in
      homes (q.0, c) gg k (λ f. hm.isnt_free (ap text_in names ∙ f))

  deleted_stays : (m : List ℕ) (i : ℕ) (o : Option Place) (q : Place) → IsDeleted s.heap m i o q → IsDeleted t.heap m i o q
  deleted_stays m i o q d =
      let x = home q d.h d.rest d.of_extent.0 d.of_extent.1 d.there d.of_extent.2 d.of_extent.3 in
      record {
        h = d.h;
        rest = d.rest;
        there = forth q d.h d.rest d.there;
        names_next = d.names_next;
        right_list = d.right_list;
        of_extent = (d.of_extent.0, x.h, d.of_extent.2, x.is, ap text_in x.name_is ∙ d.of_extent.4);
      }

  new_is : (m : List ℕ) (i : ℕ) → m ≡ name → i ≡ list_for (16 + length rest) → IsDeleted t.heap m i (first_of (s.lists m i)) b
  new_is m i em ei = record {
    h = h;
    rest = rest;
    there = here;
    names_next = next ∙ (λ k. loc_or (first_of (s.lists (sym em k) (sym ei k))));
    right_list = sym ei;
    of_extent = (a, hh, ext, there, named ∙ sym em);
  }

  on_list_new : (m : List ℕ) (i : ℕ) (q : Place) → has (t.lists m i) q ≡ true → IsDeleted t.heap m i (next_in (t.lists m i) q) q
  on_list_new m i q x = elim (cases_Bool (is_name m name && i == list_for (16 + length rest))) [
    | inl y ↦
        let p = both (is_name m name) (i == list_for (16 + length rest)) y in
        subst (λ (xs : List Place). IsDeleted t.heap m i (next_in xs q) q) (sym (lists_of m i y)) (elim (cases_Bool (same b q)) [
          | inl z ↦ subst (λ (o : Option Place). IsDeleted t.heap m i o q) (sym (next_here b (s.lists m i) q z))
              (subst (λ (r : Place). IsDeleted t.heap m i (first_of (s.lists m i)) r) (same_is b q z) (new_is m i (name_is m name p.0) (eqb-true i (list_for (16 + length rest)) p.1)))
          | inr n ↦ subst (λ (o : Option Place). IsDeleted t.heap m i o q) (sym (next_there b (s.lists m i) q n))
              (deleted_stays m i (next_in (s.lists m i) q) q (ls.on_list m i q (sym (has_there b (s.lists m i) q n) ∙ ap (λ (xs : List Place). has xs q) (sym (lists_of m i y)) ∙ x)))
        ])
    | inr n ↦
        subst (λ (xs : List Place). IsDeleted t.heap m i (next_in xs q) q) (sym (lists_other m i n))
        (deleted_stays m i (next_in (s.lists m i) q) q (ls.on_list m i q (ap (λ (xs : List Place). has xs q) (sym (lists_other m i n)) ∙ x)))
  ]

  no_twice_new : (m : List ℕ) (i : ℕ) → once (t.lists m i) ≡ true
  no_twice_new m i = elim (cases_Bool (is_name m name && i == list_for (16 + length rest))) [
    | inl y ↦ ap once (lists_of m i y) ∙ pair (not (has (s.lists m i) b)) (once (s.lists m i)) (ap not (off_lists m i)) (ls.no_twice m i)
    | inr n ↦ ap once (lists_other m i n) ∙ ls.no_twice m i
  ]

  has_kept : (m : List ℕ) (i : ℕ) (q : Place) → has (s.lists m i) q ≡ true → has (t.lists m i) q ≡ true
  has_kept m i q x = elim (cases_Bool (is_name m name && i == list_for (16 + length rest))) [
    | inl y ↦ ap (λ (xs : List Place). has xs q) (lists_of m i y) ∙ has_more b (s.lists m i) q x
    | inr n ↦ ap (λ (xs : List Place). has xs q) (lists_other m i n) ∙ x
  ]

  all_new : (q : Place) (g : DeletedHeader) (r : List ℕ) (c : ℕ) (xh : ExtentHeader) → t.heap q ≡ Some (deleted g r) → g.extent_ofs ≡ pos c → t.heap (q.0, c) ≡ Some (extent xh)
      → has (t.lists (text_in xh.namespace) (list_for (16 + length r))) q ≡ true
  all_new q g r c xh i x k = elim (cases_Bool (same b q)) [
    | inl y ↦
        let bq = same_is b q y in
        let cells : Some (deleted h rest) ≡ Some (deleted g r) = sym here ∙ ap t.heap bq ∙ i in
        let rooms : rest ≡ r = cc in
        let heads : h ≡ g = cc in
        let ofs : pos a ≡ pos c = sym ext ∙ ap (λ (z : DeletedHeader). z.extent_ofs) heads ∙ x in
        let ac : a ≡ c = cc in
        let extents : Some (extent hh) ≡ Some (extent xh) = sym there ∙ ap t.heap (λ j. ((bq j).0, ac j)) ∙ k in
        let hs : hh ≡ xh = cc in
        let named' : text_in xh.namespace ≡ name = ap (λ (z : ExtentHeader). text_in z.namespace) (sym hs) ∙ named in
        let classed : list_for (16 + length r) ≡ list_for (16 + length rest) = ap (λ (xs : List ℕ). list_for (16 + length xs)) (sym rooms) in
        let yes' = pair (is_name (text_in xh.namespace) name) (list_for (16 + length r) == list_for (16 + length rest)) (name_own (text_in xh.namespace) name named') (eq-eqb (list_for (16 + length r)) (list_for (16 + length rest)) classed) in
        ap (λ (xs : List Place). has xs q) (lists_of (text_in xh.namespace) (list_for (16 + length r)) yes') ∙ has_here b (s.lists (text_in xh.namespace) (list_for (16 + length r))) q y
    | inr n ↦
        let old = back q g r n i in
        let w = tiled.blocks q.0 q.1 (16 + length r) g.extent_ofs g.length_with_headers (ap (λ (o : Option Cell). option_map outline o) old) in
        let hm = w.1.1.of_extent in
        let e = extent_there (s.heap (q.0, w.0)) hm.magic hm.here hm.name (pos w.1.0) hm.is in
        let st = home q g r w.0 e.0 old w.1.1.extent_place e.1 in
        let ofs : pos w.0 ≡ pos c = sym w.1.1.extent_place ∙ x in
        let at : w.0 ≡ c = cc in
        let extents : Some (extent st.h) ≡ Some (extent xh) = sym st.is ∙ ap (λ (z : ℕ). t.heap (q.0, z)) at ∙ k in
        let hs : st.h ≡ xh = cc in
        let names : e.0.namespace ≡ xh.namespace = sym st.name_is ∙ ap (λ (z : ExtentHeader). z.namespace) hs in
        has_kept (text_in xh.namespace) (list_for (16 + length r)) q (subst (λ (m : List ℕ). has (s.lists (text_in m) (list_for (16 + length r))) q ≡ true) names (ls.all q g r w.0 e.0 old w.1.1.extent_place e.1))
  ]

  pub lists_pushed : ListsStand t
  lists_pushed = record { no_twice = no_twice_new; on_list = on_list_new; all = all_new }
