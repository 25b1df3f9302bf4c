-- Where files stand in some shape, each list is whole, and its places are the shape's.
use Rattle.std.proofs.Common.{◌≡◌, ℕ, ℤ, pos, ◌+◌, true, List, ◌++◌, length, Option, Some, sym, ◌∙◌, ap, arith}
use Rattle.std.specs.Option.{option_map}
use Rattle.mm_base.specs.declared.place.DiskLoc.{DiskLoc}
use Rattle.mm_ranges.specs.Overlay.{Image}
use Rattle.mm_frames.specs.declared.deleted_header.DeletedHeader.{DeletedHeader}
use Rattle.mm_frames.specs.declared.extent_header.ExtentHeader.{ExtentHeader}
use Rattle.mm_links.specs.Links.{Place, has, once, first_of, last_of}
use Rattle.mm_extents.specs.Heap.{Cell, deleted, extent, IsHeap}
use Rattle.mm_extents.specs.Changes.{loc_or}
use Rattle.mm_extents.specs.Tiling.{an_extent, a_block, outline, ground, IsTiled}
use Rattle.mm_records.specs.Shape.{Shape}
use Rattle.mm_records.specs.Stands.{ListsStand}
use Rattle.mm_walk.specs.Walk.{Reading, IsWhole, Breaks}
use Rattle.mm_walk.specs.Listed.{ReadsList}
use Rattle.mm_walk.proofs.Listed.{whole_of_list}
use Rattle.mm_walk.proofs.WalkLaws.{whole_is_one, whole_or_broken}
use Rattle.mm_check.specs.RecordChain.{place_link}
use Rattle.mm_check.specs.ListChain.{del_at, IsDeletedAt}

len_of : (m1 : ℕ) (d1 : DiskLoc) (n1 : List ℕ) (m2 : ℕ) (d2 : DiskLoc) (n2 : List ℕ) (z : ℤ) (m len : ℕ) → Some (an_extent m1 d1 n1 (pos m)) ≡ Some (an_extent m2 d2 n2 z) → z ≡ pos len → m ≡ len
len_of m1 d1 n1 m2 d2 n2 z m len f g = let k : pos m ≡ z = cc in let l : pos m ≡ pos len = k ∙ g in cc

same_pos : (m n : ℕ) → pos m ≡ pos n → m ≡ n
same_pos m n e = cc

module _ (image : Image) (s : Shape) (unused : ℕ → Option ℤ) (free : List ℕ) (st : ListsStand s) (heap : IsHeap image s.heap) (tiled : IsTiled (ground s.heap) unused free)
    (len : Place → ℕ) (lens : (e : Place) (h : ExtentHeader) → s.heap e ≡ Some (extent h) → h.len ≡ pos (len e)) where
  del_is : (p : Place) (h : DeletedHeader) (rest : List ℕ) → s.heap p ≡ Some (deleted h rest) → del_at image p ≡ h
  del_is p h rest e = (heap.shown p (deleted h rest) e).0

  module _ (name : List ℕ) (i : ℕ) where
    right : (p : Place) → has (s.lists name i) p ≡ true → IsDeletedAt image s.heap len name i p
    right p j =
        let r = st.on_list name i p j in
        let o = r.of_extent in
        let g : ground s.heap p ≡ Some (a_block r.h.extent_ofs r.h.length_with_headers (16 + length r.rest)) = ap (λ (c : Option Cell). option_map outline c) r.there in
        let t = tiled.blocks p.0 p.1 (16 + length r.rest) r.h.extent_ofs r.h.length_with_headers g in
        let b = t.1.1 in
        let a_is : t.0 ≡ o.0 = same_pos t.0 o.0 (sym b.extent_place ∙ o.2) in
        let x = b.of_extent in
        let own : ground s.heap (p.0, t.0) ≡ Some (an_extent o.1.magic o.1.my_loc o.1.namespace o.1.len) = ap (λ (a : ℕ). ground s.heap (p.0, a)) a_is ∙ ap (λ (c : Option Cell). option_map outline c) o.3 in
        let m_is : t.1.0 ≡ len (p.0, o.0) = len_of x.magic x.here x.name o.1.magic o.1.my_loc o.1.namespace o.1.len t.1.0 (len (p.0, o.0)) (sym x.is ∙ own) (lens (p.0, o.0) o.1 o.3) in
        let same = del_is p r.h r.rest r.there in
        let from = b.from in let to = b.to in
        record {
          a = o.0;
          h = o.1;
          is = o.3;
          named = o.4;
          from = omega (arith, from, a_is);
          to = omega (arith, to, a_is, m_is);
          n = 16 + length r.rest;
          long = ap (λ (y : DeletedHeader). y.length_with_headers) same ∙ b.long;
          some = b.some;
          of_extent = ap (λ (y : DeletedHeader). y.extent_ofs) same ∙ o.2;
          right_list = r.right_list;
        }

    module _ (r : Reading) (seen : List Place) (k : ReadsList r loc_or (IsDeletedAt image s.heap len name i) (λ p. (del_at image p).next_deleted) (place_link image))
        (head : r.head ≡ place_link image (loc_or (first_of (s.lists name i)))) (closes : (last : Option Place) → r.closes last ≡ true) (fresh : once (s.lists name i ++ seen) ≡ true) where
      pub list_whole : IsWhole r seen (s.lists name i)
      list_whole = whole_of_list r loc_or (IsDeletedAt image s.heap len name i) (λ p. (del_at image p).next_deleted) (place_link image) k seen (s.lists name i) (st.no_twice name i) fresh head (closes (last_of (s.lists name i))) right
          (λ p h. let x = st.on_list name i p h in ap (λ (y : DeletedHeader). y.next_deleted) (del_is p x.h x.rest x.there) ∙ x.names_next)

      pub no_list_finding : (at : Place) → Breaks r seen at → ⊥
      no_list_finding at b = whole_or_broken r seen (s.lists name i) at list_whole b

      pub found_list_is_shape : (ps : List Place) → IsWhole r seen ps → ps ≡ s.lists name i
      found_list_is_shape ps w = whole_is_one r seen ps (s.lists name i) w list_whole
