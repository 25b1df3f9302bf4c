-- Where files stand in some shape, the chain of each extent is whole, and its places are the shape's.
use Rattle.std.proofs.Common.{◌≡◌, ◌≢◌, ℕ, ℤ, pos, ◌+◌, ◌<◌, ◌≤◌, true, List, ◌++◌, length, Option, Some, None, refl, sym, ◌∙◌, ap, arith}
use Rattle.std.specs.Option.{option_map}
use Rattle.mm_base.specs.declared.place.DiskLoc.{DiskLoc}
use Rattle.mm_base.proofs.PlaceLaws.{not_null_is}
use Rattle.mm_ranges.specs.Overlay.{Image, bytes_at}
use Rattle.mm_frames.specs.Texts.{text_in}
use Rattle.mm_frames.specs.declared.rec_header.RecHeader.{RecHeader}
use Rattle.mm_frames.specs.declared.extent_header.ExtentHeader.{ExtentHeader}
use Rattle.mm_links.specs.Links.{Place, has, once, first_of, last_of}
use Rattle.mm_links.proofs.LinkLaws.{relinked, has_first, has_last}
use Rattle.mm_extents.specs.Heap.{Cell, live, extent, IsHeap}
use Rattle.mm_extents.specs.Changes.{loc, loc_or, ofs_or}
use Rattle.mm_extents.specs.Tiling.{an_extent, a_block, outline, ground, IsTiled}
use Rattle.mm_records.specs.Shape.{Shape, rec_next, rec_prev}
use Rattle.mm_records.specs.Stands.{RecordsStand}
use Rattle.mm_walk.specs.Walk.{Reading, IsWhole, Breaks}
use Rattle.mm_walk.proofs.Linked.{whole_of_linked}
use Rattle.mm_walk.proofs.WalkLaws.{whole_is_one, whole_or_broken}
use Rattle.mm_check.specs.RecordChain.{rec_at, to_offset, ofs_link, link_in, place_link, names_place, IsRecordAt, ReadsRecords}
use Rattle.mm_check.proofs.RecordLaws.{reads_links, if_yes, and_of, nat_lt_of, is_pos_of}

pub loc_fits : (p : Place) → p.0 < 8 → p.1 < 67108864 → ((loc p).file ≡ pos p.0) × ((loc p).ofs ≡ pos p.1)
loc_fits p a b = not_null_is (pos p.0) (pos p.1) (λ e. cc) (record { sfits = omega (arith, a) }) (record { sfits = omega (arith, b) })

pub names_own : (o : Option Place) → ((p : Place) → o ≡ Some p → (p.0 < 8) × (p.1 < 67108864)) → names_place (loc_or o) o ≡ true
names_own None low = refl
names_own (Some p) low = let l = low p refl in let n = loc_fits p l.0 l.1 in and_of _ _ (is_pos_of (loc p).file p.0 n.0) (is_pos_of (loc p).ofs p.1 n.1)

head_own : (image : Image) (file : ℕ) (o : Option Place) → ((p : Place) → o ≡ Some p → (p.0 < 8) × (p.1 < 67108864) × (p.0 ≡ file)) → place_link image (loc_or o) ≡ ofs_link image file (ofs_or o)
head_own image file None low = refl
head_own image file (Some p) low =
    let l = low p refl in
    let n = loc_fits p l.0 l.1 in
    (λ i. link_in image (n.0 i) (n.1 i)) ∙ if_yes _ _ _ (nat_lt_of p.0 8 l.0) ∙ ap (λ (f : ℕ). to_offset image f p.1) l.2

module _ (image : Image) (s : Shape) (unused : ℕ → Option ℤ) (free : List ℕ) (st : RecordsStand free s) (heap : IsHeap image s.heap) (tiled : IsTiled (ground s.heap) unused free) (lengths : (file : ℕ) → file < 8 → length (bytes_at image file) ≤ 67108864) where
  rec_is : (p : Place) (h : RecHeader) (room : List ℕ) → s.heap p ≡ Some (live h room) → rec_at image p ≡ h
  rec_is p h room e = (heap.shown p (live h room) e).0

  low : (p : Place) (h : RecHeader) (room : List ℕ) → s.heap p ≡ Some (live h room) → (p.0 < 8) × (p.1 < 67108864)
  low p h room e = let f = heap.data_file p (live h room) e in (f, let i = heap.inside p (live h room) e in let m = lengths p.0 f in omega (arith, i, m))

  module _ (e : Place) (h : ExtentHeader) (len : ℕ) (is : s.heap e ≡ Some (extent h)) (isnt_free : text_in h.namespace ≢ free) (long : h.len ≡ pos len) where
    right : (p : Place) → has (s.records e) p ≡ true → IsRecordAt image e len p
    right p i =
        let r = st.on_chain e p i in
        let g : ground s.heap p ≡ Some (a_block r.h.extent_ofs r.h.length_with_headers (16 + length r.room)) = ap (λ (c : Option Cell). option_map outline c) r.there in
        let t = tiled.blocks p.0 p.1 (16 + length r.room) r.h.extent_ofs r.h.length_with_headers g in
        let b = t.1.1 in
        let a_is : t.0 ≡ e.1 = (let f : pos t.0 ≡ pos e.1 = sym b.extent_place ∙ r.of_extent in cc) in
        let x = b.of_extent in
        let own : ground s.heap (p.0, t.0) ≡ Some (an_extent h.magic h.my_loc h.namespace h.len) = ap (ground s.heap) (λ i. (r.file i, a_is i)) ∙ ap (λ (c : Option Cell). option_map outline c) is in
        let m_is : t.1.0 ≡ len = len_of _ _ _ _ _ _ h.len t.1.0 len (sym x.is ∙ own) long in
        let same = rec_is p r.h r.room r.there in
        let from = b.from in let to = b.to in
        record {
          file = r.file;
          from = omega (arith, from, a_is);
          to = omega (arith, to, a_is, m_is);
          n = 16 + length r.room;
          long = ap (λ (x : RecHeader). x.length_with_headers) same ∙ b.long;
          some = b.some;
          of_extent = ap (λ (x : RecHeader). x.extent_ofs) same ∙ r.of_extent;
        }
      where
        len_of : (m1 : ℕ) (d1 : DiskLoc) (n1 : List ℕ) (m2 : ℕ) (d2 : DiskLoc) (n2 : List ℕ) (z : ℤ) (m len : ℕ) → Some (an_extent m1 d1 n1 (pos m)) ≡ Some (an_extent m2 d2 n2 z) → z ≡ pos len → m ≡ len
        len_of m1 d1 n1 m2 d2 n2 z m len f g = let k : pos m ≡ z = cc in let l : pos m ≡ pos len = k ∙ g in cc

    pub whole_of_stands : (r : Reading) (seen : List Place) → ReadsRecords image e len h r → e.1 + len ≤ length (bytes_at image e.0) → once (s.records e ++ seen) ≡ true → IsWhole r seen (s.records e)
    whole_of_stands r seen k inside fresh =
        let ends = st.ends e h is isnt_free in
        let low_at : (p : Place) → has (s.records e) p ≡ true → (p.0 < 8) × (p.1 < 67108864) = (λ p i. let x = st.on_chain e p i in low p x.h x.room x.there) in
        let l = relinked ofs_or (s.records e) (λ p. rec_next (s.heap p)) (λ p. rec_prev (s.heap p)) (λ p. (rec_at image p).next_ofs) (λ p. (rec_at image p).prev_ofs) (st.linked e)
        (λ q i. let x = st.on_chain e q i in ap (λ (y : RecHeader). y.next_ofs) (rec_is q x.h x.room x.there) ∙ ap rec_next (sym x.there))
        (λ q i. let x = st.on_chain e q i in ap (λ (y : RecHeader). y.prev_ofs) (rec_is q x.h x.room x.there) ∙ ap rec_prev (sym x.there)) in
        whole_of_linked r ofs_or (IsRecordAt image e len) (λ p. (rec_at image p).next_ofs) (λ p. (rec_at image p).prev_ofs) (ofs_link image e.0) (reads_links image e len r k.read inside) seen (s.records e) fresh
        (k.head ∙ ap (place_link image) ends.first ∙ head_own image e.0 (first_of (s.records e)) (λ p f. let i = has_first (s.records e) p f in let m = low_at p i in (m.0, m.1, (st.on_chain e p i).file)))
        (k.closes (last_of (s.records e)) ∙ ap (λ (d : DiskLoc). names_place d (last_of (s.records e))) ends.last ∙ names_own (last_of (s.records e)) (λ p f. low_at p (has_last (s.records e) p f)))
        right
        l

    -- so phase 6 finds nothing at the extent, and what it found is the shape's
    pub nothing_found : (r : Reading) (seen : List Place) (at : Place) → ReadsRecords image e len h r → e.1 + len ≤ length (bytes_at image e.0) → once (s.records e ++ seen) ≡ true → Breaks r seen at → ⊥
    nothing_found r seen at k inside fresh b = whole_or_broken r seen (s.records e) at (whole_of_stands r seen k inside fresh) b

    pub found_is_shape : (r : Reading) (seen ps : List Place) → ReadsRecords image e len h r → e.1 + len ≤ length (bytes_at image e.0) → once (s.records e ++ seen) ≡ true → IsWhole r seen ps → ps ≡ s.records e
    found_is_shape r seen ps k inside fresh w = whole_is_one r seen ps (s.records e) w (whole_of_stands r seen k inside fresh)
