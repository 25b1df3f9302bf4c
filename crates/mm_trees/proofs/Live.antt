-- What is followed in files that stand: all live records of a node.
use Rattle.std.proofs.Common.{◌≡◌, ◌≢◌, ℕ, true, List, Option, Some, None, refl, sym, ◌∙◌, ap, subst}
use Rattle.std.specs.Prelude.{flat_map, if◌then◌else◌}
use Rattle.mm_ranges.specs.Overlay.{Image}
use Rattle.mm_frames.specs.declared.extent_header.ExtentHeader.{ExtentHeader}
use Rattle.mm_frames.specs.declared.rec_header.RecHeader.{RecHeader}
use Rattle.mm_links.specs.Links.{Place, has, first_of, next_in}
use Rattle.mm_links.proofs.LinkLaws.{has_first, has_next, if_true}
use Rattle.mm_extents.specs.Heap.{Cell, extent, live}
use Rattle.mm_extents.specs.Changes.{IsLow, LowOr, loc, loc_or, ofs_or}
use Rattle.mm_extents.specs.Chains.{ext_next}
use Rattle.mm_extents.proofs.FileLaws.{low_place}
use Rattle.mm_nstable.specs.Nodes.{node_at, details_in}
use Rattle.mm_nstable.proofs.Tables.{table_at}
use Rattle.mm_records.specs.Constants.{is_name}
use Rattle.mm_records.specs.Shape.{Shape, rec_next}
use Rattle.mm_records.specs.Stands.{Stands, IsNode, ns_in, walk}
use Rattle.mm_records.specs.Map.{ofs_of, extent_of, owner, live_room, live_at, name_at}
use Rattle.mm_records.proofs.Bounds.{has_flat, flat_has}
use Rattle.mm_records.proofs.Freed.{name_own}
use Rattle.mm_records.proofs.Owning.{owns}
use Rattle.mm_trees.specs.Walked.{spot_in, spot_inside, header_at, next_extent, next_record, extents_in, records_in, walk_in}
use Rattle.mm_trees.proofs.Following.{follow_all, flat_same, spot_loc_or, inside_ofs}

low_or : (xs : List Place) (o : Option Place) → ((p : Place) → has xs p ≡ true → IsLow p) → ((q : Place) → o ≡ Some q → has xs q ≡ true) → LowOr o
low_or xs None a h = tt
low_or xs (Some q) a h = a q (h q refl)

module _ (image : Image) (free : List ℕ) (s : Shape) (st : Stands image free s) where
  low_extent : (name : List ℕ) (e : Place) → has (s.extents name) e ≡ true → IsLow e
  low_extent name e on = let x = st.extents.on_chain name e on in low_place image s.heap e (extent x.0) st.files st.heap x.1

  low_record : (e p : Place) → has (s.records e) p ≡ true → IsLow p
  low_record e p on = let r = st.records.on_chain e p on in low_place image s.heap p (live r.h r.room) st.files st.heap r.there

  extent_next : (name : List ℕ) (e : Place) → has (s.extents name) e ≡ true → next_extent image e ≡ next_in (s.extents name) e
  extent_next name e on =
      let x = st.extents.on_chain name e on in
      let named : x.0.xnext ≡ loc_or (next_in (s.extents name) e) = sym (ap ext_next x.1) ∙ (st.extents.linked name).behind e on in
      ap (λ (h : ExtentHeader). spot_in h.xnext) (st.heap.shown e (extent x.0) x.1) ∙ ap spot_in named
      ∙ spot_loc_or (next_in (s.extents name) e) (low_or (s.extents name) (next_in (s.extents name) e) (low_extent name) (λ q i. has_next (s.extents name) e q i))

  record_next : (e p : Place) → has (s.records e) p ≡ true → next_record image p ≡ next_in (s.records e) p
  record_next e p on =
      let r = st.records.on_chain e p on in
      let named : r.h.next_ofs ≡ ofs_or (next_in (s.records e) p) = sym (ap rec_next r.there) ∙ (st.records.linked e).behind p on in
      ap (λ (h : RecHeader). spot_inside p.0 h.next_ofs) (st.heap.shown p (live r.h r.room) r.there).0 ∙ ap (spot_inside p.0) named
      ∙ inside_ofs p.0 (next_in (s.records e) p) (λ q i. r.file ∙ sym (st.records.on_chain e q (has_next (s.records e) p q i)).file)

  records_are : (name : List ℕ) (e : Place) → has (s.extents name) e ≡ true → name ≢ free → records_in image e ≡ s.records e
  records_are name e on other =
      let x = st.extents.on_chain name e on in
      let first = (st.records.ends e x.0 x.1 (λ z. other (sym x.2 ∙ z))).first in
      let low = low_or (s.records e) (first_of (s.records e)) (low_record e) (λ q i. has_first (s.records e) q i) in
      follow_all (next_record image) (s.records e) (spot_in (header_at image e).first_record) (low_record e) (st.records.linked e).no_twice (record_next e)
      (ap (λ (h : ExtentHeader). spot_in h.first_record) (st.heap.shown e (extent x.0) x.1) ∙ ap spot_in first ∙ spot_loc_or (first_of (s.records e)) low)

  module _ (node : ℕ) (n : IsNode image free node) where
    name : List ℕ
    name = name_at image node

    first_extent : (details_in (node_at (ns_in image) node)).first_extent ≡ loc_or (first_of (s.extents (name_at image node)))
    first_extent = (st.counts (name_at image node) (record { node = node; details = details_in (node_at (ns_in image) node) }) (table_at (ns_in image) node (name_at image node) st.table n.used refl) n.isnt_free).first

    extents_are : extents_in image node ≡ s.extents (name_at image node)
    extents_are =
        let xs = s.extents (name_at image node) in
        let low = low_or xs (first_of xs) (low_extent (name_at image node)) (λ q i. has_first xs q i) in
        follow_all (next_extent image) xs (spot_in (details_in (node_at (ns_in image) node)).first_extent) (low_extent (name_at image node)) (st.extents.linked (name_at image node)).no_twice (extent_next (name_at image node))
        (ap spot_in first_extent ∙ spot_loc_or (first_of xs) low)

    pub walk_is : walk_in image node ≡ walk s (name_at image node)
    unfolding walk_in
    walk_is = ap (flat_map (records_in image)) extents_are ∙ flat_same (records_in image) s.records (s.extents (name_at image node)) (λ e on. records_are (name_at image node) e on n.isnt_free)

    -- a live record of the node is followed
    pub on_walk : (p : Place) (room : List ℕ) → live_at s (name_at image node) p ≡ Some room → has (walk s (name_at image node)) p ≡ true
    on_walk p room l =
        let own = (owns image free s node p (loc p) room (record { stands = st; is_node = n; named = refl; live = l })).own in
        let e : Place = (p.0, own.a) in
        let on : has (s.extents (name_at image node)) e ≡ true = subst (λ (m : List ℕ). has (s.extents m) e ≡ true) own.named (st.extents.all e own.hh own.there) in
        flat_has s.records (s.extents (name_at image node)) e p on (st.records.all p own.h own.room own.a own.here own.ext)

    -- what is followed is live
    pub from_walk : (p : Place) → has (walk s (name_at image node)) p ≡ true → (room : List ℕ) × (live_at s (name_at image node) p ≡ Some room)
    from_walk p on =
        let o = has_flat s.records (s.extents (name_at image node)) p on in
        let r = st.records.on_chain o.e p o.has in
        let x = st.extents.on_chain (name_at image node) o.e o.on in
        let ext : ◌≡◌ {A = Place} (p.0, ofs_of r.h.extent_ofs) o.e = λ i. (r.file i, ofs_of (r.of_extent i)) in
        let named : owner (s.heap (p.0, ofs_of r.h.extent_ofs)) ≡ name_at image node = ap (λ (q : Place). owner (s.heap q)) ext ∙ ap owner x.1 ∙ x.2 in
        let test = name_own (owner (s.heap (p.0, ofs_of r.h.extent_ofs))) (name_at image node) named in (
          r.room,
          ap (λ (c : Option Cell). if is_name (owner (s.heap (extent_of p c))) (name_at image node) then live_room c else None) r.there
              ∙ if_true (is_name (owner (s.heap (p.0, ofs_of r.h.extent_ofs))) (name_at image node)) (Some r.room) None test,
        )
