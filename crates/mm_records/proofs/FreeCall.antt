-- The steps of freeing a record, put together.
use Rattle.std.proofs.Common.{◌≡◌, ◌≢◌, ℕ, ℤ, pos, negsuc, ◌+◌, ◌<◌, ◌≤◌, ◌⊎◌, inl, inr, Bool, true, false, cond, List, length, Option, Some, None, refl, sym, ◌∙◌, ap, subst, arith}
use Rattle.std.specs.Prelude.{◌==◌, if◌then◌else◌, nat_lt, slice_index_or}
use Rattle.std.specs.FinMap.{get, insert, get-insert}
use Rattle.std.specs.Option.{option_map}
use Rattle.std.proofs.lemmas.Bool.{cases_Bool, false≢true, eqb-true}
use Rattle.std.proofs.lemmas.Bool.Decides.{nat_tests}
use Rattle.std.specs.Cmp.Lexicographic.{nat_list_cmp_total}
use Rattle.mm_base.specs.Bytes.{part}
use Rattle.mm_base.specs.Places.{null}
use Rattle.mm_ranges.specs.Overlay.{Image, bytes_at}
use Rattle.mm_frames.specs.RecHeader.{rec_header_of}
use Rattle.mm_frames.specs.declared.extent_header.ExtentHeader.{ExtentHeader}
use Rattle.mm_frames.specs.declared.rec_header.RecHeader.{RecHeader}
use Rattle.mm_frames.specs.declared.details.Details.{Details}
use Rattle.mm_nstable.specs.Nodes.{name_in, node_at, IsTable}
use Rattle.mm_nstable.specs.Table.{Held, table_of}
use Rattle.mm_links.specs.Links.{Place, has, once, next_in}
use Rattle.mm_links.proofs.LinkLaws.{before_of, has_before, has_next}
use Rattle.mm_extents.specs.Heap.{extent, live, Heap, IsHeap}
use Rattle.mm_extents.specs.Changes.{loc, ofs_or, len_of, KeepsHeaders}
use Rattle.mm_extents.proofs.FileLaws.{files_kept}
use Rattle.mm_extents.proofs.Writes.{heap_same}
use Rattle.mm_extents.specs.Tiling.{Outline, ground, outline, IsBlock, IsTiled}
use Rattle.mm_extents.specs.Files.{header_unused, unused_in}
use Rattle.mm_frames.specs.Texts.{text_in}
use Rattle.mm_records.specs.Constants.{is_name, constants_of}
use Rattle.mm_records.specs.Shape.{Shape, list_for, rec_next, rec_prev}
use Rattle.mm_records.specs.Stands.{HasNode, Stands, FreeStands, IsOwn, DetailsStand, ns_in}
use Rattle.mm_records.specs.Freeing.{forward, bypassed, freed_shape}
use Rattle.mm_records.specs.Passing.{IsLive, HasExtent, LinkFits}
use Rattle.mm_records.proofs.ConstantLaws.{free_chain_stays}
use Rattle.mm_records.proofs.Cells.{core, core_next, core_first, forward_stays, LiveAt, live_core, extent_core}
use Rattle.mm_records.proofs.Freed.{core_aft, name_is, name_own}
use Rattle.mm_records.proofs.FreedStands.{extent_was, ground_same, extents_stand, records_stand, lists_stand}
use Rattle.mm_records.proofs.FreedCounts.{count_less, size_less, own_details, other_details}

module _ (image : Image) (free : List ℕ) (s : Shape) (node : ℕ) (p : Place) (own : IsOwn image free s node p) where
  abbrev chain : List Place
  chain = s.records (p.0, own.a)

  on : has chain p ≡ true
  on = own.stands.records.all p own.h own.room own.a own.here own.ext

  one : once chain ≡ true
  one = (own.stands.records.linked (p.0, own.a)).no_twice

  pub head_is : (r : RecHeader) → r ≡ rec_header_of (part p.1 16 (bytes_at image p.0)) → r ≡ own.h
  head_is r e = e ∙ (own.stands.heap.shown p (live own.h own.room) own.here).0

  pub own_inside : p.1 + (16 + length own.room) ≤ length (bytes_at image p.0)
  own_inside = own.stands.heap.inside p (live own.h own.room) own.here

  pub own_behind : 8192 ≤ p.1
  own_behind = own.stands.heap.behind_header p (live own.h own.room) own.here

  pub own_file : p.0 < 8
  own_file = own.stands.heap.data_file p (live own.h own.room) own.here

  block : (a : ℕ) × ((m : ℕ) × IsBlock (ground s.heap) free p.0 p.1 own.h.extent_ofs own.h.length_with_headers (16 + length own.room) a m)
  block = own.stands.tiled.blocks p.0 p.1 (16 + length own.room) own.h.extent_ofs own.h.length_with_headers (ap (option_map outline) own.here)

  pub own_len : own.h.length_with_headers ≡ pos (16 + length own.room)
  own_len = block.1.1.long

  rec_of : (x : Place) → has chain x ≡ true → IsLive s.heap (p.0, x.1)
  rec_of x hx =
      let r = own.stands.records.on_chain (p.0, own.a) x hx in
      record { h = r.h; room = r.room; is = ap (λ (f : ℕ). s.heap (f, x.1)) (sym r.file) ∙ r.there }

  pub prev_fits : LinkFits p.0 own.a own.h.prev_ofs s.heap
  prev_fits = elim (before_of chain p one on) [
    | inl f ↦ subst (λ (z : ℤ). LinkFits p.0 own.a z s.heap) (sym (sym (ap rec_prev own.here) ∙ (own.stands.records.linked (p.0, own.a)).first p f)) (let x : HasExtent s.heap (p.0, own.a) = record { h = own.hh; is = own.there } in x)
    | inr b ↦ subst (λ (z : ℤ). LinkFits p.0 own.a z s.heap) (sym (sym (ap rec_prev own.here) ∙ (own.stands.records.linked (p.0, own.a)).before b.0 p b.1)) (rec_of b.0 (has_before chain b.0 p b.1))
  ]

  next_fits : LinkFits p.0 own.a own.h.next_ofs s.heap
  next_fits = subst (λ (z : ℤ). LinkFits p.0 own.a z s.heap) (sym (sym (ap rec_next own.here) ∙ (own.stands.records.linked (p.0, own.a)).behind p on)) (by (next_in chain p) refl)
    where
      by : (o : Option Place) → next_in chain p ≡ o → LinkFits p.0 own.a (ofs_or o) s.heap
      by None f = record { h = own.hh; is = own.there }
      by (Some x) f = rec_of x (has_next chain p x f)

  abbrev mid1 : Heap
  mid1 = forward p.0 own.a own.h.prev_ofs own.h.next_ofs s.heap

  kinds : (z : ℤ) → LinkFits p.0 own.a z s.heap → LinkFits p.0 own.a z mid1
  kinds (pos x) l =
      let r = live_core (mid1 (p.0, x)) l.h l.room (forward_stays core core_next core_first p.0 own.a own.h.prev_ofs own.h.next_ofs s.heap (p.0, x) ∙ ap core l.is) in
      record { h = r.h; room = l.room; is = r.is }
  kinds (negsuc n) l =
      let r = extent_core (mid1 (p.0, own.a)) l.h (forward_stays core core_next core_first p.0 own.a own.h.prev_ofs own.h.next_ofs s.heap (p.0, own.a) ∙ ap core l.is) in
      record { h = r.h; is = r.is }

  pub next_fits1 : LinkFits p.0 own.a own.h.next_ofs mid1
  next_fits1 = kinds own.h.next_ofs next_fits

  -- the record stands there all the while
  pub mid_live : LiveAt (bypassed p.0 own.a own.h.prev_ofs own.h.next_ofs s.heap p) own.h.extent_ofs own.h.length_with_headers own.room
  mid_live = live_core (bypassed p.0 own.a own.h.prev_ofs own.h.next_ofs s.heap p) own.h own.room (core_aft s p own.h own.room own.a own.stands.records own.here own.ext p ∙ ap core own.here)

  pub mid_inside : (i2 : Image) → IsHeap i2 (bypassed p.0 own.a own.h.prev_ofs own.h.next_ofs s.heap) → p.1 + 16 ≤ length (bytes_at i2 p.0)
  mid_inside i2 is = let a = is.inside p (live mid_live.h own.room) mid_live.is in omega (arith, a)

  -- the details that the node has
  pub own_stand : (d : Details) → get (table_of (ns_in image)) (name_in (node_at (ns_in image) node)) ≡ Some (record { node = node; details = d }) → DetailsStand s (text_in own.hh.namespace) d
  own_stand d e = subst (λ (n : List ℕ). DetailsStand s n d) (sym own.named) (own.stands.counts (name_in (node_at (ns_in image) node)) (record { node = node; details = d }) e own.isnt_free)

  pub counted : (d : Details) → DetailsStand s (text_in own.hh.namespace) d → ((n : ℕ) × (d.nrecords ≡ pos (n + 1))) × ((n : ℕ) × (d.datasize ≡ pos (n + length own.room)))
  counted d ds =
      let less = count_less s p own.h own.room own.a own.hh own.stands.extents own.stands.records own.stands.lists own.here own.ext own.there in
      let small = size_less s p own.h own.room own.a own.hh own.stands.extents own.stands.records own.stands.lists own.here own.ext own.there in
      ((_, ds.nrecords ∙ ap (λ (n : ℕ). pos n) (sym less)), (_, ds.datasize ∙ ap (λ (n : ℕ). pos n) (sym small)))

  -- all together
  module _ (d d' : Details) (ds : DetailsStand s (text_in own.hh.namespace) d) (i3 i4 : Image) (k : KeepsHeaders image i3)
      (heap3 : IsHeap i3 (freed_shape (text_in own.hh.namespace) own.a p own.h (16 + length own.room) s).heap)
      (first : d'.first_extent ≡ d.first_extent) (last : d'.last_extent ≡ d.last_extent)
      (head : slice_index_or d'.deleted (list_for (16 + length own.room)) null ≡ loc p)
      (heads : (i : ℕ) → i < 19 → (i == list_for (16 + length own.room)) ≡ false → slice_index_or d'.deleted i null ≡ slice_index_or d.deleted i null)
      (size : d'.last_extent_size ≡ d.last_extent_size) (constants : constants_of d' ≡ constants_of d)
      (nrecords : (n : ℕ) → d.nrecords ≡ pos (n + 1) → d'.nrecords ≡ pos n) (datasize : (n : ℕ) → d.datasize ≡ pos (n + length own.room) → d'.datasize ≡ pos n)
      (lengths : (f : ℕ) → len_of i4 f ≡ len_of i3 f) (files : (f : ℕ) → f < 8 → bytes_at i4 f ≡ bytes_at i3 f)
      (there : get (table_of (ns_in image)) (name_in (node_at (ns_in image) node)) ≡ Some (record { node = node; details = d }))
      (table4 : table_of (ns_in i4) ≡ insert (table_of (ns_in i3)) (name_in (node_at (ns_in i3) node)) (record { node = node; details = d' })) (kept4 : IsTable (ns_in i4)) where
    abbrev young : Shape
    young = freed_shape (text_in own.hh.namespace) own.a p own.h (16 + length own.room) s

    unused_same : (f : ℕ) → unused_in i4 f ≡ unused_in image f
    unused_same f = elim (cases_Bool (nat_lt f 8)) [
      | inl y ↦ ap (λ (b : Bool). if b then header_unused (part 0 8192 (bytes_at i4 f)) else None) y
          ∙ ap header_unused (ap (part 0 8192) (files f (grind (arith, nat_tests, y))) ∙ k.headers f)
          ∙ sym (ap (λ (b : Bool). if b then header_unused (part 0 8192 (bytes_at image f)) else None) y)
      | inr n ↦ ap (λ (b : Bool). if b then header_unused (part 0 8192 (bytes_at i4 f)) else None) n
          ∙ sym (ap (λ (b : Bool). if b then header_unused (part 0 8192 (bytes_at image f)) else None) n)
    ]

    abbrev own_name : List ℕ
    own_name = name_in (node_at (ns_in image) node)

    table_new : table_of (ns_in i4) ≡ insert (table_of (ns_in image)) own_name (record { node = node; details = d' })
    table_new = table4 ∙ (λ i. insert (table_of (k.ns i)) (name_in (node_at (k.ns i) node)) (record { node = node; details = d' }))

    found : (m : List ℕ) → get (table_of (ns_in i4)) m ≡ cond (is_name m own_name) (Some (record { node = node; details = d' })) (get (table_of (ns_in image)) m)
    found m = ap (λ t. get t m) table_new ∙ get-insert nat_list_cmp_total (table_of (ns_in image)) own_name (record { node = node; details = d' }) m

    counts_new : (m : List ℕ) (held : Held) → get (table_of (ns_in i4)) m ≡ Some held → m ≢ free → DetailsStand young m held.details
    counts_new m held e nf = by (cases_Bool (is_name m own_name))
      where
        found : cond (is_name m own_name) (Some (record { node = node; details = d' })) (get (table_of (ns_in image)) m) ≡ Some held
        found = sym (get-insert nat_list_cmp_total (table_of (ns_in image)) own_name (record { node = node; details = d' }) m) ∙ ap (λ t. get t m) (sym table_new) ∙ e

        by : (is_name m own_name ≡ true) ⊎ (is_name m own_name ≡ false) → DetailsStand young m held.details
        by (inl y) =
            let same_held : Some (record { node = node; details = d' }) ≡ Some held = sym (ap (λ (b : Bool). cond b (Some (record { node = node; details = d' })) (get (table_of (ns_in image)) m)) y) ∙ found in
            let same_one : record { node = node; details = d' } ≡ held = cc in
            subst (λ (x : Held). DetailsStand young m x.details) same_one (subst (λ (n : List ℕ). DetailsStand young n d') (own.named ∙ sym (name_is m own_name y))
            (own_details s p own.h own.room own.a own.hh own.stands.extents own.stands.records own.stands.lists own.here own.ext own.there d d' ds first last
            (λ i lt z. ap (λ (j : ℕ). slice_index_or d'.deleted j null) (eqb-true i (list_for (16 + length own.room)) z) ∙ head) heads nrecords datasize size constants))
        by (inr n) =
            let old : get (table_of (ns_in image)) m ≡ Some held = sym (ap (λ (b : Bool). cond b (Some (record { node = node; details = d' })) (get (table_of (ns_in image)) m)) n) ∙ found in
            other_details s p own.h own.room own.a own.hh own.stands.extents own.stands.records own.stands.lists own.here own.ext own.there m held.details
            (λ f. false≢true (sym n ∙ name_own m own_name (f ∙ own.named))) (own.stands.counts m held old nf)

    free_new : (held : Held) × FreeStands i4 free young held
    free_new =
        let f = own.stands.free_chain in
        (f.0, record { node = free_chain_stays (ns_in image) (ns_in i4) free own_name f.0 (record { node = node; details = d }) (record { node = node; details = d' }) f.1.node there own.isnt_free table_new; first = f.1.first; last = f.1.last })

    node_stays : (m : List ℕ) (b : Bool) → is_name m own_name ≡ b → HasNode image m → HasNode i4 m
    node_stays m true y n = (record { node = node; details = d' }, found m ∙ ap (λ (b : Bool). cond b (Some (record { node = node; details = d' })) (get (table_of (ns_in image)) m)) y)
    node_stays m false y n = (n.0, found m ∙ ap (λ (b : Bool). cond b (Some (record { node = node; details = d' })) (get (table_of (ns_in image)) m)) y ∙ n.1)

    owners_new : (q : Place) (g : ExtentHeader) → young.heap q ≡ Some (extent g) → HasNode i4 (text_in g.namespace)
    owners_new q g i =
        let t = extent_was s p own.h own.room own.a own.hh own.stands.extents own.stands.records own.stands.lists own.here own.ext own.there q g i in
        node_stays (text_in g.namespace) (is_name (text_in g.namespace) own_name) refl (subst (λ (m : List ℕ). HasNode image (text_in m)) t.1.name_is (own.stands.owners q t.1.h t.1.is))

    pub stands_again : Stands i4 free young
    stands_again = record {
      files = files_kept image i4 (λ f. lengths f ∙ k.lengths f) (λ f lt. ap (part 0 8192) (files f lt) ∙ k.headers f) own.stands.files;
      table = kept4;
      heap = heap_same i3 i4 young.heap files heap3;
      tiled = (let g : (q : Place) → ground young.heap q ≡ ground s.heap q = ground_same s p own.h own.room own.a own.hh own.stands.extents own.stands.records own.stands.lists own.here own.ext own.there in
          let whole : (ground s.heap, unused_in image) ≡ (ground young.heap, unused_in i4) = λ i. (λ q. sym (g q) i, λ f. sym (unused_same f) i) in
          subst (λ (x : (Place → Option Outline) × (ℕ → Option ℤ)). IsTiled x.0 x.1 free) whole own.stands.tiled);
      extents = extents_stand s p own.h own.room own.a own.hh own.stands.extents own.stands.records own.stands.lists own.here own.ext own.there;
      records = records_stand s p own.h own.room own.a own.hh own.stands.extents own.stands.records own.stands.lists own.here own.ext own.there;
      lists = lists_stand s p own.h own.room own.a own.hh own.stands.extents own.stands.records own.stands.lists own.here own.ext own.there;
      owners = owners_new;
      counts = counts_new;
      free_chain = free_new;
    }
