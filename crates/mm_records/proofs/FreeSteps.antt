-- What each step of freeing asks for and gives, at the numbers that the code reads.
use Rattle.std.proofs.Common.{◌≡◌, ℕ, ℤ, pos, ◌+◌, ◌-◌, ◌<◌, ◌≤◌, true, false, List, length, Some, Result, Ok, Err, to_z, of_z, sym, ◌∙◌, ap, subst, arith}
use Rattle.std.specs.Prelude.{FitsSigned, ◌≤ℤ◌, ◌==◌, slice_index_or, OnOk}
use Rattle.std.specs.Int.{w32}
use Rattle.std.proofs.lemmas.Int.{to_z-of_z, ints}
use Rattle.std.specs.FinMap.{get, insert}
use Rattle.mm_base.specs.Bytes.{part}
use Rattle.mm_frames.specs.RecHeader.{rec_header_of}
use Rattle.mm_base.specs.Places.{null}
use Rattle.mm_base.specs.declared.place.DiskLoc.{DiskLoc}
use Rattle.mm_ranges.specs.Overlay.{Image, bytes_at}
use Rattle.mm_frames.specs.declared.rec_header.RecHeader.{RecHeader}
use Rattle.mm_frames.specs.declared.details.Details.{Details}
use Rattle.mm_nstable.specs.Nodes.{count_of, name_in, node_at, is_used, IsTable}
use Rattle.mm_nstable.specs.Table.{table_of}
use Rattle.mm_nstable.proofs.Tables.{used_parts}
use Rattle.mm_links.specs.Links.{Place}
use Rattle.mm_extents.specs.Heap.{live, Heap, IsHeap, change}
use Rattle.mm_extents.specs.Changes.{loc, len_of, KeepsHeaders, freed}
use Rattle.mm_frames.specs.Texts.{text_in}
use Rattle.mm_records.specs.Shape.{Shape, list_for}
use Rattle.mm_records.specs.Stands.{Stands, IsOwn, DetailsStand, ns_in}
use Rattle.mm_records.specs.Constants.{constants_of}
use Rattle.mm_records.specs.Freeing.{forward, backward, bypassed, freed_shape}
use Rattle.mm_records.specs.Passing.{LinkFits, Fits}
use Rattle.mm_records.proofs.FreeCall.{head_is, stands_again, prev_fits, next_fits1, mid_live, mid_inside, own_len}

pub nonneg : (z : ℤ) (n : ℕ) → z ≡ pos n → pos 0 ≤ℤ z
nonneg z n e = subst (λ (x : ℤ). pos 0 ≤ℤ x) (sym e) (let m : pos 0 ≤ℤ pos n = omega (arith, ints) in m)

pub same_number : (a b : ℕ) → pos a ≡ pos b → a ≡ b
same_number a b e = cc

-- the link of three numbers that are those of the header
pub record Reads (a ext : ℕ) (h : RecHeader) (prev next : ℤ) : Type 0 where
  pub at : a ≡ ext
  pub prev_is : h.prev_ofs ≡ prev
  pub next_is : h.next_ofs ≡ next

module _ (image : Image) (free : List ℕ) (s : Shape) (node : ℕ) (p : Place) (own : IsOwn image free s node p) (ext : ℕ) (prev next : ℤ) (r : Reads own.a ext own.h prev next) where
  fits0 : LinkFits p.0 ext prev s.heap
  fits0 = subst (λ (z : ℤ). LinkFits p.0 ext z s.heap) r.prev_is (subst (λ (a : ℕ). LinkFits p.0 a own.h.prev_ofs s.heap) r.at (prev_fits image free s node p own))

  pub forward_asks : Fits image p.0 ext prev
  forward_asks = record { heap = s.heap; is = own.stands.heap; fits = fits0 }

  module _ (i1 : Image) (f1 : (heap : Heap) → IsHeap image heap → LinkFits p.0 ext prev heap → IsHeap i1 (forward p.0 ext prev next heap)) where
    heap1 : IsHeap i1 (forward p.0 ext prev next s.heap)
    heap1 = f1 s.heap own.stands.heap fits0

    fits1 : LinkFits p.0 ext next (forward p.0 ext prev next s.heap)
    fits1 = subst (λ (z : ℤ). LinkFits p.0 ext z (forward p.0 ext prev z s.heap)) r.next_is (subst (λ (z : ℤ). LinkFits p.0 ext own.h.next_ofs (forward p.0 ext z own.h.next_ofs s.heap)) r.prev_is
        (subst (λ (a : ℕ). LinkFits p.0 a own.h.next_ofs (forward p.0 a own.h.prev_ofs own.h.next_ofs s.heap)) r.at (next_fits1 image free s node p own)))

    pub back_asks : Fits i1 p.0 ext next
    back_asks = record { heap = forward p.0 ext prev next s.heap; is = heap1; fits = fits1 }

    module _ (i2 : Image) (f2 : (heap : Heap) → IsHeap i1 heap → LinkFits p.0 ext next heap → IsHeap i2 (backward p.0 ext prev next heap)) where
      pub heap2 : IsHeap i2 (bypassed p.0 own.a own.h.prev_ofs own.h.next_ofs s.heap)
      heap2 = subst (λ (a : ℕ). IsHeap i2 (bypassed p.0 a own.h.prev_ofs own.h.next_ofs s.heap)) (sym r.at) (subst (λ (z : ℤ). IsHeap i2 (bypassed p.0 ext z own.h.next_ofs s.heap)) (sym r.prev_is)
          (subst (λ (z : ℤ). IsHeap i2 (bypassed p.0 ext prev z s.heap)) (sym r.next_is) (f2 (forward p.0 ext prev next s.heap) heap1 fits1)))

      pub deleted_asks : p.1 + 16 ≤ length (bytes_at i2 p.0)
      deleted_asks = mid_inside image free s node p own i2 heap2

      pub heap3 : (i3 : Image) (nd : DiskLoc) (d : Details) → DetailsStand s (text_in own.hh.namespace) d → list_for (16 + length own.room) < 19 → nd ≡ slice_index_or d.deleted (list_for (16 + length own.room)) null
          → ((heap : Heap) (h : RecHeader) (room : List ℕ) → IsHeap i2 heap → heap p ≡ Some (live h room) → IsHeap i3 (change p (freed nd) heap))
          → IsHeap i3 (freed_shape (text_in own.hh.namespace) own.a p own.h (16 + length own.room) s).heap
      heap3 i3 nd d ds lt nd_is f3 =
          let l = mid_live image free s node p own in
          subst (λ (x : DiskLoc). IsHeap i3 (change p (freed x) (bypassed p.0 own.a own.h.prev_ofs own.h.next_ofs s.heap))) (nd_is ∙ ds.heads (list_for (16 + length own.room)) lt)
          (f3 (bypassed p.0 own.a own.h.prev_ofs own.h.next_ofs s.heap) l.h own.room heap2 l.is)

pub used_there : (ns : List ℕ) (node : ℕ) → is_used ns node ≡ true → node < count_of ns
used_there ns node u = (used_parts ns node u).there

pub details_same : (i0 i2 : Image) (node : ℕ) (d : Details) → KeepsHeaders i0 i2 → IsTable (ns_in i0) → is_used (ns_in i0) node ≡ true
    → (IsTable (ns_in i2) → is_used (ns_in i2) node ≡ true → get (table_of (ns_in i2)) (name_in (node_at (ns_in i2) node)) ≡ Some (record { node = node; details = d }))
    → get (table_of (ns_in i0)) (name_in (node_at (ns_in i0) node)) ≡ Some (record { node = node; details = d })
details_same i0 i2 node d k t u f =
    subst (λ (ns : List ℕ). IsTable ns → is_used ns node ≡ true → get (table_of ns) (name_in (node_at ns node)) ≡ Some (record { node = node; details = d })) k.ns f t u

pub both_ok : {T E : Type 0} (P Q : Type 0) (r : Result T E) → OnOk r P → OnOk r Q → OnOk r (P × Q)
both_ok P Q (Ok x) p q = (p, q)
both_ok P Q (Err e) p q = tt

module _ (image : Image) (free : List ℕ) (s : Shape) (node : ℕ) (p : Place) (own : IsOwn image free s node p) where
  pub reads_of : (h : RecHeader) (ext : ℕ) → h ≡ rec_header_of (part p.1 16 (bytes_at image p.0)) → FitsSigned w32 h.extent_ofs → FitsSigned w32 h.prev_ofs → FitsSigned w32 h.next_ofs
      → to_z w32 (of_z w32 h.extent_ofs) ≡ pos ext → Reads own.a ext own.h (to_z w32 (of_z w32 h.prev_ofs)) (to_z w32 (of_z w32 h.next_ofs))
  reads_of h ext e fe fp fn x =
      let head = head_is image free s node p own h e in
      record {
        at = same_number own.a ext (sym own.ext ∙ ap (λ (g : RecHeader). g.extent_ofs) (sym head) ∙ sym (to_z-of_z w32 h.extent_ofs fe) ∙ x);
        prev_is = ap (λ (g : RecHeader). g.prev_ofs) (sym head) ∙ sym (to_z-of_z w32 h.prev_ofs fp);
        next_is = ap (λ (g : RecHeader). g.next_ofs) (sym head) ∙ sym (to_z-of_z w32 h.next_ofs fn);
      }

  pub own_len_of : (h : RecHeader) (len : ℕ) → h ≡ rec_header_of (part p.1 16 (bytes_at image p.0)) → FitsSigned w32 h.length_with_headers → to_z w32 (of_z w32 h.length_with_headers) ≡ pos len → 16 + length own.room ≡ len
  own_len_of h len e f x =
      let head = head_is image free s node p own h e in
      same_number (16 + length own.room) len (sym (own_len image free s node p own) ∙ ap (λ (g : RecHeader). g.length_with_headers) (sym head) ∙ sym (to_z-of_z w32 h.length_with_headers f) ∙ x)

  module _ (len list : ℕ) (long : 16 + length own.room ≡ len) (right : list ≡ list_for len) (low : list < 19) (d d' : Details) (ds : DetailsStand s (text_in own.hh.namespace) d) where
    pub the_list : list ≡ list_for (16 + length own.room)
    the_list = right ∙ ap list_for (sym long)

    pub the_room : len - 16 ≡ length own.room
    the_room = omega (arith, long)

    pub finish : (i3 i4 : Image) → KeepsHeaders image i3 → IsHeap i3 (freed_shape (text_in own.hh.namespace) own.a p own.h (16 + length own.room) s).heap
        → d'.first_extent ≡ d.first_extent → d'.last_extent ≡ d.last_extent → slice_index_or d'.deleted list null ≡ loc p
        → ((i : ℕ) → i < 19 → (i == list) ≡ false → slice_index_or d'.deleted i null ≡ slice_index_or d.deleted i null)
        → d'.last_extent_size ≡ d.last_extent_size → constants_of d' ≡ constants_of d
        → ((n : ℕ) → d.nrecords ≡ pos (n + 1) → d'.nrecords ≡ pos n) → ((n : ℕ) → d.datasize ≡ pos (n + (len - 16)) → d'.datasize ≡ pos n)
        → ((f : ℕ) → len_of i4 f ≡ len_of i3 f) → get (table_of (ns_in image)) (name_in (node_at (ns_in image) node)) ≡ Some (record { node = node; details = d })
        → ((f : ℕ) → f < 8 → bytes_at i4 f ≡ bytes_at i3 f)
        → (IsTable (ns_in i3) → table_of (ns_in i4) ≡ insert (table_of (ns_in i3)) (name_in (node_at (ns_in i3) node)) (record { node = node; details = d' })) → (IsTable (ns_in i3) → IsTable (ns_in i4))
        → Stands i4 free (freed_shape (text_in own.hh.namespace) own.a p own.h (16 + length own.room) s)
    finish i3 i4 k heap first last head heads size constants nrecords datasize lengths there files table4 kept4 =
        let t3 : IsTable (ns_in i3) = subst (λ (ns : List ℕ). IsTable ns) (sym k.ns) own.stands.table in
        stands_again image free s node p own d d' ds i3 i4 k heap first last
        (ap (λ (j : ℕ). slice_index_or d'.deleted j null) (sym the_list) ∙ head)
        (λ i lt ne. heads i lt (ap (λ (j : ℕ). i == j) the_list ∙ ne)) size constants nrecords
        (λ n e. datasize n (e ∙ ap (λ (m : ℕ). pos (n + m)) (sym the_room))) lengths files there (table4 t3) (kept4 t3)
