-- The steps of dropping a namespace, put together.
use Rattle.std.proofs.Common.{◌≡◌, ◌≢◌, ℕ, ℤ, ◌+◌, ◌*◌, ◌<◌, inl, inr, Bool, true, false, cond, List, ◌++◌, Option, Some, None, refl, sym, ◌∙◌, ap, subst, arith}
use Rattle.std.specs.Prelude.{if◌then◌else◌, nat_lt}
use Rattle.std.specs.Option.{option_map}
use Rattle.std.specs.FinMap.{get, insert, remove, get-insert, get-remove}
use Rattle.std.specs.Cmp.Lexicographic.{nat_list_cmp_total}
use Rattle.std.proofs.lemmas.Bool.{cases_Bool, false≢true}
use Rattle.std.proofs.lemmas.Bool.Decides.{nat_tests}
use Rattle.mm_base.specs.Bytes.{part, zeros}
use Rattle.mm_base.proofs.Numbers.{length-zeros}
use Rattle.mm_base.specs.declared.place.DiskLoc.{DiskLoc}
use Rattle.mm_ranges.specs.Overlay.{Image, bytes_at}
use Rattle.mm_frames.specs.Texts.{text_in}
use Rattle.mm_frames.specs.declared.details.Details.{Details}
use Rattle.mm_frames.specs.declared.extent_header.ExtentHeader.{ExtentHeader}
use Rattle.mm_frames.specs.declared.free_ends.FreeEnds.{FreeEnds}
use Rattle.mm_views.specs.State.{Drafting}
use Rattle.mm_frames.specs.Details.{details_bytes}
use Rattle.mm_nstable.specs.Nodes.{node_at, name_in, is_used, IsTable, SameNames}
use Rattle.mm_nstable.specs.Changes.{written_at}
use Rattle.mm_nstable.proofs.Tables.{used_parts}
use Rattle.mm_nstable.specs.Table.{Held, table_of}
use Rattle.mm_nstable.specs.FreeChain.{HasFreeChain, ends_of, with_ends}
use Rattle.mm_links.specs.Links.{Place, first_of, last_of}
use Rattle.mm_extents.specs.Heap.{Cell, extent, Heap}
use Rattle.mm_extents.specs.Changes.{loc_or, len_of}
use Rattle.mm_extents.specs.Files.{header_unused, unused_in}
use Rattle.mm_extents.specs.Tiling.{outline, ground, IsTiled}
use Rattle.mm_extents.specs.Chains.{ext_next}
use Rattle.mm_extents.specs.FreeExtents.{HasFree}
use Rattle.mm_extents.specs.Dropping.{AreUsed, AreFreed}
use Rattle.mm_extents.specs.Room.{room}
use Rattle.mm_extents.proofs.FileLaws.{files_kept}
use Rattle.mm_extents.proofs.RoomFalls.{room_files}
use Rattle.mm_extents.proofs.Writes.{heap_same}
use Rattle.mm_records.specs.Constants.{is_name}
use Rattle.mm_records.specs.Shape.{Shape}
use Rattle.mm_records.specs.Stands.{Stands, IsNode, HasNode, ns_in}
use Rattle.mm_records.specs.Map.{name_at}
use Rattle.mm_records.proofs.Freed.{name_is, name_own}
use Rattle.mm_records.proofs.NodeWrites.{other_files}
use Rattle.mm_records.proofs.LinkSteps.{ends_lengths, ends_files}
use Rattle.mm_namespaces.specs.Dropped.{IsDropped}
use Rattle.mm_namespaces.proofs.NodeBytes.{node_lengths}
use Rattle.mm_namespaces.proofs.Apart as a
use Rattle.mm_namespaces.proofs.Dropped.{new, of_free, off_name, is_dropped, extents_dropped, records_dropped, lists_dropped, details_dropped}

-- the free extents, as the details of their node name them
pub frees_at : (image : Image) (free : List ℕ) (s : Shape) (st : Stands image free s) (ends : FreeEnds) → ends ≡ ends_of st.free_chain.0.details → HasFree image free s.heap (s.extents free) ends
frees_at image free s st ends e = record {
  files = st.files;
  shown = st.heap;
  tiled = st.tiled;
  linked = st.extents.linked free;
  on_chain = st.extents.on_chain free;
  first = ap (λ (x : FreeEnds). x.first) e ∙ st.free_chain.1.first;
  last = ap (λ (x : FreeEnds). x.last) e ∙ st.free_chain.1.last;
}

-- the extents of a namespace are ones that aren't free
pub used_own : (image : Image) (free name : List ℕ) (s : Shape) (st : Stands image free s) (first : DiskLoc) → name ≢ free → first ≡ loc_or (first_of (s.extents name)) → AreUsed s.heap free (s.extents name) first
used_own image free name s st first ne is = record {
  head = is;
  no_twice = (st.extents.linked name).no_twice;
  each = λ p i.
      let x = st.extents.on_chain name p i in
      let t = st.tiled.extents p.0 p.1 x.0.magic x.0.my_loc x.0.namespace x.0.len (ap (λ (o : Option Cell). option_map outline o) x.1) in
      (t.2.0, (record { h = x.0; is = x.1; isnt_free = λ z. ne (sym x.2 ∙ z); long = t.2.1.long }, sym (ap ext_next x.1) ∙ (st.extents.linked name).behind p i));
}

module _ (image now : Image) (free name : List ℕ) (s : Shape) (st : Stands image free s) (ends : FreeEnds) (isnt : name ≢ free) (th : Heap)
    (f : HasFree now free th (s.extents free ++ s.extents name) ends) (fr : AreFreed s.heap th free (s.extents free) (s.extents name))
    (i3 : Image) (lens : (g : ℕ) → len_of i3 g ≡ len_of now g) (files : (g : ℕ) → g < 8 → bytes_at i3 g ≡ bytes_at now g)
    (table : table_of (ns_in i3) ≡ remove (insert (table_of (ns_in image)) free (record { node = st.free_chain.0.node; details = with_ends ends st.free_chain.0.details })) name) (kept : IsTable (ns_in i3)) where
  abbrev held : Held
  held = record { node = st.free_chain.0.node; details = with_ends ends st.free_chain.0.details }

  abbrev t : Shape
  t = new image now free name s st ends isnt th f fr

  found : (m : List ℕ) → get (table_of (ns_in i3)) m ≡ cond (is_name m name) None (cond (is_name m free) (Some held) (get (table_of (ns_in image)) m))
  found m =
      ap (λ x. get x m) table ∙ get-remove nat_list_cmp_total (insert (table_of (ns_in image)) free held) name m
      ∙ ap (λ (o : Option Held). cond (is_name m name) None o) (get-insert nat_list_cmp_total (table_of (ns_in image)) free held m)

  apart : (m k : List ℕ) → m ≢ k → is_name m k ≡ false
  apart m k ne = elim (cases_Bool (is_name m k)) [ inl y ↦ absurd (ne (name_is m k y)) | inr n ↦ n ]

  found_other : (m : List ℕ) → m ≢ name → m ≢ free → get (table_of (ns_in i3)) m ≡ get (table_of (ns_in image)) m
  found_other m nn nf = found m ∙ (λ i. cond (apart m name nn i) None (cond (apart m free nf i) (Some held) (get (table_of (ns_in image)) m)))

  found_free : get (table_of (ns_in i3)) free ≡ Some held
  found_free = found free ∙ (λ i. cond (apart free name (λ z. isnt (sym z)) i) None (cond (name_own free free refl i) (Some held) (get (table_of (ns_in image)) free)))

  pub found_own : get (table_of (ns_in i3)) name ≡ None
  found_own = found name ∙ (λ i. cond (name_own name name refl i) None (cond (is_name name free) (Some held) (get (table_of (ns_in image)) name)))

  pub found_others : (m : List ℕ) → m ≢ name → m ≢ free → get (table_of (ns_in i3)) m ≡ get (table_of (ns_in image)) m
  found_others = found_other

  -- whose details are there
  there_of : (m : List ℕ) (x : Held) → get (table_of (ns_in i3)) m ≡ Some x → m ≢ name
  there_of m x e z = (let c : None ≡ Some x = sym found_own ∙ ap (λ (k : List ℕ). get (table_of (ns_in i3)) k) (sym z) ∙ e in cc)

  chain_now : HasFreeChain (ns_in i3) free held
  chain_now = record {
    is = found_free;
    named = st.free_chain.1.node.named;
    only = λ m x g n. elim (cases_Bool (is_name m free)) [
      | inl y ↦ name_is m free y
      | inr k ↦ st.free_chain.1.node.only m x (sym (found_other m (there_of m x g) (λ z. false≢true (sym k ∙ name_own m free z))) ∙ g) n
    ];
  }

  owners_now : (q : Place) (h : ExtentHeader) → th q ≡ Some (extent h) → HasNode i3 (text_in h.namespace)
  owners_now q h i = elim (cases_Bool (is_name (text_in h.namespace) free)) [
    | inl y ↦ (held, ap (λ (k : List ℕ). get (table_of (ns_in i3)) k) (name_is (text_in h.namespace) free y) ∙ found_free)
    | inr n ↦
        let nf : text_in h.namespace ≢ free = (λ z. false≢true (sym n ∙ name_own (text_in h.namespace) free z)) in
        let was = sym (a.extent_stood image now free name s st ends isnt th f fr q h i nf) ∙ i in
        let old = st.owners q h was in
        (old.0, found_other (text_in h.namespace) (off_name image now free name s st ends isnt th f fr q h i was nf) nf ∙ old.1)
  ]

  unused_same : (g : ℕ) → unused_in i3 g ≡ unused_in now g
  unused_same g = elim (cases_Bool (nat_lt g 8)) [
    | inl y ↦ ap (λ (b : Bool). if b then header_unused (part 0 8192 (bytes_at i3 g)) else None) y
        ∙ ap header_unused (ap (part 0 8192) (files g (grind (arith, nat_tests, y))))
        ∙ sym (ap (λ (b : Bool). if b then header_unused (part 0 8192 (bytes_at now g)) else None) y)
    | inr n ↦ ap (λ (b : Bool). if b then header_unused (part 0 8192 (bytes_at i3 g)) else None) n
        ∙ sym (ap (λ (b : Bool). if b then header_unused (part 0 8192 (bytes_at now g)) else None) n)
  ]

  pub stands_dropped : Stands i3 free t
  stands_dropped = record {
    files = files_kept now i3 lens (λ g lt. ap (part 0 8192) (files g lt)) f.files;
    table = kept;
    heap = heap_same now i3 th files f.shown;
    tiled = subst (λ (u : ℕ → Option ℤ). IsTiled (ground th) u free) (λ i g. sym (unused_same g) i) f.tiled;
    extents = extents_dropped image now free name s st ends isnt th f fr;
    owners = owners_now;
    records = records_dropped image now free name s st ends isnt th f fr;
    lists = lists_dropped image now free name s st ends isnt th f fr;
    counts = λ m x e nf. let nn = there_of m x e in details_dropped image now free name s st ends isnt th f fr m nf nn x.details (st.counts m x (sym (found_other m nn nf) ∙ e) nf);
    free_chain = (
      held,
      record {
        node = chain_now;
        first = f.first ∙ ap (λ (xs : List Place). loc_or (first_of xs)) (sym (of_free image now free name s st ends isnt th f fr free (name_own free free refl)));
        last = f.last ∙ ap (λ (xs : List Place). loc_or (last_of xs)) (sym (of_free image now free name s st ends isnt th f fr free (name_own free free refl)));
      },
    );
  }

-- ---- at the numbers that the code reads

module _ (image : Image) (free : List ℕ) (s : Shape) (node : ℕ) (st : Stands image free s) (n : IsNode image free node) where
  pub asks : (d : Details) (ends : FreeEnds) → get (table_of (ns_in image)) (name_in (node_at (ns_in image) node)) ≡ Some (record { node = node; details = d })
      → ((free : List ℕ) (held : Held) → HasFreeChain (ns_in image) free held → ends ≡ ends_of held.details) → HasFree image free s.heap (s.extents free) ends × AreUsed s.heap free (s.extents (name_at image node)) d.first_extent
  asks d ends there is = (
    frees_at image free s st ends (is free st.free_chain.0 st.free_chain.1.node),
    used_own image free (name_at image node) s st d.first_extent n.isnt_free (st.counts (name_at image node) (record { node = node; details = d }) there n.isnt_free).first,
  )

  module _ (d1 d2 d3 : Drafting) (ends : FreeEnds) (m : (t : Heap) × (HasFree d1.image free t (s.extents free ++ s.extents (name_at image node)) ends × AreFreed s.heap t free (s.extents free) (s.extents (name_at image node))))
      (ns1 : ns_in d1.image ≡ ns_in image) (w2 : d2 ≡ written_at (628 * st.free_chain.0.node + 132) (details_bytes (with_ends ends st.free_chain.0.details)) d1)
      (t2 : table_of (ns_in d2.image) ≡ insert (table_of (ns_in d1.image)) free (record { node = st.free_chain.0.node; details = with_ends ends st.free_chain.0.details })) (names : SameNames (ns_in d1.image) (ns_in d2.image))
      (w3 : d3 ≡ written_at (628 * node) (zeros 628) d2) (t3 : table_of (ns_in d3.image) ≡ remove (table_of (ns_in d2.image)) (name_in (node_at (ns_in d2.image) node))) (kept : IsTable (ns_in d3.image)) where
    used1 : is_used (ns_in d1.image) node ≡ true
    used1 = ap (λ (ns : List ℕ). is_used ns node) ns1 ∙ n.used

    pub used2 : is_used (ns_in d2.image) node ≡ true
    used2 = names.used node ∙ used1

    name2 : name_in (node_at (ns_in d2.image) node) ≡ name_at image node
    name2 = names.names node used1 ∙ ap (λ (ns : List ℕ). name_in (node_at ns node)) ns1

    lens : (f : ℕ) → len_of d3.image f ≡ len_of d1.image f
    lens f = node_lengths d2 d3 node (zeros 628) (used_parts (ns_in d2.image) node used2).there (length-zeros 628) w3 f ∙ ends_lengths image free st.free_chain.0 st.table st.free_chain.1.node d1 d2 ns1 ends w2 f

    files : (f : ℕ) → f < 8 → bytes_at d3.image f ≡ bytes_at d1.image f
    files f lt = other_files d2 d3 (628 * node) (zeros 628) w3 f lt ∙ ends_files image free st.free_chain.0 st.table st.free_chain.1.node d1 d2 ns1 ends w2 f lt

    pub same_room : room d3.image ≡ room d1.image
    same_room = room_files d1.image d3.image lens files

    table3 : table_of (ns_in d3.image) ≡ remove (insert (table_of (ns_in image)) free (record { node = st.free_chain.0.node; details = with_ends ends st.free_chain.0.details })) (name_at image node)
    table3 = t3 ∙ (λ i. remove (table_of (ns_in d2.image)) (name2 i)) ∙ ap (λ x. remove x (name_at image node)) (t2 ∙ ap (λ (ns : List ℕ). insert (table_of ns) free (record { node = st.free_chain.0.node; details = with_ends ends st.free_chain.0.details })) ns1)

    pub all_dropped : (t : Shape) × (Stands d3.image free t × IsDropped s t free (name_at image node))
    all_dropped = (
      new image d1.image free (name_at image node) s st ends n.isnt_free m.0 m.1.0 m.1.1,
      (
        stands_dropped image d1.image free (name_at image node) s st ends n.isnt_free m.0 m.1.0 m.1.1 d3.image lens files table3 kept,
        is_dropped image d1.image free (name_at image node) s st ends n.isnt_free m.0 m.1.0 m.1.1,
      ),
    )

    pub own_gone : get (table_of (ns_in d3.image)) (name_at image node) ≡ None
    own_gone = found_own image d1.image free (name_at image node) s st ends n.isnt_free m.0 m.1.0 m.1.1 d3.image lens files table3 kept

    pub others_stay : (k : List ℕ) → k ≢ name_at image node → k ≢ free → get (table_of (ns_in d3.image)) k ≡ get (table_of (ns_in image)) k
    others_stay = found_others image d1.image free (name_at image node) s st ends n.isnt_free m.0 m.1.0 m.1.1 d3.image lens files table3 kept
