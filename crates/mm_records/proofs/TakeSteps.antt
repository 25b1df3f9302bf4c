-- What each step of taking a block asks for and gives, at the numbers that the code reads.
use Rattle.std.proofs.Common.{◌≡◌, ◌≢◌, ℕ, ℤ, pos, negsuc, ◌+◌, ◌^◌, ◌<◌, ◌≤◌, true, false, List, [], ◌∷◌, ◌++◌, length, Option, Some, None, refl, sym, ◌∙◌, ap, subst, arith}
use Rattle.std.specs.Prelude.{slice_index_or, ◌==◌}
use Rattle.std.specs.Option.{option_map}
use Rattle.std.proofs.lemmas.Bool.{false≢true}
use Rattle.mm_base.specs.Places.{null}
use Rattle.mm_base.specs.Bytes.{part}
use Rattle.mm_base.specs.declared.place.DiskLoc.{DiskLoc}
use Rattle.mm_ranges.specs.Overlay.{Image, bytes_at}
use Rattle.mm_frames.specs.Texts.{text_in}
use Rattle.mm_frames.specs.DeletedHeader.{deleted_header_of}
use Rattle.mm_frames.specs.declared.extent_header.ExtentHeader.{ExtentHeader}
use Rattle.mm_frames.specs.declared.rec_header.RecHeader.{RecHeader}
use Rattle.mm_frames.specs.declared.deleted_header.DeletedHeader.{DeletedHeader}
use Rattle.mm_frames.specs.declared.details.Details.{Details}
use Rattle.mm_links.specs.Links.{Place, StandsBefore, has, once, last_of, next_in}
use Rattle.mm_links.proofs.LinkLaws.{same_of, same_not, next_here, next_there, once_parts, has_last, has_before}
use Rattle.mm_extents.specs.Heap.{Cell, extent, live, deleted, Heap, IsHeap, change}
use Rattle.mm_extents.specs.Changes.{loc_or, ofs_or, IsLow, LowOr, KeepsHeaders, taken}
use Rattle.mm_extents.specs.Tiling.{outline, ground}
use Rattle.mm_extents.proofs.FileLaws.{low_place}
use Rattle.mm_extents.proofs.Spots.{low_file}
use Rattle.mm_extents.proofs.Walks.{has_middle}
use Rattle.mm_records.specs.Constants.{constants_of}
use Rattle.mm_records.specs.Shape.{Shape, list_for}
use Rattle.mm_records.specs.Stands.{IsDeleted, DetailsStand, walk, HasNode}
use Rattle.mm_records.specs.Map.{name_at}
use Rattle.mm_records.specs.Passing.{HasExtent, LinkFits, Fits}
use Rattle.mm_records.specs.Freeing.{forward, backward}
use Rattle.mm_records.specs.InHand.{StandsWith}
use Rattle.mm_records.specs.Searching.{IsChosen}
use Rattle.mm_records.specs.Taking.{IsBlockAt, BlockOr, PassFits, IsLastLink, taken_shape, IsTaken}
use Rattle.mm_records.proofs.Passing.{Inside}
use Rattle.mm_records.proofs.Bare.{bare, live_bare, extent_bare, bare_next, bare_first}
use Rattle.mm_records.proofs.Cells.{forward_stays}
use Rattle.mm_records.proofs.Taken.{h1, h2, h3, block1, bare2, isnt_ext}
use Rattle.mm_records.proofs.TakenStands.{ground_same, extents_stand, records_stand, lists_stand, extent_was}
use Rattle.mm_records.proofs.TakenCounts.{own_details, other_details, is_taken}
use Rattle.mm_records.proofs.Lists.{has_before_rest}
use Rattle.mm_records.proofs.Bounds.{few_records, few_bytes}
use Rattle.mm_records.proofs.Continues.{continues, tiled_kept}

no_last : (xs : List Place) (x : Place) → last_of (x ∷ xs) ≡ None → ⊥
no_last [] x e = cc
no_last (y ∷ ys) x e = no_last ys y e

-- what stands before a place in the middle of a list
before_is : (xs ys : List Place) (p : Place) → once (xs ++ p ∷ ys) ≡ true → (o : Option Place) → last_of xs ≡ o → StandsBefore (xs ++ p ∷ ys) o p
before_is [] ys p one None e = refl
before_is [] ys p one (Some x) e = absurd cc
before_is (x ∷ xs) ys p one None e = absurd (no_last xs x e)
before_is (x ∷ []) ys p one (Some y) e = let same_y : x ≡ y = cc in next_here x (p ∷ ys) y (same_of x y same_y)
before_is (x ∷ z ∷ zs) ys p one (Some y) e =
    let t = once_parts x (z ∷ zs ++ p ∷ ys) one in
    next_there x (z ∷ zs ++ p ∷ ys) y (same_not x y (λ f. false≢true (sym t.0 ∙ ap (λ (q : Place). has (z ∷ zs ++ p ∷ ys) q) f ∙ has_before_rest (z ∷ zs) (p ∷ ys) y (has_last (z ∷ zs) y e)))) ∙ before_is (z ∷ zs) ys p t.1 (Some y) e

same_number : (a b : ℕ) → pos a ≡ pos b → a ≡ b
same_number a b e = cc

module _ (image : Image) (free : List ℕ) (s : Shape) (node : ℕ) (d : Details) (r list : ℕ) (link : DiskLoc) (p : Place) (st : StandsWith image free s node d) (b : IsChosen s (name_at image node) r list link p) where
  abbrev name : List ℕ
  name = name_at image node

  on : has (s.lists name list) p ≡ true
  on = ap (λ (xs : List Place). has xs p) b.is ∙ has_middle b.before p b.after

  pub listed : IsDeleted s.heap name list (next_in (s.lists name list) p) p
  listed = st.lists.on_list name list p on

  one_header : (x y : DeletedHeader) (u v : List ℕ) → Some (deleted x u) ≡ Some (deleted y v) → (x ≡ y) × (u ≡ v)
  one_header x y u v e = (let f : x ≡ y = cc in f, let g : u ≡ v = cc in g)

  parts : (listed.h ≡ b.h) × (listed.rest ≡ b.rest)
  parts = one_header listed.h b.h listed.rest b.rest (sym listed.there ∙ b.there)

  pub classed : list_for (16 + length b.rest) ≡ list
  classed = ap (λ (xs : List ℕ). list_for (16 + length xs)) (sym parts.1) ∙ listed.right_list

  pub inside : p.1 + (16 + length b.rest) ≤ length (bytes_at image p.0)
  inside = st.heap.inside p (deleted b.h b.rest) b.there

  pub place : Inside image p.0 p.1 16
  place = let i = inside in record { data_file = st.heap.data_file p (deleted b.h b.rest) b.there; behind = st.heap.behind_header p (deleted b.h b.rest) b.there; inside = omega (arith, i) }

  pub low : IsLow p
  low = low_place image s.heap p (deleted b.h b.rest) st.files st.heap b.there

  pub head_is : (x : DeletedHeader) → x ≡ deleted_header_of (part p.1 16 (bytes_at image p.0)) → x ≡ b.h
  head_is x e = e ∙ (st.heap.shown p (deleted b.h b.rest) b.there).0

  pub len_is : b.h.length_with_headers ≡ pos (16 + length b.rest)
  len_is = (st.tiled.blocks p.0 p.1 (16 + length b.rest) b.h.extent_ofs b.h.length_with_headers (ap (λ (o : Option Cell). option_map outline o) b.there)).1.1.long

  pub ext_some : b.h.extent_ofs ≡ pos listed.of_extent.0
  ext_some = ap (λ (x : DeletedHeader). x.extent_ofs) (sym parts.0) ∙ listed.of_extent.2

  -- ---- the block before it

  abbrev pub before : Option Place
  before = last_of b.before

  stands_in : StandsBefore (s.lists name list) before p
  stands_in = subst (λ (xs : List Place). StandsBefore xs before p) (sym b.is) (before_is b.before b.after p (ap once (sym b.is) ∙ st.lists.no_twice name list) (last_of b.before) refl)

  block_at : (x : Place) → has (s.lists name list) x ≡ true → IsBlockAt s.heap x
  block_at x i = let t = st.lists.on_list name list x i in record { h = t.h; rest = t.rest; is = t.there }

  block_or : (o : Option Place) → StandsBefore (s.lists name list) o p → BlockOr s.heap o
  block_or None z = tt
  block_or (Some x) z = block_at x (has_before (s.lists name list) x p z)

  low_or : (o : Option Place) → BlockOr s.heap o → LowOr o
  low_or None z = tt
  low_or (Some x) z = low_place image s.heap x (deleted z.h z.rest) st.files st.heap z.is

  pub before_low : LowOr before
  before_low = low_or before (block_or before stands_in)

  pub before_block : BlockOr s.heap before
  before_block = block_or before stands_in

  pub pass_asks : (o : Option Place) × PassFits image o link
  pass_asks = (before, record { named = b.link_is; low = before_low; heap = s.heap; is = st.heap; block = before_block })

  not_null : (o : Option Place) → LowOr o → (x : Place) → o ≡ Some x → loc_or o ≡ null → ⊥
  not_null None l x e z = cc
  not_null (Some y) l x e z = (let f : pos y.0 ≡ negsuc 0 = sym (low_file y l).0 ∙ ap (λ (q : DiskLoc). q.file) z in cc)

  -- ---- counts

  pub few : (n : ℕ) × ((n < 2 ^ 62) × (d.nrecords ≡ pos n))
  few = (length (walk s name), (let m = few_records image free s node d st name in omega (arith, m), st.own.nrecords))

  pub small : (n : ℕ) × ((n < 2 ^ 62) × (d.datasize ≡ pos n))
  small = (_, (few_bytes image free s node d st name, st.own.datasize))

  -- ---- the steps, at the offset of the extent that was read

  module _ (e : ℕ) (ext : b.h.extent_ofs ≡ pos e) where
    at : listed.of_extent.0 ≡ e
    at = same_number listed.of_extent.0 e (sym ext_some ∙ ext)

    abbrev hh : ExtentHeader
    hh = listed.of_extent.1

    pub there : s.heap (p.0, e) ≡ Some (extent hh)
    there = ap (λ (x : ℕ). s.heap (p.0, x)) (sym at) ∙ listed.of_extent.3

    named : text_in hh.namespace ≡ name
    named = listed.of_extent.4

    same_list : s.lists (text_in hh.namespace) (list_for (16 + length b.rest)) ≡ s.lists name list
    same_list = λ i. s.lists (named i) (classed i)

    pub stands : StandsBefore (s.lists (text_in hh.namespace) (list_for (16 + length b.rest))) before p
    stands = subst (λ (xs : List Place). StandsBefore xs before p) (sym same_list) stands_in

    abbrev chain : List Place
    chain = s.records (p.0, e)

    last_live : (y : Place) → last_of chain ≡ Some y → (h : RecHeader) × ((room : List ℕ) × (s.heap y ≡ Some (live h room)))
    last_live y f = let x = st.records.on_chain (p.0, e) y (has_last chain y f) in (x.h, (x.room, x.there))

    last_low : (o : Option Place) → last_of chain ≡ o → LowOr o
    last_low None f = tt
    last_low (Some y) f = let x = last_live y f in low_place image s.heap y (live x.0 x.1.0) st.files st.heap x.1.1

    pub last_asks : IsLastLink image (p.0, e) (last_of chain)
    last_asks = record { heap = s.heap; is = st.heap; h = hh; there = there; names = (st.records.ends (p.0, e) hh there (λ z. st.is_node.isnt_free (sym named ∙ z))).last; low = last_low (last_of chain) refl }

    pub one : once (s.lists (text_in hh.namespace) (list_for (16 + length b.rest))) ≡ true
    one = st.lists.no_twice (text_in hh.namespace) (list_for (16 + length b.rest))

    pub blocks : (q : Place) → has (s.lists (text_in hh.namespace) (list_for (16 + length b.rest))) q ≡ true → IsBlockAt s.heap q
    blocks q i = let t = st.lists.on_list (text_in hh.namespace) (list_for (16 + length b.rest)) q i in record { h = t.h; rest = t.rest; is = t.there }

    abbrev my_list : List Place
    my_list = s.lists (text_in hh.namespace) (list_for (16 + length b.rest))

    abbrev t : Shape
    t = taken_shape p e before b.h.next_deleted s

    module _ (z : ℤ) (prev : z ≡ ofs_or (last_of chain)) (i1 : Image) (heap1 : IsHeap i1 (h1 s p b.h b.rest e hh my_list before st.records b.there there one stands blocks)) (k1 : KeepsHeaders image i1) where
      abbrev mid1 : Heap
      mid1 = h1 s p b.h b.rest e hh my_list before st.records b.there there one stands blocks

      abbrev mid2 : Heap
      mid2 = h2 s p b.h b.rest e hh my_list before st.records b.there there one stands blocks

      abbrev mid3 : Heap
      mid3 = h3 s p b.h b.rest e hh my_list before st.records b.there there one stands blocks

      pub live_asks : p.1 + 16 ≤ length (bytes_at i1 p.0)
      live_asks =
          let x = block1 s p b.h b.rest e hh my_list before st.records b.there there one stands blocks in
          let i = heap1.inside p (deleted x.h b.rest) x.is in
          omega (arith, i)

      module _ (i2 : Image) (f2 : (heap : Heap) (h : DeletedHeader) (rest : List ℕ) → IsHeap i1 heap → heap p ≡ Some (deleted h rest) → IsHeap i2 (change p (taken (negsuc 0) z) heap)) where
        heap2 : IsHeap i2 mid2
        heap2 =
            let x = block1 s p b.h b.rest e hh my_list before st.records b.there there one stands blocks in
            subst (λ (y : ℤ). IsHeap i2 (change p (taken (negsuc 0) y) mid1)) prev (f2 mid1 x.h b.rest heap1 x.is)

        extent2 : HasExtent mid2 (p.0, e)
        extent2 =
            let x = extent_bare (mid2 (p.0, e)) hh (bare2 s p b.h b.rest e hh my_list before st.records b.there there one stands blocks (p.0, e) (isnt_ext s p b.h b.rest e hh my_list before st.records b.there there one stands blocks) ∙ ap bare there) in
            record { h = x.h; is = x.is }

        fits_or : (o : Option Place) → last_of chain ≡ o → LinkFits p.0 e (ofs_or o) mid2
        fits_or None f = extent2
        fits_or (Some y) f =
            let l = last_live y f in
            let on_y = has_last chain y f in
            let ne = same_not p y (λ g. (let bad : Some (live l.0 l.1.0) ≡ Some (deleted b.h b.rest) = sym l.1.1 ∙ ap s.heap (sym g) ∙ b.there in cc)) in
            let x = live_bare (mid2 y) l.0 l.1.0 (bare2 s p b.h b.rest e hh my_list before st.records b.there there one stands blocks y ne ∙ ap bare l.1.1) in
            record { h = x.h; room = l.1.0; is = ap (λ (g : ℕ). mid2 (g, y.1)) (sym (st.records.on_chain (p.0, e) y on_y).file) ∙ x.is }

        fits2 : LinkFits p.0 e z mid2
        fits2 = subst (λ (y : ℤ). LinkFits p.0 e y mid2) (sym prev) (fits_or (last_of chain) refl)

        pub forward_asks : Fits i2 p.0 e z
        forward_asks = record { heap = mid2; is = heap2; fits = fits2 }

        module _ (x : ℤ) (x_is : x ≡ pos p.1) (i3 : Image) (f3 : (heap : Heap) → IsHeap i2 heap → LinkFits p.0 e z heap → IsHeap i3 (forward p.0 e z x heap)) where
          heap3 : IsHeap i3 mid3
          heap3 = subst (λ (y : ℤ). IsHeap i3 (forward p.0 e y (pos p.1) mid2)) prev (subst (λ (y : ℤ). IsHeap i3 (forward p.0 e z y mid2)) x_is (f3 mid2 heap2 fits2))

          extent3 : HasExtent mid3 (p.0, e)
          extent3 =
              let y = extent_bare (mid3 (p.0, e)) extent2.h (forward_stays bare bare_next bare_first p.0 e (ofs_or (last_of chain)) (pos p.1) mid2 (p.0, e) ∙ ap bare extent2.is) in
              record { h = y.h; is = y.is }

          pub back_asks : Fits i3 p.0 e (negsuc 0)
          back_asks = record { heap = mid3; is = heap3; fits = extent3 }

          pub heap4 : (i4 : Image) → ((heap : Heap) → IsHeap i3 heap → LinkFits p.0 e (negsuc 0) heap → IsHeap i4 (backward p.0 e x (negsuc 0) heap)) → IsHeap i4 t.heap
          heap4 i4 f4 = subst (λ (y : ℤ). IsHeap i4 (backward p.0 e y (negsuc 0) mid3)) x_is (f4 mid3 heap3 extent3)

    -- all together
    module _ (d' : Details) (i4 : Image) (k : KeepsHeaders image i4) (heap : IsHeap i4 t.heap) (next : DiskLoc) (next_is : next ≡ b.h.next_deleted) (room : ℕ) (room_is : room ≡ length b.rest)
        (head : link ≡ null → slice_index_or d'.deleted list null ≡ next) (linked : link ≢ null → d'.deleted ≡ d.deleted)
        (heads : (i : ℕ) → i < 19 → (i == list) ≡ false → slice_index_or d'.deleted i null ≡ slice_index_or d.deleted i null)
        (first : d'.first_extent ≡ d.first_extent) (last : d'.last_extent ≡ d.last_extent)
        (nrecords : (n : ℕ) → d.nrecords ≡ pos n → d'.nrecords ≡ pos (n + 1)) (datasize : (n : ℕ) → d.datasize ≡ pos n → d'.datasize ≡ pos (n + room))
        (size : d'.last_extent_size ≡ d.last_extent_size) (constants : constants_of d' ≡ constants_of d) where
      own : DetailsStand t (text_in hh.namespace) d'
      own = own_details s p b.h b.rest e hh before st.extents st.records st.lists b.there ext there stands d d' (subst (λ (n : List ℕ). DetailsStand s n d) (sym named) st.own) first last
          (λ f. ap (λ (j : ℕ). slice_index_or d'.deleted j null) classed ∙ head (b.link_is ∙ ap loc_or f) ∙ next_is)
          (λ x f. ap (λ (xs : List DiskLoc). slice_index_or xs (list_for (16 + length b.rest)) null) (linked (λ g. not_null before before_low x f (sym b.link_is ∙ g))))
          (λ i lt ne. heads i lt (ap (λ (j : ℕ). i == j) (sym classed) ∙ ne)) nrecords (λ n f. datasize n f ∙ ap (λ (m : ℕ). pos (n + m)) room_is) size constants

      pub stands_taken : StandsWith i4 free t node d'
      stands_taken = continues image free s node d st i4 k t d' heap
          (tiled_kept image i4 free (ground s.heap) (ground t.heap) k (ground_same s p b.h b.rest e hh before st.extents st.records st.lists b.there ext there stands) st.tiled)
          (extents_stand s p b.h b.rest e hh before st.extents st.records st.lists b.there ext there stands)
          (λ q g i. let x = extent_was s p b.h b.rest e hh before st.extents st.records st.lists b.there ext there stands q g i in subst (λ (m : List ℕ). HasNode image (text_in m)) x.name_is (st.owners q x.h x.is))
          (records_stand s p b.h b.rest e hh before st.extents st.records st.lists b.there ext there stands)
          (lists_stand s p b.h b.rest e hh before st.extents st.records st.lists b.there ext there stands)
          (subst (λ (n : List ℕ). DetailsStand t n d') named own)
          (λ m x ne ds. other_details s p b.h b.rest e hh before st.extents st.records st.lists b.there ext there stands m x (λ f. ne (f ∙ named)) ds) refl

    pub is_taken_now : IsTaken s t name p b.rest
    is_taken_now = subst (λ (n : List ℕ). IsTaken s t n p b.rest) named (is_taken s p b.h b.rest e hh before st.extents st.records st.lists b.there ext there stands)
