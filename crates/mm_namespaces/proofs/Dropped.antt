-- After a namespace was dropped, chains, lists and counts of the others stand again.
use Rattle.std.proofs.Common.{◌≡◌, ◌≢◌, ℕ, ℤ, pos, ◌+◌, inl, inr, true, false, List, [], ◌∷◌, ◌++◌, length, Option, Some, None, refl, sym, ◌∙◌, ap, subst, arith}
use Rattle.std.specs.Prelude.{if◌then◌else◌, flat_map, sum_by}
use Rattle.std.specs.Option.{option_map}
use Rattle.std.proofs.lemmas.Bool.{cases_Bool, false≢true}
use Rattle.std.proofs.lemmas.List.Sums.{sum_by-cons}
use Rattle.mm_base.specs.declared.place.DiskLoc.{DiskLoc}
use Rattle.mm_ranges.specs.Overlay.{Image}
use Rattle.mm_frames.specs.Texts.{text_in}
use Rattle.mm_frames.specs.declared.details.Details.{Details}
use Rattle.mm_frames.specs.declared.extent_header.ExtentHeader.{ExtentHeader}
use Rattle.mm_frames.specs.declared.rec_header.RecHeader.{RecHeader}
use Rattle.mm_frames.specs.declared.deleted_header.DeletedHeader.{DeletedHeader}
use Rattle.mm_frames.specs.declared.free_ends.FreeEnds.{FreeEnds}
use Rattle.mm_links.specs.Links.{Place, has, once, first_of, last_of, next_in, IsLinked}
use Rattle.mm_links.proofs.LinkLaws.{if_true, if_false, has_here, has_more, has_last, same_own, same_not, relinked}
use Rattle.mm_extents.specs.Heap.{Cell, extent, live, deleted, Heap}
use Rattle.mm_extents.specs.Changes.{loc_or, ofs_or}
use Rattle.mm_extents.specs.Files.{unused_in}
use Rattle.mm_extents.specs.Tiling.{an_extent, a_block, outline, ground, IsTiled}
use Rattle.mm_extents.specs.Chains.{ext_next, ext_prev, ExtentsStand}
use Rattle.mm_extents.specs.FreeExtents.{HasFree, without_links}
use Rattle.mm_extents.specs.Dropping.{AreFreed, header_freed}
use Rattle.mm_records.specs.Constants.{is_name}
use Rattle.mm_records.specs.Shape.{Shape, list_for, rec_next, rec_prev}
use Rattle.mm_records.specs.Stands.{Stands, RecordsStand, ListsStand, DetailsStand, IsRecord, IsDeleted, NamesEnds, walk, room_of, ext_len, len_at}
use Rattle.mm_records.specs.Map.{ofs_of, extent_of, owner, live_room, live_at}
use Rattle.mm_records.proofs.Freed.{name_is, name_own}
use Rattle.mm_records.proofs.Bounds.{has_flat}
use Rattle.mm_records.proofs.Lists.{has_before_rest}
use Rattle.mm_records.proofs.Owning.{lives, extent_there}
use Rattle.mm_namespaces.specs.Dropped.{IsDropped}
use Rattle.mm_namespaces.proofs.Apart as a
use Rattle.mm_namespaces.proofs.Apart.{has_behind, extent_off}

unlinked_none : {A : Type 0} (of : Option Place → A) (next prev : Place → A) → IsLinked of [] next prev
unlinked_none of next prev = record { no_twice = refl; behind = λ p h. absurd (false≢true h); before = λ p q e. absurd cc; first = λ p e. absurd cc }

one_extent : (x y : ExtentHeader) → Some (extent x) ≡ Some (extent y) → x ≡ y
one_extent x y e = cc

-- but for their links two extents are alike
link_len : (x y : ExtentHeader) → without_links (Some (extent x)) ≡ without_links (Some (extent y)) → x.len ≡ y.len
link_len x y e = ap ext_len e

one_ofs : (x y : ℕ) → pos x ≡ pos y → x ≡ y
one_ofs x y e = cc

same_name : (m m' : ℕ) (l l' : DiskLoc) (x y : List ℕ) (u v : ℤ) → Some (an_extent m l x u) ≡ Some (an_extent m' l' y v) → text_in x ≡ text_in y
same_name m m' l l' x y u v e = (let k : x ≡ y = cc in ap text_in k)

-- the extent of a block has no free one's name
pub home_named : (heap : Heap) (unused : ℕ → Option ℤ) (free : List ℕ) (t : IsTiled (ground heap) unused free) (q : Place) (ext len : ℤ) (k x : ℕ) (hh : ExtentHeader)
    → ground heap q ≡ Some (a_block ext len k) → ext ≡ pos x → heap (q.0, x) ≡ Some (extent hh) → text_in hh.namespace ≢ free
home_named heap unused free t q ext len k x hh e is there z =
    let b = t.blocks q.0 q.1 k ext len e in
    let at : b.0 ≡ x = one_ofs b.0 x (sym b.1.1.extent_place ∙ is) in
    b.1.1.of_extent.isnt_free (same_name b.1.1.of_extent.magic hh.magic b.1.1.of_extent.here hh.my_loc b.1.1.of_extent.name hh.namespace (pos b.1.0) hh.len
    (sym b.1.1.of_extent.is ∙ ap (λ (y : ℕ). ground heap (q.0, y)) at ∙ ap (λ (o : Option Cell). option_map outline o) there) ∙ z)

-- the extent of a block
pub home_there : (heap : Heap) (unused : ℕ → Option ℤ) (free : List ℕ) (t : IsTiled (ground heap) unused free) (q : Place) (ext len : ℤ) (k x : ℕ) → ground heap q ≡ Some (a_block ext len k) → ext ≡ pos x → (hh : ExtentHeader) × (heap (q.0, x) ≡ Some (extent hh))
home_there heap unused free t q ext len k x e is =
    let b = t.blocks q.0 q.1 k ext len e in
    let at : b.0 ≡ x = one_ofs b.0 x (sym b.1.1.extent_place ∙ is) in
    let o = b.1.1.of_extent in
    extent_there (heap (q.0, x)) o.magic o.here o.name (pos b.1.0) (ap (λ (y : ℕ). ground heap (q.0, y)) (sym at) ∙ o.is)

flat_same : (r r' : Place → List Place) (es : List Place) → ((e : Place) → has es e ≡ true → r' e ≡ r e) → flat_map r' es ≡ flat_map r es
flat_same r r' [] f = refl
flat_same r r' (e ∷ es) f = (λ i. f e (has_here e es e (same_own e)) i ++ flat_same r r' es (λ x h. f x (has_more e es x h)) i)

sum_same : (w v : Place → ℕ) (xs : List Place) → ((q : Place) → has xs q ≡ true → v q ≡ w q) → sum_by v xs ≡ sum_by w xs
sum_same w v [] f = refl
sum_same w v (x ∷ xs) f =
    let here = f x (has_here x xs x (same_own x)) in
    let rest = sum_same w v xs (λ q h. f q (has_more x xs q h)) in
    let p = sum_by-cons w x xs in
    let q = sum_by-cons v x xs in
    omega (arith, here, rest, p, q)

-- the extent of a live record
pub record Home (free : List ℕ) (heap : Heap) (m : List ℕ) (p : Place) (h : RecHeader) (room : List ℕ) : Type 0 where
  pub a : ℕ
  pub ext : h.extent_ofs ≡ pos a
  pub hh : ExtentHeader
  pub there : heap (p.0, a) ≡ Some (extent hh)
  pub named : text_in hh.namespace ≡ m
  pub isnt_free : text_in hh.namespace ≢ free
  pub block : ground heap p ≡ Some (a_block h.extent_ofs h.length_with_headers (16 + length room))

-- a live record of an extent is one of its namespace
pub live_made : (t : Shape) (m : List ℕ) (p : Place) (h : RecHeader) (room : List ℕ) (x : ℕ) (hh : ExtentHeader) → t.heap p ≡ Some (live h room) → h.extent_ofs ≡ pos x → t.heap (p.0, x) ≡ Some (extent hh) → text_in hh.namespace ≡ m
    → live_at t m p ≡ Some room
live_made t m p h room x hh here ext there named =
    let home : extent_of p (t.heap p) ≡ (p.0, x) = ap (extent_of p) here ∙ (λ i. (p.0, ofs_of (ext i))) in
    let owned : owner (t.heap (extent_of p (t.heap p))) ≡ m = ap (λ (q : Place). owner (t.heap q)) home ∙ ap owner there ∙ named in
    if_true (is_name (owner (t.heap (extent_of p (t.heap p)))) m) (live_room (t.heap p)) None (name_own (owner (t.heap (extent_of p (t.heap p)))) m owned) ∙ ap live_room here

module _ (image now : Image) (free name : List ℕ) (s : Shape) (st : Stands image free s) (ends : FreeEnds) (isnt : name ≢ free) (th : Heap)
    (f : HasFree now free th (s.extents free ++ s.extents name) ends) (fr : AreFreed s.heap th free (s.extents free) (s.extents name)) where
  abbrev ps : List Place
  ps = s.extents name

  abbrev chain : List Place
  chain = s.extents free

  abbrev pub new : Shape
  new = record {
    heap = th;
    extents = λ m. if is_name m free then chain ++ ps else (if is_name m name then [] else s.extents m);
    records = λ e. if has ps e then [] else s.records e;
    lists = λ m i. if is_name m name then [] else s.lists m i;
  }

  -- ---- what each name has

  pub of_free : (m : List ℕ) → is_name m free ≡ true → new.extents m ≡ chain ++ ps
  of_free m y = if_true (is_name m free) (chain ++ ps) (if is_name m name then [] else s.extents m) y

  of_own : (m : List ℕ) → is_name m free ≡ false → is_name m name ≡ true → new.extents m ≡ []
  of_own m n y = if_false (is_name m free) (chain ++ ps) (if is_name m name then [] else s.extents m) n ∙ if_true (is_name m name) [] (s.extents m) y

  of_other : (m : List ℕ) → is_name m free ≡ false → is_name m name ≡ false → new.extents m ≡ s.extents m
  of_other m n k = if_false (is_name m free) (chain ++ ps) (if is_name m name then [] else s.extents m) n ∙ if_false (is_name m name) [] (s.extents m) k

  records_other : (e : Place) → has ps e ≡ false → new.records e ≡ s.records e
  records_other e n = if_false (has ps e) [] (s.records e) n

  lists_other : (m : List ℕ) (i : ℕ) → is_name m name ≡ false → new.lists m i ≡ s.lists m i
  lists_other m i n = if_false (is_name m name) [] (s.lists m i) n

  isnt_name : (m k : List ℕ) → is_name m k ≡ false → m ≢ k
  isnt_name m k n e = false≢true (sym n ∙ name_own m k e)

  name_off : (m k : List ℕ) → m ≢ k → is_name m k ≡ false
  name_off m k ne = elim (cases_Bool (is_name m k)) [ inl y ↦ absurd (ne (name_is m k y)) | inr n ↦ n ]

  -- an extent that isn't free now isn't the namespace's
  off_own : (q : Place) (h : ExtentHeader) → th q ≡ Some (extent h) → text_in h.namespace ≢ free → has ps q ≡ false
  off_own q h e nf = elim (cases_Bool (has ps q)) [
    | inl y ↦ (let x = a.now_free image now free name s st ends isnt th f fr q y in absurd (nf (ap (λ (z : ExtentHeader). text_in z.namespace) (one_extent h x.0 (sym e ∙ x.1)) ∙ x.2)))
    | inr n ↦ n
  ]

  pub off_name : (q : Place) (h : ExtentHeader) → th q ≡ Some (extent h) → s.heap q ≡ Some (extent h) → text_in h.namespace ≢ free → text_in h.namespace ≢ name
  off_name q h e i nf z = false≢true (sym (off_own q h e nf) ∙ subst (λ (m : List ℕ). has (s.extents m) q ≡ true) z (st.extents.all q h i))

  -- ---- the chains of extents

  on_other : (m : List ℕ) (q : Place) → m ≢ free → m ≢ name → has (s.extents m) q ≡ true → th q ≡ s.heap q
  on_other m q nf nn i = let x = st.extents.on_chain m q i in a.extent_stays image now free name s st ends isnt th f fr q x.0 x.1 (λ z. nf (sym x.2 ∙ z)) (λ z. nn (sym x.2 ∙ z))

  abbrev Links : List Place → Type 0
  Links xs = IsLinked loc_or xs (λ q. ext_next (th q)) (λ q. ext_prev (th q))

  linked_now : (m : List ℕ) → Links (new.extents m)
  linked_now m = elim (cases_Bool (is_name m free)) [
    | inl y ↦ subst Links (sym (of_free m y)) f.linked
    | inr n ↦ elim (cases_Bool (is_name m name)) [
      | inl y ↦ subst Links (sym (of_own m n y)) (unlinked_none loc_or (λ q. ext_next (th q)) (λ q. ext_prev (th q)))
      | inr k ↦ subst Links (sym (of_other m n k)) (relinked loc_or (s.extents m) (λ q. ext_next (s.heap q)) (λ q. ext_prev (s.heap q)) (λ q. ext_next (th q)) (λ q. ext_prev (th q)) (st.extents.linked m)
          (λ q i. ap ext_next (on_other m q (isnt_name m free n) (isnt_name m name k) i)) (λ q i. ap ext_prev (on_other m q (isnt_name m free n) (isnt_name m name k) i)))
    ]
  ]

  abbrev OnChains : List ℕ → Place → Type 0
  OnChains m q = (h : ExtentHeader) × (th q ≡ Some (extent h)) × (text_in h.namespace ≡ m)

  on_chain_now : (m : List ℕ) (q : Place) → has (new.extents m) q ≡ true → OnChains m q
  on_chain_now m q i = elim (cases_Bool (is_name m free)) [
    | inl y ↦ (let x = f.on_chain q (ap (λ (xs : List Place). has xs q) (sym (of_free m y)) ∙ i) in (x.0, x.1, x.2 ∙ sym (name_is m free y)))
    | inr n ↦ elim (cases_Bool (is_name m name)) [
      | inl y ↦ absurd (false≢true (ap (λ (xs : List Place). has xs q) (sym (of_own m n y)) ∙ i))
      | inr k ↦
          let on = ap (λ (xs : List Place). has xs q) (sym (of_other m n k)) ∙ i in
          let x = st.extents.on_chain m q on in
          (x.0, on_other m q (isnt_name m free n) (isnt_name m name k) on ∙ x.1, x.2)
    ]
  ]

  all_now : (q : Place) (h : ExtentHeader) → th q ≡ Some (extent h) → has (new.extents (text_in h.namespace)) q ≡ true
  all_now q h e = elim (cases_Bool (is_name (text_in h.namespace) free)) [
    | inl y ↦ ap (λ (xs : List Place). has xs q) (of_free (text_in h.namespace) y) ∙ on_free (name_is (text_in h.namespace) free y)
    | inr n ↦
        let nf = isnt_name (text_in h.namespace) free n in
        let was = sym (a.extent_stood image now free name s st ends isnt th f fr q h e nf) ∙ e in
        ap (λ (xs : List Place). has xs q) (of_other (text_in h.namespace) n (name_off (text_in h.namespace) name (off_name q h e was nf))) ∙ st.extents.all q h was
  ]
    where
      neither : has chain q ≡ false → has ps q ≡ false → th q ≡ s.heap q
      neither c o = fr.same_off q c o (λ p g n on i l. let x = a.now_free image now free name s st ends isnt th f fr p on in extent_off th (unused_in now) free f.tiled p x.0 n x.1 (a.same_len image now free name s st ends isnt th f fr p g n on i l) q h e)

      on_free : text_in h.namespace ≡ free → has (chain ++ ps) q ≡ true
      on_free z = elim (cases_Bool (has chain q)) [
        | inl y ↦ has_before_rest chain ps q y
        | inr n ↦ elim (cases_Bool (has ps q)) [
          | inl y ↦ has_behind chain ps q y
          | inr k ↦ has_before_rest chain ps q (subst (λ (m : List ℕ). has (s.extents m) q ≡ true) z (st.extents.all q h (sym (neither n k) ∙ e)))
        ]
      ]

  pub extents_dropped : ExtentsStand new.heap new.extents
  extents_dropped = record { linked = linked_now; on_chain = on_chain_now; all = all_now }

  -- ---- the chains of records

  record_stays : (e q : Place) → has ps e ≡ false → IsRecord s.heap e q → th q ≡ s.heap q
  record_stays e q off r =
      let block : ground s.heap q ≡ Some (a_block r.h.extent_ofs r.h.length_with_headers (16 + length r.room)) = ap (λ (o : Option Cell). option_map outline o) r.there in
      let home = home_there s.heap (unused_in image) free st.tiled q r.h.extent_ofs r.h.length_with_headers (16 + length r.room) e.1 block r.of_extent in
      let place : (q.0, e.1) ≡ e = (λ i. (r.file i, e.1)) in
      a.block_stays image now free name s st ends isnt th f fr q r.h.extent_ofs r.h.length_with_headers (16 + length r.room) e.1 home.0 block r.of_extent home.1
      (λ z. false≢true (sym off ∙ ap (has ps) (sym place) ∙ subst (λ (m : List ℕ). has (s.extents m) (q.0, e.1) ≡ true) z (st.extents.all (q.0, e.1) home.0 home.1)))

  linked_records : (e : Place) → IsLinked ofs_or (new.records e) (λ q. rec_next (th q)) (λ q. rec_prev (th q))
  linked_records e = elim (cases_Bool (has ps e)) [
    | inl y ↦ subst (λ (xs : List Place). IsLinked ofs_or xs (λ q. rec_next (th q)) (λ q. rec_prev (th q))) (sym (if_true (has ps e) [] (s.records e) y)) (unlinked_none ofs_or (λ q. rec_next (th q)) (λ q. rec_prev (th q)))
    | inr n ↦ subst (λ (xs : List Place). IsLinked ofs_or xs (λ q. rec_next (th q)) (λ q. rec_prev (th q))) (sym (records_other e n))
        (relinked ofs_or (s.records e) (λ q. rec_next (s.heap q)) (λ q. rec_prev (s.heap q)) (λ q. rec_next (th q)) (λ q. rec_prev (th q)) (st.records.linked e)
        (λ q i. ap rec_next (record_stays e q n (st.records.on_chain e q i))) (λ q i. ap rec_prev (record_stays e q n (st.records.on_chain e q i))))
  ]

  on_records : (e q : Place) → has (new.records e) q ≡ true → IsRecord th e q
  on_records e q i = elim (cases_Bool (has ps e)) [
    | inl y ↦ absurd (false≢true (ap (λ (xs : List Place). has xs q) (sym (if_true (has ps e) [] (s.records e) y)) ∙ i))
    | inr n ↦ (let r = st.records.on_chain e q (ap (λ (xs : List Place). has xs q) (sym (records_other e n)) ∙ i) in record { h = r.h; room = r.room; there = record_stays e q n r ∙ r.there; file = r.file; of_extent = r.of_extent })
  ]

  -- the extent of what stands in one now
  home_off : (q : Place) (ext len : ℤ) (k x : ℕ) → ground th q ≡ Some (a_block ext len k) → ext ≡ pos x → has ps (q.0, x) ≡ false
  home_off q ext len k x e is =
      let home = home_there th (unused_in now) free f.tiled q ext len k x e is in
      off_own (q.0, x) home.0 home.1 (home_named th (unused_in now) free f.tiled q ext len k x home.0 e is home.1)

  all_records : (q : Place) (h : RecHeader) (room : List ℕ) (x : ℕ) → th q ≡ Some (live h room) → h.extent_ofs ≡ pos x → has (new.records (q.0, x)) q ≡ true
  all_records q h room x e is =
      let block : ground th q ≡ Some (a_block h.extent_ofs h.length_with_headers (16 + length room)) = ap (λ (o : Option Cell). option_map outline o) e in
      let stood = a.block_stood image now free name s st ends isnt th f fr q h.extent_ofs h.length_with_headers (16 + length room) block in
      ap (λ (xs : List Place). has xs q) (records_other (q.0, x) (home_off q h.extent_ofs h.length_with_headers (16 + length room) x block is)) ∙ st.records.all q h room x (sym stood ∙ e) is

  ends_now : (e : Place) (h : ExtentHeader) → th e ≡ Some (extent h) → text_in h.namespace ≢ free → NamesEnds h (new.records e)
  ends_now e h i nf = subst (λ (xs : List Place). NamesEnds h xs) (sym (records_other e (off_own e h i nf))) (st.records.ends e h (sym (a.extent_stood image now free name s st ends isnt th f fr e h i nf) ∙ i) nf)

  pub records_dropped : RecordsStand free new
  records_dropped = record { linked = linked_records; on_chain = on_records; all = all_records; ends = ends_now }

  -- ---- the lists

  cell_stays : (m : List ℕ) (i : ℕ) (o : Option Place) (q : Place) → m ≢ name → IsDeleted s.heap m i o q → th q ≡ s.heap q
  cell_stays m i o q nn d =
      let block : ground s.heap q ≡ Some (a_block d.h.extent_ofs d.h.length_with_headers (16 + length d.rest)) = ap (λ (c : Option Cell). option_map outline c) d.there in
      a.block_stays image now free name s st ends isnt th f fr q d.h.extent_ofs d.h.length_with_headers (16 + length d.rest) d.of_extent.0 d.of_extent.1 block d.of_extent.2 d.of_extent.3
      (λ z. nn (sym d.of_extent.4 ∙ z))

  list_stays : (m : List ℕ) (i : ℕ) (q : Place) → m ≢ name → IsDeleted s.heap m i (next_in (s.lists m i) q) q → IsDeleted th m i (next_in (s.lists m i) q) q
  list_stays m i q nn d =
      let block : ground s.heap q ≡ Some (a_block d.h.extent_ofs d.h.length_with_headers (16 + length d.rest)) = ap (λ (o : Option Cell). option_map outline o) d.there in
      let hh = d.of_extent.1 in
      let nn' : text_in hh.namespace ≢ name = (λ z. nn (sym d.of_extent.4 ∙ z)) in
      let nf = home_named s.heap (unused_in image) free st.tiled q d.h.extent_ofs d.h.length_with_headers (16 + length d.rest) d.of_extent.0 hh block d.of_extent.2 d.of_extent.3 in
      record {
        h = d.h;
        rest = d.rest;
        there = cell_stays m i (next_in (s.lists m i) q) q nn d ∙ d.there;
        names_next = d.names_next;
        right_list = d.right_list;
        of_extent = (d.of_extent.0, hh, d.of_extent.2, a.extent_stays image now free name s st ends isnt th f fr (q.0, d.of_extent.0) hh d.of_extent.3 nf nn' ∙ d.of_extent.3, d.of_extent.4);
      }

  pub lists_dropped : ListsStand new
  lists_dropped = record {
    no_twice = λ m i. elim (cases_Bool (is_name m name)) [
      | inl y ↦ ap once (if_true (is_name m name) [] (s.lists m i) y)
      | inr n ↦ ap once (lists_other m i n) ∙ st.lists.no_twice m i
    ];
    on_list = λ m i q x. elim (cases_Bool (is_name m name)) [
      | inl y ↦ absurd (false≢true (ap (λ (xs : List Place). has xs q) (sym (if_true (is_name m name) [] (s.lists m i) y)) ∙ x))
      | inr n ↦ subst (λ (xs : List Place). IsDeleted th m i (next_in xs q) q) (sym (lists_other m i n)) (list_stays m i q (isnt_name m name n) (st.lists.on_list m i q (ap (λ (xs : List Place). has xs q) (sym (lists_other m i n)) ∙ x)))
    ];
    all = all_lists;
  }
    where
      all_lists : (q : Place) (g : DeletedHeader) (r : List ℕ) (b : ℕ) (xh : ExtentHeader) → th q ≡ Some (deleted g r) → g.extent_ofs ≡ pos b → th (q.0, b) ≡ Some (extent xh) → has (new.lists (text_in xh.namespace) (list_for (16 + length r))) q ≡ true
      all_lists q g r b xh e is there =
          let block : ground th q ≡ Some (a_block g.extent_ofs g.length_with_headers (16 + length r)) = ap (λ (o : Option Cell). option_map outline o) e in
          let nf = home_named th (unused_in now) free f.tiled q g.extent_ofs g.length_with_headers (16 + length r) b xh block is there in
          let was = sym (a.extent_stood image now free name s st ends isnt th f fr (q.0, b) xh there nf) ∙ there in
          let stood = sym (a.block_stood image now free name s st ends isnt th f fr q g.extent_ofs g.length_with_headers (16 + length r) block) ∙ e in
          ap (λ (xs : List Place). has xs q) (lists_other (text_in xh.namespace) (list_for (16 + length r)) (name_off (text_in xh.namespace) name (off_name (q.0, b) xh there was nf))) ∙ st.lists.all q g r b xh stood is was

  -- ---- the counts of another namespace

  module _ (m : List ℕ) (nf : m ≢ free) (nn : m ≢ name) where
    same_extents : new.extents m ≡ s.extents m
    same_extents = of_other m (name_off m free nf) (name_off m name nn)

    off_extent : (e : Place) → has (s.extents m) e ≡ true → has ps e ≡ false
    off_extent e i = elim (cases_Bool (has ps e)) [
      | inl y ↦ (let x = st.extents.on_chain m e i in let z = st.extents.on_chain name e y in absurd (nn (sym x.2 ∙ ap (λ (h : ExtentHeader). text_in h.namespace) (one_extent x.0 z.0 (sym x.1 ∙ z.1)) ∙ z.2)))
      | inr n ↦ n
    ]

    same_walk : walk new m ≡ walk s m
    same_walk = ap (flat_map new.records) same_extents ∙ flat_same s.records new.records (s.extents m) (λ e i. records_other e (off_extent e i))

    same_sum : sum_by (λ q. room_of (th q)) (walk s m) ≡ sum_by (λ q. room_of (s.heap q)) (walk s m)
    same_sum = sum_same (λ q. room_of (s.heap q)) (λ q. room_of (th q)) (walk s m) (λ q i. let o = has_flat s.records (s.extents m) q i in ap room_of (record_stays o.e q (off_extent o.e o.on) (st.records.on_chain o.e q o.has)))

    same_size : (o : Option Place) → last_of (s.extents m) ≡ o → len_at th o ≡ len_at s.heap o
    same_size None e = refl
    same_size (Some q) e = ap (λ (c : Option Cell). len_at (λ _. c) (Some q)) (on_other m q nf nn (has_last (s.extents m) q e))

    pub details_dropped : (d : Details) → DetailsStand s m d → DetailsStand new m d
    details_dropped d ds = record {
      first = ds.first ∙ ap (λ (xs : List Place). loc_or (first_of xs)) (sym same_extents);
      last = ds.last ∙ ap (λ (xs : List Place). loc_or (last_of xs)) (sym same_extents);
      heads = λ i lt. ds.heads i lt ∙ ap (λ (xs : List Place). loc_or (first_of xs)) (sym (lists_other m i (name_off m name nn)));
      nrecords = ds.nrecords ∙ ap (λ (xs : List Place). pos (length xs)) (sym same_walk);
      datasize = ds.datasize ∙ ap (λ (n : ℕ). pos n) (sym same_sum ∙ ap (λ (xs : List Place). sum_by (λ q. room_of (th q)) xs) (sym same_walk));
      last_size = ds.last_size ∙ sym (same_size (last_of (s.extents m)) refl) ∙ ap (λ (xs : List Place). len_at th (last_of xs)) (sym same_extents);
      constants = ds.constants;
    }

  -- ---- the map

  -- a record's extent
  home_of : (heap : Heap) (unused : ℕ → Option ℤ) (t : IsTiled (ground heap) unused free) (m : List ℕ) (p : Place) (h : RecHeader) (room : List ℕ) → heap p ≡ Some (live h room) → owner (heap (p.0, ofs_of h.extent_ofs)) ≡ m → Home free heap m p h room
  home_of heap unused t m p h room e owned =
      let block : ground heap p ≡ Some (a_block h.extent_ofs h.length_with_headers (16 + length room)) = ap (λ (o : Option Cell). option_map outline o) e in
      let b = t.blocks p.0 p.1 (16 + length room) h.extent_ofs h.length_with_headers block in
      let home = home_there heap unused free t p h.extent_ofs h.length_with_headers (16 + length room) b.0 block b.1.1.extent_place in
      record {
        a = b.0;
        ext = b.1.1.extent_place;
        hh = home.0;
        there = home.1;
        named = sym (ap owner home.1) ∙ ap (λ (z : ℤ). owner (heap (p.0, ofs_of z))) (sym b.1.1.extent_place) ∙ owned;
        isnt_free = home_named heap unused free t p h.extent_ofs h.length_with_headers (16 + length room) b.0 home.0 block b.1.1.extent_place home.1;
        block = block;
      }

  -- a live record of the new shape was one of the old, and isn't the namespace's
  live_back : (m : List ℕ) (p : Place) (room : List ℕ) → live_at new m p ≡ Some room → (live_at s m p ≡ Some room) × (m ≢ name)
  live_back m p room e =
      let l = lives new m p room e in
      let o = home_of th (unused_in now) f.tiled m p l.h room l.here l.owned in
      let stood = a.block_stood image now free name s st ends isnt th f fr p l.h.extent_ofs l.h.length_with_headers (16 + length room) o.block in
      let was = sym (a.extent_stood image now free name s st ends isnt th f fr (p.0, o.a) o.hh o.there o.isnt_free) ∙ o.there in
      (live_made s m p l.h room o.a o.hh (sym stood ∙ l.here) o.ext was o.named, λ z. off_name (p.0, o.a) o.hh o.there was o.isnt_free (o.named ∙ z))

  live_forth : (m : List ℕ) (p : Place) (room : List ℕ) → m ≢ name → live_at s m p ≡ Some room → live_at new m p ≡ Some room
  live_forth m p room nn e =
      let l = lives s m p room e in
      let o = home_of s.heap (unused_in image) st.tiled m p l.h room l.here l.owned in
      let nn' : text_in o.hh.namespace ≢ name = (λ z. nn (sym o.named ∙ z)) in
      let here = a.block_stays image now free name s st ends isnt th f fr p l.h.extent_ofs l.h.length_with_headers (16 + length room) o.a o.hh o.block o.ext o.there nn' in
      let home = a.extent_stays image now free name s st ends isnt th f fr (p.0, o.a) o.hh o.there o.isnt_free nn' in
      live_made new m p l.h room o.a o.hh (here ∙ l.here) o.ext (home ∙ o.there) o.named

  -- ---- the layout

  deleted_stays : (m : List ℕ) (i : ℕ) (q : Place) → m ≢ name → has (s.lists m i) q ≡ true → th q ≡ s.heap q
  deleted_stays m i q nn on = cell_stays m i (next_in (s.lists m i) q) q nn (st.lists.on_list m i q on)

  -- a free extent keeps its length
  free_len : (e : Place) (h : ExtentHeader) → s.heap e ≡ Some (extent h) → text_in h.namespace ≡ free → (g : ExtentHeader) × (th e ≡ Some (extent g)) × (g.len ≡ h.len)
  free_len e h i z =
      let x = a.still_free image now free name s st ends isnt th f fr e (subst (λ (m : List ℕ). has (s.extents m) e ≡ true) z (st.extents.all e h i)) in
      let o = fr.others e (λ p g n on here l. (same_not p e (λ k. isnt (sym (own p g on here) ∙ ap (λ (y : ExtentHeader). text_in y.namespace) (one_extent g h (sym here ∙ ap s.heap k ∙ i)) ∙ z)), extent_off s.heap (unused_in image) free st.tiled p g n here l e h i)) in
      (x.0, x.1, link_len x.0 h (ap without_links (sym x.1) ∙ o ∙ ap without_links i))
    where
      own : (p : Place) (g : ExtentHeader) → has ps p ≡ true → s.heap p ≡ Some (extent g) → text_in g.namespace ≡ name
      own p g on here = (let x = st.extents.on_chain name p on in ap (λ (y : ExtentHeader). text_in y.namespace) (one_extent g x.0 (sym here ∙ x.1)) ∙ x.2)

  lengths_stay : (e : Place) (h : ExtentHeader) → s.heap e ≡ Some (extent h) → (g : ExtentHeader) × (th e ≡ Some (extent g)) × (g.len ≡ h.len)
  lengths_stay e h i = elim (cases_Bool (is_name (text_in h.namespace) name)) [
    | inl y ↦
        let x = fr.freed e h (subst (λ (m : List ℕ). has (s.extents m) e ≡ true) (name_is (text_in h.namespace) name y) (st.extents.all e h i)) i in
        (record (header_freed e free h.len x.1.0) { xnext = x.0 }, x.1.1, refl)
    | inr n ↦ elim (cases_Bool (is_name (text_in h.namespace) free)) [
      | inl y ↦ free_len e h i (name_is (text_in h.namespace) free y)
      | inr k ↦ (h, a.extent_stays image now free name s st ends isnt th f fr e h i (isnt_name (text_in h.namespace) free k) (isnt_name (text_in h.namespace) name n) ∙ i, refl)
    ]
  ]

  pub is_dropped : IsDropped s new free name
  is_dropped = record {
    gone = λ p. none_at p (live_at new name p) refl;
    others = λ m p nn. both m p nn (live_at new m p) (live_at s m p) refl refl;
    extents = λ m. refl;
    records = λ e. refl;
    lists = λ m i. refl;
    lengths = lengths_stay;
    live_stay = λ e p off on. record_stays e p off (st.records.on_chain e p on);
    deleted_stay = deleted_stays;
  }
    where
      none_at : (p : Place) (o : Option (List ℕ)) → live_at new name p ≡ o → live_at new name p ≡ None
      none_at p None e = e
      none_at p (Some room) e = absurd ((live_back name p room e).1 refl)

      both : (m : List ℕ) (p : Place) → m ≢ name → (o u : Option (List ℕ)) → live_at new m p ≡ o → live_at s m p ≡ u → live_at new m p ≡ live_at s m p
      both m p nn (Some room) u e g = e ∙ sym (live_back m p room e).0
      both m p nn None None e g = e ∙ sym g
      both m p nn None (Some room) e g = absurd (let z : None ≡ Some room = sym e ∙ live_forth m p room nn g in cc)
