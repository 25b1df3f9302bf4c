-- A free extent is taken out of its chain and becomes one of a namespace.
use Rattle.std.proofs.Common.{◌≡◌, ◌≢◌, ℕ, ℤ, pos, negsuc, ◌+◌, ◌-◌, ◌<◌, ◌≤◌, inl, inr, true, false, List, [], length, Option, Some, None, refl, sym, ◌∙◌, ap, subst, arith}
use Rattle.std.specs.Prelude.{if◌then◌else◌, unwrap_or, nat_lt}
use Rattle.std.specs.Option.{option_map}
use Rattle.std.specs.FinMap.{get}
use Rattle.std.proofs.lemmas.Bool.{cases_Bool, false≢true}
use Rattle.mm_base.specs.Bytes.{padded}
use Rattle.mm_base.specs.Places.{null}
use Rattle.mm_base.specs.declared.place.DiskLoc.{DiskLoc}
use Rattle.mm_ranges.specs.Overlay.{Image, bytes_at}
use Rattle.mm_frames.specs.Texts.{text_in}
use Rattle.mm_frames.specs.declared.extent_header.ExtentHeader.{ExtentHeader}
use Rattle.mm_frames.specs.declared.free_ends.FreeEnds.{FreeEnds}
use Rattle.mm_links.specs.Links.{Place, StandsBefore, same, has, once, first_of, last_of, next_in, without, is, IsLinked}
use Rattle.mm_links.proofs.LinkLaws.{same_is, same_not, not_same, if_true, if_false, has_next, has_before, before_of, before_once, not_behind_first, some_is, isnt_some, last_before, last_alone, last_stays, first_stays, first_moves, unlinked, has_of_without}
use Rattle.mm_extents.specs.Heap.{Cell, extent, live, deleted, Heap, IsHeap, change}
use Rattle.mm_extents.specs.Changes.{loc_or, LowOr, KeepsHeaders, xnext_set, xprev_set, behind_of}
use Rattle.mm_extents.specs.Files.{header_unused, unused_in}
use Rattle.mm_extents.specs.Tiling.{Outline, an_extent, a_block, outline, ground, IsExtent, BlockAt, IsTiled}
use Rattle.mm_extents.specs.Chains.{ext_next, ext_prev}
use Rattle.mm_extents.specs.FreeExtents.{HasFree, IsClear, header_made, whole_block, with_extent, next_passed, prev_passed, ExtentOr, PassFits, without_links, IsReused}
use Rattle.mm_extents.proofs.Spots.{low_file}
use Rattle.mm_extents.proofs.FileLaws.{low_place, short_file, files_kept}
use Rattle.mm_extents.proofs.Writes.{changed_here, changed_there}
use Rattle.mm_extents.proofs.Within.{two_first, two_second, two_there}
use Rattle.mm_extents.proofs.Headers.{unused_inside}
use Rattle.mm_extents.proofs.Reuses.{reused_tiled, clear_of}

some_same : {A : Type 0} (x y : A) → Some x ≡ Some y → x ≡ y
some_same x y e = cc

-- what a function says of a cell stays where the change doesn't reach it
stays : {X : Type 0} (proj : Option Cell → X) (g : Cell → Cell) → ((c : Cell) → proj (Some (g c)) ≡ proj (Some c)) → (x : Place) (H : Heap) (q : Place) → proj (change x g H q) ≡ proj (H q)
stays {X} proj g law x H q = elim (cases_Bool (same x q)) [
  | inl y ↦ ap proj (if_true (same x q) (option_map g (H q)) (H q) y) ∙ opt (H q)
  | inr n ↦ ap proj (if_false (same x q) (option_map g (H q)) (H q) n)
]
  where
    opt : (o : Option Cell) → proj (option_map g o) ≡ proj o
    opt None = refl
    opt (Some c) = law c

pub next_passed_stays : {X : Type 0} (proj : Option Cell → X) → ((z : DiskLoc) (c : Cell) → proj (Some (xnext_set z c)) ≡ proj (Some c)) → (o : Option Place) (z : DiskLoc) (H : Heap) (q : Place) → proj (next_passed o z H q) ≡ proj (H q)
next_passed_stays proj law None z H q = refl
next_passed_stays proj law (Some x) z H q = stays proj (xnext_set z) (law z) x H q

prev_passed_stays : {X : Type 0} (proj : Option Cell → X) → ((z : DiskLoc) (c : Cell) → proj (Some (xprev_set z c)) ≡ proj (Some c)) → (o : Option Place) (z : DiskLoc) (H : Heap) (q : Place) → proj (prev_passed o z H q) ≡ proj (H q)
prev_passed_stays proj law None z H q = refl
prev_passed_stays proj law (Some x) z H q = stays proj (xprev_set z) (law z) x H q

pub wl_next : (z : DiskLoc) (c : Cell) → without_links (Some (xnext_set z c)) ≡ without_links (Some c)
wl_next z (extent h) = refl
wl_next z (live h room) = refl
wl_next z (deleted h rest) = refl

wl_prev : (z : DiskLoc) (c : Cell) → without_links (Some (xprev_set z c)) ≡ without_links (Some c)
wl_prev z (extent h) = refl
wl_prev z (live h room) = refl
wl_prev z (deleted h rest) = refl

pub prev_next : (z : DiskLoc) (c : Cell) → ext_prev (Some (xnext_set z c)) ≡ ext_prev (Some c)
prev_next z (extent h) = refl
prev_next z (live h room) = refl
prev_next z (deleted h rest) = refl

next_prev : (z : DiskLoc) (c : Cell) → ext_next (Some (xprev_set z c)) ≡ ext_next (Some c)
next_prev z (extent h) = refl
next_prev z (live h room) = refl
next_prev z (deleted h rest) = refl

pub wl_outline : (o : Option Cell) → option_map outline (without_links o) ≡ option_map outline o
wl_outline None = refl
wl_outline (Some (extent h)) = refl
wl_outline (Some (live h room)) = refl
wl_outline (Some (deleted h rest)) = refl

pub record ExtentLike (o : Option Cell) (like : ExtentHeader) : Type 0 where
  pub h : ExtentHeader
  pub is : o ≡ Some (extent h)
  pub name_is : h.namespace ≡ like.namespace

pub extent_like : (o : Option Cell) (h : ExtentHeader) → without_links o ≡ without_links (Some (extent h)) → ExtentLike o h
extent_like None h e = absurd cc
extent_like (Some (extent g)) h e =
    let heads : record g { xnext = null; xprev = null } ≡ record h { xnext = null; xprev = null } = cc in
    record { h = g; is = refl; name_is = ap (λ (x : ExtentHeader). x.namespace) heads }
extent_like (Some (live g r)) h e = absurd cc
extent_like (Some (deleted g r)) h e = absurd cc

pub not_null : (o : Option Place) → LowOr o → (x : Place) → o ≡ Some x → loc_or o ≡ null → ⊥
not_null None l x e z = cc
not_null (Some y) l x e z = (let f : pos y.0 ≡ negsuc 0 = sym (low_file y l).0 ∙ ap (λ (q : DiskLoc). q.file) z in cc)

module _ (image : Image) (db : List ℕ) (heap : Heap) (chain : List Place) (ends : FreeEnds) (f : HasFree image db heap chain ends) (e : Place) (on : has chain e ≡ true) where
  pub mine : (h : ExtentHeader) × (heap e ≡ Some (extent h)) × (text_in h.namespace ≡ db)
  mine = f.on_chain e on

  abbrev h : ExtentHeader
  h = mine.0

  abbrev place_outline : Option Outline
  place_outline = Some (an_extent h.magic h.my_loc h.namespace h.len)

  pub whole : (u : ℕ) × (unused_in image e.0 ≡ Some (pos u)) × ((n : ℕ) × IsExtent (ground heap) u e.0 e.1 h.magic h.my_loc h.namespace h.len n × (text_in h.namespace ≢ db → BlockAt (ground heap) (e.1 + n) e.0 e.1 (e.1 + 176)))
  whole = f.tiled.extents e.0 e.1 h.magic h.my_loc h.namespace h.len (ap (λ (o : Option Cell). option_map outline o) mine.1)

  abbrev pub n : ℕ
  n = whole.2.0

  pub long : h.len ≡ pos n
  long = whole.2.1.long

  pub some : 4096 ≤ n
  some = whole.2.1.some

  pub data_file : e.0 < 8
  data_file = f.shown.data_file e (extent h) mine.1

  pub behind : 8192 ≤ e.1
  behind = f.shown.behind_header e (extent h) mine.1

  pub inside : e.1 + n ≤ length (bytes_at image e.0)
  inside = by (get image e.0) refl
    where
      by : (o : Option (List ℕ)) → get image e.0 ≡ o → e.1 + n ≤ length (bytes_at image e.0)
      by None g = absurd (let z : length (bytes_at image e.0) ≡ 0 = ap (λ (o : Option (List ℕ)). length (unwrap_or o [])) g in let i = f.shown.inside e (extent h) mine.1 in omega (arith, z, i))
      by (Some b) g =
          let z : length (bytes_at image e.0) ≡ length b = ap (λ (o : Option (List ℕ)). length (unwrap_or o [])) g in
          let u = unused_inside image e.0 (length b) whole.0 f.files data_file (ap (λ (o : Option (List ℕ)). option_map length o) g) whole.1 in
          let i = whole.2.1.inside in
          omega (arith, z, u, i)

  pub short : e.1 + n ≤ 67108864
  short = let i = inside in let s = short_file image f.files e.0 data_file in omega (arith, i, s)

  one : once chain ≡ true
  one = f.linked.no_twice

  -- ---- the extents before and behind it

  pub before : (o : Option Place) × StandsBefore chain o e
  before = elim (before_of chain e one on) [ inl g ↦ (None, g) | inr b ↦ (Some b.0, b.1) ]

  on_before : (o : Option Place) → StandsBefore chain o e → (x : Place) → o ≡ Some x → has chain x ≡ true
  on_before None s x g = absurd cc
  on_before (Some y) s x g = let same_y : y ≡ x = some_same y x g in ap (λ (z : Place). has chain z) (sym same_y) ∙ has_before chain y e s

  prev_of : (o : Option Place) → StandsBefore chain o e → h.xprev ≡ loc_or o
  prev_of None s = sym (ap ext_prev mine.1) ∙ f.linked.first e s
  prev_of (Some x) s = sym (ap ext_prev mine.1) ∙ f.linked.before x e s

  pub prev_is : h.xprev ≡ loc_or before.0
  prev_is = prev_of before.0 before.1

  pub next_is : h.xnext ≡ loc_or (next_in chain e)
  next_is = sym (ap ext_next mine.1) ∙ f.linked.behind e on

  low_of : (o : Option Place) → ((x : Place) → o ≡ Some x → has chain x ≡ true) → LowOr o
  low_of None g = tt
  low_of (Some x) g = let y = f.on_chain x (g x refl) in low_place image heap x (extent y.0) f.files f.shown y.1

  extent_or : (H : Heap) → ((q : Place) → without_links (H q) ≡ without_links (heap q)) → (o : Option Place) → ((x : Place) → o ≡ Some x → has chain x ≡ true) → ExtentOr H o
  extent_or H w None g = tt
  extent_or H w (Some x) g = let y = f.on_chain x (g x refl) in let l = extent_like (H x) y.0 (w x ∙ ap without_links y.1) in record { h = l.h; is = l.is }

  pub low_before : LowOr before.0
  low_before = low_of before.0 (on_before before.0 before.1)

  pub low_behind : LowOr (next_in chain e)
  low_behind = low_of (next_in chain e) (λ x g. has_next chain e x g)

  pub there_before : ExtentOr heap before.0
  there_before = extent_or heap (λ q. refl) before.0 (on_before before.0 before.1)

  pub next_asks : (z : DiskLoc) → z ≡ h.xprev → (o : Option Place) × PassFits image o z
  next_asks z g = (before.0, record { named = g ∙ prev_is; low = low_before; heap = heap; is = f.shown; there = there_before })

  abbrev pub heap1 : Heap
  heap1 = next_passed before.0 h.xnext heap

  abbrev pub heap2 : Heap
  heap2 = prev_passed (next_in chain e) h.xprev heap1

  wl1 : (q : Place) → without_links (heap1 q) ≡ without_links (heap q)
  wl1 q = next_passed_stays without_links wl_next before.0 h.xnext heap q

  wl2 : (q : Place) → without_links (heap2 q) ≡ without_links (heap q)
  wl2 q = prev_passed_stays without_links wl_prev (next_in chain e) h.xprev heap1 q ∙ wl1 q

  pub there_behind : ExtentOr heap1 (next_in chain e)
  there_behind = extent_or heap1 wl1 (next_in chain e) (λ x g. has_next chain e x g)

  pub prev_asks : (z : DiskLoc) → z ≡ h.xnext → (i1 : Image) → IsHeap i1 heap1 → (o : Option Place) × PassFits i1 o z
  prev_asks z g i1 is = (next_in chain e, record { named = g ∙ next_is; low = low_behind; heap = heap1; is = is; there = there_behind })

  next2 : (q : Place) → ext_next (heap2 q) ≡ (if is (next_in chain q) e then ext_next (heap e) else ext_next (heap q))
  next2 q = prev_passed_stays ext_next next_prev (next_in chain e) h.xprev heap1 q ∙ by before.0 before.1
    where
      by : (o : Option Place) → StandsBefore chain o e → ext_next (next_passed o h.xnext heap q) ≡ (if is (next_in chain q) e then ext_next (heap e) else ext_next (heap q))
      by None s = sym (if_false (is (next_in chain q) e) (ext_next (heap e)) (ext_next (heap q)) (isnt_some (next_in chain q) e (λ g. not_behind_first chain e q one s g)))
      by (Some x) s = elim (cases_Bool (same x q)) [
        | inl y ↦
            let xq = same_is x q y in
            let t = f.on_chain x (has_before chain x e s) in
            ap ext_next (ap (λ (z : Place). change x (xnext_set h.xnext) heap z) (sym xq) ∙ changed_here x (xnext_set h.xnext) heap (extent t.0) t.1)
            ∙ sym (ap ext_next mine.1) ∙ sym (if_true (is (next_in chain q) e) (ext_next (heap e)) (ext_next (heap q)) (some_is (next_in chain q) e (ap (next_in chain) (sym xq) ∙ s)))
        | inr m ↦ ap ext_next (changed_there x q (xnext_set h.xnext) heap m)
            ∙ sym (if_false (is (next_in chain q) e) (ext_next (heap e)) (ext_next (heap q)) (isnt_some (next_in chain q) e (λ g. not_same x q m (before_once chain e x q one s g))))
      ]

  prev2 : (q : Place) → ext_prev (heap2 q) ≡ (if is (next_in chain e) q then ext_prev (heap e) else ext_prev (heap q))
  prev2 q = by (next_in chain e) refl
    where
      first : ext_prev (heap1 q) ≡ ext_prev (heap q)
      first = next_passed_stays ext_prev prev_next before.0 h.xnext heap q

      by : (u : Option Place) → next_in chain e ≡ u → ext_prev (prev_passed u h.xprev heap1 q) ≡ (if is u q then ext_prev (heap e) else ext_prev (heap q))
      by None g = first
      by (Some y) g = elim (cases_Bool (same y q)) [
        | inl z ↦
            let t = f.on_chain y (has_next chain e y g) in
            let l = extent_like (heap1 y) t.0 (wl1 y ∙ ap without_links t.1) in
            ap ext_prev (ap (λ (x : Place). change y (xprev_set h.xprev) heap1 x) (sym (same_is y q z)) ∙ changed_here y (xprev_set h.xprev) heap1 (extent l.h) l.is)
            ∙ sym (ap ext_prev mine.1) ∙ sym (if_true (same y q) (ext_prev (heap e)) (ext_prev (heap q)) z)
        | inr m ↦ ap ext_prev (changed_there y q (xprev_set h.xprev) heap1 m) ∙ first ∙ sym (if_false (same y q) (ext_prev (heap e)) (ext_prev (heap q)) m)
      ]

  same2 : (q : Place) → has chain q ≡ false → heap2 q ≡ heap q
  same2 q off = second (next_in chain e) refl ∙ first before.0 before.1
    where
      first : (o : Option Place) → StandsBefore chain o e → next_passed o h.xnext heap q ≡ heap q
      first None s = refl
      first (Some x) s = changed_there x q (xnext_set h.xnext) heap (same_not x q (λ g. false≢true (sym off ∙ ap (has chain) (sym g) ∙ has_before chain x e s)))

      second : (u : Option Place) → next_in chain e ≡ u → prev_passed u h.xprev heap1 q ≡ heap1 q
      second None g = refl
      second (Some y) g = changed_there y q (xprev_set h.xprev) heap1 (same_not y q (λ k. false≢true (sym off ∙ ap (has chain) (sym k) ∙ has_next chain e y g)))

  -- ---- the bytes of the extent are clear

  ground2 : (q : Place) → ground heap2 q ≡ ground heap q
  ground2 q = sym (wl_outline (heap2 q)) ∙ ap (λ (o : Option Cell). option_map outline o) (wl2 q) ∙ wl_outline (heap q)

  tiled2 : IsTiled (ground heap2) (unused_in image) db
  tiled2 = subst (λ (g : Place → Option Outline). IsTiled g (unused_in image) db) (λ i q. sym (ground2 q) i) f.tiled

  there2 : ground heap2 e ≡ Some (an_extent h.magic h.my_loc h.namespace (pos n))
  there2 = ground2 e ∙ ap (λ (o : Option Cell). option_map outline o) mine.1 ∙ ap (λ (z : ℤ). Some (an_extent h.magic h.my_loc h.namespace z)) long

  pub clear : IsClear heap2 e n
  clear q c g ne file = clear_of heap2 (unused_in image) db tiled2 e q h.magic n h.my_loc h.namespace c there2 mine.2 g ne file

  e_isnt_b : same e (behind_of e 176) ≡ false
  e_isnt_b = same_not e (behind_of e 176) (λ g. (let k : e.1 ≡ e.1 + 176 = ap (λ (q : Place). q.1) g in omega (arith, k)))

  empty2 : heap2 (behind_of e 176) ≡ None
  empty2 = by (heap2 (behind_of e 176)) refl
    where
      by : (o : Option Cell) → heap2 (behind_of e 176) ≡ o → heap2 (behind_of e 176) ≡ None
      by None g = g
      by (Some c) g = absurd (let s = some in elim (clear (behind_of e 176) c g e_isnt_b refl) [ inl l ↦ omega (arith, l) | inr r ↦ omega (arith, r, s) ])

  empty : heap (behind_of e 176) ≡ None
  empty = by (heap (behind_of e 176)) refl
    where
      by : (o : Option Cell) → heap (behind_of e 176) ≡ o → heap (behind_of e 176) ≡ None
      by None g = g
      by (Some c) g = absurd (let z : without_links (Some c) ≡ without_links None = ap without_links (sym g) ∙ sym (wl2 (behind_of e 176)) ∙ ap without_links empty2 in some_links c z)
        where
          some_links : (c : Cell) → without_links (Some c) ≡ None → ⊥
          some_links (extent g) z = cc
          some_links (live g r) z = cc
          some_links (deleted g r) z = cc

  -- ---- the extent in its namespace

  module _ (i3 : Image) (k : KeepsHeaders image i3) (name : List ℕ) (named : text_in (padded 128 name) ≡ name) (isnt : name ≢ db) (rest : List ℕ) (rest_long : length rest ≡ n - 192) (heap3 : IsHeap i3 (with_extent e name n rest heap2))
      (ends' : FreeEnds) (first_null : h.xprev ≡ null → ends'.first ≡ h.xnext) (first_kept : h.xprev ≢ null → ends'.first ≡ ends.first) (last_null : h.xnext ≡ null → ends'.last ≡ h.xprev) (last_kept : h.xnext ≢ null → ends'.last ≡ ends.last) where
    abbrev t : Heap
    t = with_extent e name n rest heap2

    t_here : t e ≡ Some (extent (header_made e name n))
    t_here = two_first e (extent (header_made e name n)) (behind_of e 176) (deleted (whole_block e n) rest) heap2

    t_behind : t (behind_of e 176) ≡ Some (deleted (whole_block e n) rest)
    t_behind = two_second e (extent (header_made e name n)) (behind_of e 176) (deleted (whole_block e n) rest) heap2 e_isnt_b

    t_there : (q : Place) → same e q ≡ false → same (behind_of e 176) q ≡ false → t q ≡ heap2 q
    t_there q x y = two_there e (extent (header_made e name n)) (behind_of e 176) (deleted (whole_block e n) rest) heap2 q x y

    on_isnt_b : (q : Place) → has chain q ≡ true → same (behind_of e 176) q ≡ false
    on_isnt_b q i = let x = f.on_chain q i in same_not (behind_of e 176) q (λ g. (let z : None ≡ Some (extent x.0) = sym empty ∙ ap heap g ∙ x.1 in cc))

    turned : (q : Place) → same q e ≡ false → same e q ≡ false
    turned q ne = same_not e q (λ g. not_same q e ne (sym g))

    t_on : (q : Place) → has chain q ≡ true → same q e ≡ false → t q ≡ heap2 q
    t_on q i ne = t_there q (turned q ne) (on_isnt_b q i)

    tiled_now : IsTiled (ground t) (unused_in image) db
    tiled_now =
        let l = some in
        reused_tiled (ground heap2) (ground t) (unused_in image) db tiled2 e h.magic h.my_loc h.namespace (padded 128 name) n there2 mine.2 (ap (padded 128) (sym named)) (λ g. isnt (sym named ∙ g))
        (ap (λ (o : Option Cell). option_map outline o) empty2) (ap (λ (o : Option Cell). option_map outline o) t_here)
        (ap (λ (o : Option Cell). option_map outline o) t_behind ∙ ap (λ (m : ℕ). Some (a_block (pos e.1) (pos (n - 176)) m)) (let g : 16 + length rest ≡ n - 176 = omega (arith, rest_long, l) in g))
        (λ q x y. ap (λ (o : Option Cell). option_map outline o) (t_there q x y))

    linked_now : IsLinked loc_or (without e chain) (λ q. ext_next (t q)) (λ q. ext_prev (t q))
    linked_now = unlinked loc_or chain (λ q. ext_next (heap q)) (λ q. ext_prev (heap q)) (λ q. ext_next (t q)) (λ q. ext_prev (t q)) e f.linked on
        (λ q i ne. ap ext_next (t_on q i ne) ∙ next2 q) (λ q i ne. ap ext_prev (t_on q i ne) ∙ prev2 q)

    first_now : (o : Option Place) → StandsBefore chain o e → LowOr o → h.xprev ≡ loc_or o → ends'.first ≡ loc_or (first_of (without e chain))
    first_now None s l g = first_null g ∙ next_is ∙ ap loc_or (sym (first_moves chain e one s))
    first_now (Some x) s l g = first_kept (λ z. not_null (Some x) l x refl (sym g ∙ z)) ∙ f.first ∙ ap loc_or (sym (first_stays chain e x one s))

    ends_at : (o : Option Place) → StandsBefore chain o e → next_in chain e ≡ None → last_of (without e chain) ≡ o
    ends_at None s g = last_alone chain e one g s
    ends_at (Some x) s g = last_before chain e x one g s

    last_now : (u : Option Place) → next_in chain e ≡ u → LowOr u → ends'.last ≡ loc_or (last_of (without e chain))
    last_now None g l = last_null (next_is ∙ ap loc_or g) ∙ prev_is ∙ ap loc_or (sym (ends_at before.0 before.1 g))
    last_now (Some y) g l = last_kept (λ z. not_null (Some y) l y refl (sym (next_is ∙ ap loc_or g) ∙ z)) ∙ f.last ∙ ap loc_or (sym (last_stays chain e y one g))

    unused_same : (g : ℕ) → unused_in image g ≡ unused_in i3 g
    unused_same g = ap (λ (b : List ℕ). if nat_lt g 8 then header_unused b else None) (sym (k.headers g))

    pub has_free : HasFree i3 db t (without e chain) ends'
    has_free = record {
      files = files_kept image i3 k.lengths (λ g lt. k.headers g) f.files;
      shown = heap3;
      tiled = subst (λ (u : ℕ → Option ℤ). IsTiled (ground t) u db) (λ i g. unused_same g i) tiled_now;
      linked = linked_now;
      on_chain = λ q i.
          let x = has_of_without chain e q i in
          let y = f.on_chain q x.0 in
          let l = extent_like (heap2 q) y.0 (wl2 q ∙ ap without_links y.1) in
          (l.h, t_on q x.0 x.1 ∙ l.is, ap text_in l.name_is ∙ y.2);
      first = first_now before.0 before.1 low_before prev_is;
      last = last_now (next_in chain e) refl low_behind;
    }

    pub reused : IsReused heap t chain e name n
    reused = record {
      h = h;
      was = mine.1;
      long = long;
      empty = empty;
      here = t_here;
      rest = rest;
      rest_long = rest_long;
      block = t_behind;
      others = λ q x y. ap without_links (t_there q x y) ∙ wl2 q;
      same_off = λ q x y off. t_there q x y ∙ same2 q off;
    }
