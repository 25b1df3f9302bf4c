-- After a record was left its front bytes, all stands again.
use Rattle.std.proofs.Common.{◌≡◌, ℕ, ℤ, pos, ◌+◌, ◌-◌, ◌<◌, ◌≤◌, inl, inr, Bool, true, false, List, ◌∷◌, length, take, drop, Option, Some, None, refl, sym, ◌∙◌, ap, subst, arith, length-drop}
use Rattle.std.specs.Prelude.{◌&&◌, ◌==◌, if◌then◌else◌, sum_by, slice_index_or}
use Rattle.std.specs.Option.{option_map}
use Rattle.std.proofs.lemmas.Bool.{cases_Bool, eqb-true}
use Rattle.std.proofs.lemmas.List.{length-take-le}
use Rattle.mm_base.specs.Places.{null}
use Rattle.mm_ranges.specs.Overlay.{Image}
use Rattle.mm_frames.specs.Texts.{text_in}
use Rattle.mm_frames.specs.declared.extent_header.ExtentHeader.{ExtentHeader}
use Rattle.mm_frames.specs.declared.rec_header.RecHeader.{RecHeader}
use Rattle.mm_frames.specs.declared.deleted_header.DeletedHeader.{DeletedHeader}
use Rattle.mm_frames.specs.declared.details.Details.{Details}
use Rattle.mm_links.specs.Links.{Place, same, has, once, first_of, last_of, without}
use Rattle.mm_links.proofs.LinkLaws.{same_is, same_not, not_same, if_true, if_false, without_self, relinked}
use Rattle.mm_extents.specs.Heap.{Cell, extent, live, deleted, IsHeap}
use Rattle.mm_extents.specs.Changes.{loc, loc_or, ofs_or, KeepsHeaders, front_of, rest_of, behind_of}
use Rattle.mm_extents.specs.Files.{unused_in}
use Rattle.mm_extents.specs.Tiling.{a_block, outline, ground, IsBlock, IsTiled}
use Rattle.mm_extents.specs.Chains.{ext_next, ext_prev, ExtentsStand}
use Rattle.mm_extents.proofs.Within.{two_first, two_second, two_there}
use Rattle.mm_records.specs.Constants.{constants_of, is_name}
use Rattle.mm_records.specs.Shape.{Shape, list_for, rec_next, rec_prev}
use Rattle.mm_records.specs.Stands.{RecordsStand, ListsStand, DetailsStand, IsRecord, ext_len, len_at, room_of, walk}
use Rattle.mm_records.specs.Map.{ofs_of, extent_of, owner, live_room, live_at, name_at}
use Rattle.mm_records.specs.InHand.{StandsWith}
use Rattle.mm_records.specs.Shortening.{cut_header, shortened_shape, CanCut, IsShortened}
use Rattle.mm_records.proofs.Freed.{name_is, name_own}
use Rattle.mm_records.proofs.ConstantLaws.{constants_stay}
use Rattle.mm_records.proofs.Owning.{Lives, lives, extent_there}
use Rattle.mm_records.proofs.Counts.{SameBut, sum_off, sum_without}
use Rattle.mm_records.proofs.Bounds.{has_flat, walk_once, flat_has}
use Rattle.mm_records.proofs.Splits.{split_tiled}
use Rattle.mm_records.proofs.Pushed.{lists_pushed}
use Rattle.mm_records.proofs.Continues.{continues, tiled_kept}

some_same : {A : Type 0} (x y : A) → Some x ≡ Some y → x ≡ y
some_same x y e = cc

-- two weights that differ at one place
sum_at : (p : Place) (w v : Place → ℕ) (xs : List Place) → SameBut p w v → once xs ≡ true → has xs p ≡ true → sum_by v xs + w p ≡ sum_by w xs + v p
sum_at p w v xs s o h =
    let a = sum_without p w w xs (λ q _. refl) o h in
    let b = sum_without p v v xs (λ q _. refl) o h in
    let c = sum_off p w v (without p xs) s (without_self xs p) in
    omega (arith, a, b, c)

module _ (image : Image) (free : List ℕ) (s : Shape) (node : ℕ) (d : Details) (st : StandsWith image free s node d) (p : Place) (room : List ℕ) (r : ℕ) (lv : live_at s (name_at image node) p ≡ Some room) (can : CanCut r (16 + length room)) where
  abbrev name : List ℕ
  name = name_at image node

  pub own : Lives s name p room
  own = lives s name p room lv

  abbrev h : RecHeader
  h = own.h

  pub here : s.heap p ≡ Some (live h room)
  here = own.here

  blk : (a : ℕ) × ((m : ℕ) × IsBlock (ground s.heap) free p.0 p.1 h.extent_ofs h.length_with_headers (16 + length room) a m)
  blk = st.tiled.blocks p.0 p.1 (16 + length room) h.extent_ofs h.length_with_headers (ap (λ (o : Option Cell). option_map outline o) here)

  pub len_is : h.length_with_headers ≡ pos (16 + length room)
  len_is = blk.1.1.long

  abbrev a : ℕ
  a = blk.0

  ext : h.extent_ofs ≡ pos a
  ext = blk.1.1.extent_place

  home : (hh : ExtentHeader) × (s.heap (p.0, a) ≡ Some (extent hh))
  home = let x = blk.1.1.of_extent in extent_there (s.heap (p.0, a)) x.magic x.here x.name (pos blk.1.0) x.is

  abbrev hh : ExtentHeader
  hh = home.0

  there : s.heap (p.0, a) ≡ Some (extent hh)
  there = home.1

  named : text_in hh.namespace ≡ name
  named = sym (ap owner there) ∙ ap (λ (z : ℤ). owner (s.heap (p.0, ofs_of z))) (sym ext) ∙ own.owned

  abbrev b : Place
  b = behind_of p r

  abbrev n : ℕ
  n = 16 + length room

  abbrev pub new : Shape
  new = shortened_shape name p h room r s

  abbrev front : Cell
  front = front_of r h room

  abbrev rest : Cell
  rest = rest_of r (cut_header name h (16 + length room - r) s) room

  fits : r + 16 ≤ length room
  fits = let x = can.rest in omega (arith, x)

  front_long : length (take (r - 16) room) ≡ r - 16
  front_long = let x = fits in length-take-le (r - 16) room (omega (arith, x))

  rest_long : length (drop r room) ≡ length room - r
  rest_long = length-drop r room

  rest_size : 16 + length (drop r room) ≡ 16 + length room - r
  rest_size = let x = fits in let y = rest_long in omega (arith, x, y)

  empty : s.heap b ≡ None
  empty = by (s.heap b) refl
    where
      by : (o : Option Cell) → s.heap b ≡ o → s.heap b ≡ None
      by None e = e
      by (Some c) e = absurd (let x = can.rest in let f = can.front in let y = st.heap.apart p.0 p.1 (p.1 + r) (live h room) c here e (omega (arith, f)) in omega (arith, x, y))

  distinct : same p b ≡ false
  distinct = same_not p b (λ e. (let f : p.1 ≡ p.1 + r = ap (λ (q : Place). q.1) e in let x = can.front in omega (arith, f, x)))

  new_here : new.heap p ≡ Some front
  new_here = two_first p front b rest s.heap

  new_behind : new.heap b ≡ Some rest
  new_behind = two_second p front b rest s.heap distinct

  elsewhere : (q : Place) → same p q ≡ false → same b q ≡ false → new.heap q ≡ s.heap q
  elsewhere q x y = two_there p front b rest s.heap q x y

  -- what something says of the cells other than the record
  off : {X : Type 0} (proj : Option Cell → X) → proj (Some rest) ≡ proj None → (q : Place) → same p q ≡ false → proj (new.heap q) ≡ proj (s.heap q)
  off {X} proj e q ne = elim (cases_Bool (same b q)) [
    | inl y ↦ ap (λ (x : Place). proj (new.heap x)) (sym (same_is b q y)) ∙ ap proj new_behind ∙ e ∙ ap proj (sym empty) ∙ ap (λ (x : Place). proj (s.heap x)) (same_is b q y)
    | inr m ↦ ap proj (elsewhere q ne m)
  ]

  alike : {X : Type 0} (proj : Option Cell → X) → proj (Some front) ≡ proj (Some (live h room)) → proj (Some rest) ≡ proj None → (q : Place) → proj (new.heap q) ≡ proj (s.heap q)
  alike {X} proj e f q = elim (cases_Bool (same p q)) [
    | inl y ↦ ap (λ (x : Place). proj (new.heap x)) (sym (same_is p q y)) ∙ ap proj new_here ∙ e ∙ ap proj (sym here) ∙ ap (λ (x : Place). proj (s.heap x)) (same_is p q y)
    | inr m ↦ off proj f q m
  ]

  -- a cell that isn't one of these was there
  was : (q : Place) (c : Cell) → new.heap q ≡ Some c → (front ≡ c → ⊥) → (rest ≡ c → ⊥) → s.heap q ≡ Some c
  was q c e x y = elim (cases_Bool (same p q)) [
    | inl z ↦ absurd (x (some_same front c (sym new_here ∙ ap new.heap (same_is p q z) ∙ e)))
    | inr m ↦ elim (cases_Bool (same b q)) [
      | inl z ↦ absurd (y (some_same rest c (sym new_behind ∙ ap new.heap (same_is b q z) ∙ e)))
      | inr k ↦ sym (elsewhere q m k) ∙ e
    ]
  ]

  -- and one that isn't the record is there
  stays : (q : Place) (c : Cell) → s.heap q ≡ Some c → (live h room ≡ c → ⊥) → new.heap q ≡ Some c
  stays q c e x = elim (cases_Bool (same p q)) [
    | inl z ↦ absurd (x (some_same (live h room) c (sym here ∙ ap s.heap (same_is p q z) ∙ e)))
    | inr m ↦ elim (cases_Bool (same b q)) [
      | inl z ↦ absurd (let f : None ≡ Some c = sym empty ∙ ap s.heap (same_is b q z) ∙ e in cc)
      | inr k ↦ elsewhere q m k ∙ e
    ]
  ]

  pub extent_was : (q : Place) (g : ExtentHeader) → new.heap q ≡ Some (extent g) → s.heap q ≡ Some (extent g)
  extent_was q g e = was q (extent g) e (λ f. cc) (λ f. cc)

  extents_stand : ExtentsStand new.heap new.extents
  extents_stand = record {
    linked = λ m. relinked loc_or (s.extents m) (λ q. ext_next (s.heap q)) (λ q. ext_prev (s.heap q)) (λ q. ext_next (new.heap q)) (λ q. ext_prev (new.heap q)) (st.extents.linked m) (λ q _. alike ext_next refl refl q) (λ q _. alike ext_prev refl refl q);
    on_chain = λ m q i. let x = st.extents.on_chain m q i in (x.0, stays q (extent x.0) x.1 (λ f. cc), x.2);
    all = λ q g i. st.extents.all q g (extent_was q g i);
  }

  -- ---- the chains of records

  own_header : (q : Place) (g : RecHeader) (x : List ℕ) → same p q ≡ true → s.heap q ≡ Some (live g x) → h ≡ g
  own_header q g x y e = let f : live h room ≡ live g x = some_same (live h room) (live g x) (sym here ∙ ap s.heap (same_is p q y) ∙ e) in cc

  on_chain_new : (e q : Place) → has (s.records e) q ≡ true → IsRecord new.heap e q
  on_chain_new e q i =
      let x = st.records.on_chain e q i in
      elim (cases_Bool (same p q)) [
        | inl y ↦ record { h = record h { length_with_headers = pos r }; room = take (r - 16) room; there = ap new.heap (sym (same_is p q y)) ∙ new_here; file = x.file; of_extent = ap (λ (z : RecHeader). z.extent_ofs) (own_header q x.h x.room y x.there) ∙ x.of_extent }
        | inr m ↦ elim (cases_Bool (same b q)) [
          | inl y ↦ absurd (let f : None ≡ Some (live x.h x.room) = sym empty ∙ ap s.heap (same_is b q y) ∙ x.there in cc)
          | inr k ↦ record { h = x.h; room = x.room; there = elsewhere q m k ∙ x.there; file = x.file; of_extent = x.of_extent }
        ]
      ]

  all_new : (q : Place) (g : RecHeader) (x : List ℕ) (c : ℕ) → new.heap q ≡ Some (live g x) → g.extent_ofs ≡ pos c → has (s.records (q.0, c)) q ≡ true
  all_new q g x c e f = elim (cases_Bool (same p q)) [
    | inl y ↦
        let pq = same_is p q y in
        let cells : Some front ≡ Some (live g x) = sym new_here ∙ ap new.heap pq ∙ e in
        let heads : record h { length_with_headers = pos r } ≡ g = cc in
        subst (λ (z : Place). has (s.records (z.0, c)) z ≡ true) pq (st.records.all p h room c here (ap (λ (z : RecHeader). z.extent_ofs) heads ∙ f))
    | inr m ↦ elim (cases_Bool (same b q)) [
      | inl y ↦ absurd (let k : Some rest ≡ Some (live g x) = sym new_behind ∙ ap new.heap (same_is b q y) ∙ e in cc)
      | inr k ↦ st.records.all q g x c (sym (elsewhere q m k) ∙ e) f
    ]
  ]

  records_stand : RecordsStand free new
  records_stand = record {
    linked = λ e. relinked ofs_or (s.records e) (λ q. rec_next (s.heap q)) (λ q. rec_prev (s.heap q)) (λ q. rec_next (new.heap q)) (λ q. rec_prev (new.heap q)) (st.records.linked e) (λ q _. alike rec_next refl refl q) (λ q _. alike rec_prev refl refl q);
    on_chain = on_chain_new;
    all = all_new;
    ends = λ e g i nf. st.records.ends e g (extent_was e g i) nf;
  }

  -- ---- the lists

  lists_stand : ListsStand new
  lists_stand =
      lists_pushed s new (unused_in image) free name b a (cut_header name h (16 + length room - r) s) (drop r room) hh st.lists st.tiled
      (λ g x e. (let f : None ≡ Some (deleted g x) = sym empty ∙ e in cc)) new_behind ext (stays (p.0, a) (extent hh) there (λ f. cc)) named
      (ap (λ (m : ℕ). loc_or (first_of (s.lists name (list_for m)))) (sym rest_size))
      (λ q g x ne e. behind_was q g x ne e)
      (λ q g x e. stays q (deleted g x) e (λ f. cc))
      (λ q g e _. record { h = g; is = stays q (extent g) e (λ f. cc); name_is = refl })
      (λ m i. ap (λ (k : ℕ). if is_name m name && i == list_for k then b ∷ s.lists m i else s.lists m i) (sym rest_size))
    where
      behind_was : (q : Place) (g : DeletedHeader) (x : List ℕ) → same b q ≡ false → new.heap q ≡ Some (deleted g x) → s.heap q ≡ Some (deleted g x)
      behind_was q g x ne e = elim (cases_Bool (same p q)) [
        | inl y ↦ absurd (let f : Some front ≡ Some (deleted g x) = sym new_here ∙ ap new.heap (same_is p q y) ∙ e in cc)
        | inr m ↦ sym (elsewhere q m ne) ∙ e
      ]

  -- ---- tiling

  front_now : ground new.heap p ≡ Some (a_block h.extent_ofs (pos r) r)
  front_now =
      let y = front_long in let w = can.front in
      ap (λ (o : Option Cell). option_map outline o) new_here ∙ ap (λ (m : ℕ). Some (a_block h.extent_ofs (pos r) m)) (let e : 16 + length (take (r - 16) room) ≡ r = omega (arith, y, w) in e)

  behind_now : ground new.heap b ≡ Some (a_block h.extent_ofs (pos (n - r)) (n - r))
  behind_now = ap (λ (o : Option Cell). option_map outline o) new_behind ∙ ap (λ (m : ℕ). Some (a_block h.extent_ofs (pos (n - r)) m)) rest_size

  others_now : (q : Place) → same p q ≡ false → same b q ≡ false → ground new.heap q ≡ ground s.heap q
  others_now q m k = ap (λ (o : Option Cell). option_map outline o) (elsewhere q m k)

  tiled_now : IsTiled (ground new.heap) (unused_in image) free
  tiled_now =
      let x = fits in
      split_tiled (ground s.heap) (ground new.heap) (unused_in image) free st.tiled p r n h.extent_ofs h.length_with_headers (ap (λ (o : Option Cell). option_map outline o) here) can.front (let w = can.rest in omega (arith, w)) (omega (arith, x))
      (ap (λ (o : Option Cell). option_map outline o) empty) front_now behind_now others_now

  -- ---- the counts

  rooms : SameBut p (λ q. room_of (s.heap q)) (λ q. room_of (new.heap q))
  rooms q ne = off room_of refl q (same_not p q (λ f. not_same q p ne (sym f)))

  on_walk : has (walk s name) p ≡ true
  on_walk = flat_has s.records (s.extents name) (p.0, a) p (subst (λ (m : List ℕ). has (s.extents m) (p.0, a) ≡ true) named (st.extents.all (p.0, a) hh there)) (st.records.all p h room a here ext)

  pub size_less : sum_by (λ q. room_of (new.heap q)) (walk s name) + (16 + length room - r) ≡ sum_by (λ q. room_of (s.heap q)) (walk s name)
  size_less =
      let sum = sum_at p (λ q. room_of (s.heap q)) (λ q. room_of (new.heap q)) (walk s name) rooms (walk_once image free s node d st name) on_walk in
      let old = ap room_of here in
      let now = ap room_of new_here in
      let x = fits in let y = front_long in let w = can.front in
      omega (arith, sum, old, now, x, y, w)

  off_walk : (m : List ℕ) → (m ≡ name → ⊥) → has (walk s m) p ≡ false
  off_walk m ne = elim (cases_Bool (has (walk s m) p)) [
    | inl y ↦
        let o = has_flat s.records (s.extents m) p y in
        let x = st.records.on_chain o.e p o.has in
        let e = st.extents.on_chain m o.e o.on in
        absurd (ne (sym e.2 ∙ ap text_in (header_of o.e x e.0 e.1) ∙ named))
    | inr k ↦ k
  ]
    where
      header_of : (e : Place) → IsRecord s.heap e p → (g : ExtentHeader) → s.heap e ≡ Some (extent g) → g.namespace ≡ hh.namespace
      header_of e x g i =
          let cells : live x.h x.room ≡ live h room = some_same (live x.h x.room) (live h room) (sym x.there ∙ here) in
          let heads : x.h ≡ h = cc in
          let ofs : pos e.1 ≡ pos a = sym x.of_extent ∙ ap (λ (z : RecHeader). z.extent_ofs) heads ∙ ext in
          let second : e.1 ≡ a = cc in
          let place : e ≡ (p.0, a) = λ j. (sym x.file j, second j) in
          let extents : extent g ≡ extent hh = some_same (extent g) (extent hh) (sym i ∙ ap s.heap place ∙ there) in
          let gs : g ≡ hh = cc in
          ap (λ (z : ExtentHeader). z.namespace) gs

  len_same : (o : Option Place) → len_at new.heap o ≡ len_at s.heap o
  len_same None = refl
  len_same (Some q) = alike ext_len refl refl q

  other_heads : (m : List ℕ) (i : ℕ) → (is_name m name && i == list_for (16 + length room - r)) ≡ false → loc_or (first_of (s.lists m i)) ≡ loc_or (first_of (new.lists m i))
  other_heads m i e = ap (λ (xs : List Place). loc_or (first_of xs)) (sym (if_false (is_name m name && i == list_for (16 + length room - r)) (b ∷ s.lists m i) (s.lists m i) e))

  pub own_details : (d' : Details) → d'.first_extent ≡ d.first_extent → d'.last_extent ≡ d.last_extent
      → slice_index_or d'.deleted (list_for (16 + length room - r)) null ≡ loc b
      → ((i : ℕ) → i < 19 → (i == list_for (16 + length room - r)) ≡ false → slice_index_or d'.deleted i null ≡ slice_index_or d.deleted i null)
      → d'.nrecords ≡ d.nrecords → ((k : ℕ) → d.datasize ≡ pos (k + (16 + length room - r)) → d'.datasize ≡ pos k)
      → d'.last_extent_size ≡ d.last_extent_size → constants_of d' ≡ constants_of d → DetailsStand new name d'
  own_details d' ef el eh eo er ez es' ec = record {
    first = ef ∙ st.own.first;
    last = el ∙ st.own.last;
    heads = λ i lt. elim (cases_Bool (i == list_for (16 + length room - r))) [
      | inl y ↦ ap (λ (j : ℕ). slice_index_or d'.deleted j null) (eqb-true i (list_for (16 + length room - r)) y) ∙ eh
          ∙ sym (ap (λ (xs : List Place). loc_or (first_of xs)) (if_true (is_name name name && i == list_for (16 + length room - r)) (b ∷ s.lists name i) (s.lists name i) (ap (λ (x : Bool). x && i == list_for (16 + length room - r)) (name_own name name refl) ∙ y)))
      | inr k ↦ eo i lt k ∙ st.own.heads i lt ∙ other_heads name i (ap (λ (x : Bool). x && i == list_for (16 + length room - r)) (name_own name name refl) ∙ k)
    ];
    nrecords = er ∙ st.own.nrecords;
    datasize = ez (sum_by (λ q. room_of (new.heap q)) (walk s name)) (st.own.datasize ∙ ap (λ (k : ℕ). pos k) (sym size_less));
    last_size = es' ∙ st.own.last_size ∙ sym (len_same (last_of (s.extents name)));
    constants = constants_stay name d d' ec st.own.constants;
  }

  other_details : (m : List ℕ) (x : Details) → (m ≡ name → ⊥) → DetailsStand s m x → DetailsStand new m x
  other_details m x ne ds = record {
    first = ds.first;
    last = ds.last;
    heads = λ i lt. ds.heads i lt ∙ other_heads m i (ap (λ (y : Bool). y && i == list_for (16 + length room - r)) no_name);
    nrecords = ds.nrecords;
    datasize = ds.datasize ∙ ap (λ (k : ℕ). pos k) (sym (sum_off p (λ q. room_of (s.heap q)) (λ q. room_of (new.heap q)) (walk s m) rooms (off_walk m ne)));
    last_size = ds.last_size ∙ sym (len_same (last_of (s.extents m)));
    constants = ds.constants;
  }
    where
      no_name : is_name m name ≡ false
      no_name = elim (cases_Bool (is_name m name)) [ inl y ↦ absurd (ne (name_is m name y)) | inr k ↦ k ]

  -- ---- the map

  owners : (q : Place) → owner (new.heap q) ≡ owner (s.heap q)
  owners q = alike owner refl refl q

  pub is_shortened : IsShortened s new name p r room
  is_shortened = record {
    here =
        let at : extent_of p (new.heap p) ≡ (p.0, ofs_of h.extent_ofs) = ap (extent_of p) new_here in
        let named' : owner (new.heap (extent_of p (new.heap p))) ≡ name = ap (λ (x : Place). owner (new.heap x)) at ∙ owners (p.0, ofs_of h.extent_ofs) ∙ own.owned in
        if_true (is_name (owner (new.heap (extent_of p (new.heap p)))) name) (live_room (new.heap p)) None (name_own (owner (new.heap (extent_of p (new.heap p)))) name named') ∙ ap live_room new_here;
    others = λ m q ne.
        let rms : live_room (new.heap q) ≡ live_room (s.heap q) = off live_room refl q ne in
        let places : extent_of q (new.heap q) ≡ extent_of q (s.heap q) = off (extent_of q) refl q ne in
        let names : owner (new.heap (extent_of q (new.heap q))) ≡ owner (s.heap (extent_of q (s.heap q))) = owners (extent_of q (new.heap q)) ∙ ap (λ (x : Place). owner (s.heap x)) places in
        λ i. if is_name (names i) m then rms i else None;
    extents = λ m. refl;
    records = λ e. refl;
    lists = λ m i. refl;
    parted = record { ext = h.extent_ofs; len = h.length_with_headers; was = ap (λ (o : Option Cell). option_map outline o) here; front = front_now; behind = behind_now; others = others_now };
  }

  pub stands_shortened : (d' : Details) (i' : Image) → KeepsHeaders image i' → IsHeap i' new.heap → DetailsStand new name d' → StandsWith i' free new node d'
  stands_shortened d' i' k heap ds = continues image free s node d st i' k new d' heap (tiled_kept image i' free (ground new.heap) (ground new.heap) k (λ q. refl) tiled_now) extents_stand
      (λ q g e. st.owners q g (extent_was q g e)) records_stand lists_stand ds other_details refl
