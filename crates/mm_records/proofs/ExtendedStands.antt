-- After a new extent was linked in, chains, lists and maps stand again.
use Rattle.std.proofs.Common.{◌≡◌, ◌≢◌, ℕ, ℤ, pos, ◌+◌, ◌-◌, ◌≤◌, inl, inr, Bool, true, false, List, [], ◌∷◌, ◌++◌, length, Option, Some, None, refl, sym, ◌∙◌, ap, subst, arith}
use Rattle.std.specs.Prelude.{◌&&◌, ◌==◌, if◌then◌else◌, flat_map, sum_by}
use Rattle.std.specs.Option.{option_map}
use Rattle.std.proofs.lemmas.Bool.{cases_Bool, false≢true}
use Rattle.std.proofs.lemmas.Grind.{flat_map-append}
use Rattle.std.proofs.lemmas.List.{append-nil}
use Rattle.mm_ranges.specs.Overlay.{Image}
use Rattle.mm_frames.specs.Texts.{text_in}
use Rattle.mm_frames.specs.declared.extent_header.ExtentHeader.{ExtentHeader}
use Rattle.mm_frames.specs.declared.details.Details.{Details}
use Rattle.mm_base.specs.declared.place.DiskLoc.{DiskLoc}
use Rattle.mm_links.specs.Links.{Place, same, has, first_of, last_of, next_in, appended, IsLinked}
use Rattle.mm_links.proofs.LinkLaws.{same_is, same_own, same_not, if_true, if_false, has_here, has_before, last_next, relinked}
use Rattle.mm_links.proofs.Appending.{has_appended, has_stays, has_new, linked_on}
use Rattle.mm_extents.specs.Heap.{Cell, extent, live, deleted}
use Rattle.mm_extents.specs.Changes.{loc_or, ofs_or, behind_of}
use Rattle.mm_extents.specs.Files.{unused_in}
use Rattle.mm_extents.specs.Tiling.{an_extent, outline, ground}
use Rattle.mm_extents.specs.Chains.{ext_next, ext_prev, ExtentsStand}
use Rattle.mm_records.specs.Constants.{is_name}
use Rattle.mm_records.specs.Shape.{Shape, list_for, rec_next, rec_prev}
use Rattle.mm_records.specs.Stands.{RecordsStand, ListsStand, NamesEnds, room_of, walk}
use Rattle.mm_records.specs.Map.{ofs_of, extent_of, owner, live_room, live_at}
use Rattle.mm_records.specs.Extending.{extended_shape}
use Rattle.mm_records.proofs.Freed.{name_is, name_own}
use Rattle.mm_records.proofs.Owning.{extent_there}
use Rattle.mm_records.proofs.Pushed.{lists_pushed}
use Rattle.mm_records.proofs.Extended as x
use Rattle.mm_records.proofs.Extended.{plain, Plainly, Grows}

some_same : {A : Type 0} (a b : A) → Some a ≡ Some b → a ≡ b
some_same a b e = cc

-- ---- what plain cells tell

pub next_plainly : Plainly rec_next
next_plainly = record { law = at }
  where
    at : (o : Option Cell) → rec_next (plain o) ≡ rec_next o
    at None = refl
    at (Some (extent h)) = refl
    at (Some (live h room)) = refl
    at (Some (deleted h rest)) = refl

pub prev_plainly : Plainly rec_prev
prev_plainly = record { law = at }
  where
    at : (o : Option Cell) → rec_prev (plain o) ≡ rec_prev o
    at None = refl
    at (Some (extent h)) = refl
    at (Some (live h room)) = refl
    at (Some (deleted h rest)) = refl

pub room_plainly : Plainly room_of
room_plainly = record { law = at }
  where
    at : (o : Option Cell) → room_of (plain o) ≡ room_of o
    at None = refl
    at (Some (extent h)) = refl
    at (Some (live h room)) = refl
    at (Some (deleted h rest)) = refl

pub live_plainly : Plainly live_room
live_plainly = record { law = at }
  where
    at : (o : Option Cell) → live_room (plain o) ≡ live_room o
    at None = refl
    at (Some (extent h)) = refl
    at (Some (live h room)) = refl
    at (Some (deleted h rest)) = refl

module _ (image : Image) (free : List ℕ) (s : Shape) (node : ℕ) (d : Details) (len : ℕ) (g : Grows image free s node d len) where
  abbrev name : List ℕ
  name = x.name image free s node d len g

  abbrev e : Place
  e = g.e

  abbrev b : Place
  b = behind_of g.e 176

  abbrev pub new : Shape
  new = extended_shape free name g.e g.n g.chain g.t s

  -- ---- which chain a name has

  pub names_apart : (m k : List ℕ) → (m ≡ k → ⊥) → is_name m k ≡ false
  names_apart m k ne = elim (cases_Bool (is_name m k)) [ inl y ↦ absurd (ne (name_is m k y)) | inr n ↦ n ]

  pub chain_free : (m : List ℕ) → is_name m free ≡ true → new.extents m ≡ g.chain
  chain_free m y = if_true (is_name m free) g.chain (if is_name m name then appended (s.extents m) e else s.extents m) y

  pub chain_own : (m : List ℕ) → is_name m free ≡ false → is_name m name ≡ true → new.extents m ≡ appended (s.extents m) e
  chain_own m n y = if_false (is_name m free) g.chain (if is_name m name then appended (s.extents m) e else s.extents m) n ∙ if_true (is_name m name) (appended (s.extents m) e) (s.extents m) y

  pub chain_other : (m : List ℕ) → is_name m free ≡ false → is_name m name ≡ false → new.extents m ≡ s.extents m
  chain_other m n k = if_false (is_name m free) g.chain (if is_name m name then appended (s.extents m) e else s.extents m) n ∙ if_false (is_name m name) (appended (s.extents m) e) (s.extents m) k

  not_free : (m : List ℕ) → is_name m free ≡ false → m ≢ free
  not_free m n f = false≢true (sym n ∙ name_own m free f)

  not_own : (m : List ℕ) → is_name m name ≡ false → m ≢ name
  not_own m n f = false≢true (sym n ∙ name_own m name f)

  -- ---- the chains of extents

  abbrev Links : List Place → Type 0
  Links ps = IsLinked loc_or ps (λ q. ext_next (new.heap q)) (λ q. ext_prev (new.heap q))

  linked_free : Links g.chain
  linked_free = relinked loc_or g.chain (λ q. ext_next (g.t q)) (λ q. ext_prev (g.t q)) (λ q. ext_next (new.heap q)) (λ q. ext_prev (new.heap q)) g.frees.linked
      (λ q i. ap ext_next (x.free_stays image free s node d len g q i)) (λ q i. ap ext_prev (x.free_stays image free s node d len g q i))

  linked_own : Links (appended (s.extents name) e)
  linked_own = linked_on loc_or (s.extents name) (λ q. ext_next (s.heap q)) (λ q. ext_prev (s.heap q)) (λ q. ext_next (new.heap q)) (λ q. ext_prev (new.heap q)) e (g.st.extents.linked name) off
      (ap ext_next (x.u_here image free s node d len g)) (ap ext_prev (x.u_here image free s node d len g))
      (λ q f. x.u_last image free s node d len g q f)
      (λ q r f. x.u_next image free s node d len g name q (x.isnt image free s node d len g) (has_of q r f) (λ y k. before_last q r f y k))
      (λ q i. x.u_prev image free s node d len g name q (x.isnt image free s node d len g) i)
    where
      off : has (s.extents name) e ≡ false
      off = elim (cases_Bool (has (s.extents name) e)) [ inl y ↦ absurd (false≢true (sym (x.off_e image free s node d len g name e (x.isnt image free s node d len g) y) ∙ same_own e)) | inr n ↦ n ]

      has_of : (q r : Place) → next_in (s.extents name) q ≡ Some r → has (s.extents name) q ≡ true
      has_of q r f = has_before (s.extents name) q r f

      before_last : (q r : Place) → next_in (s.extents name) q ≡ Some r → (y : Place) → last_of (s.extents name) ≡ Some y → same y q ≡ false
      before_last q r f y k = same_not y q (λ z. (let n = last_next (s.extents name) y (g.st.extents.linked name).no_twice k in let c : None ≡ Some r = sym n ∙ ap (next_in (s.extents name)) z ∙ f in cc))

  linked_other : (m : List ℕ) → m ≢ free → m ≢ name → Links (s.extents m)
  linked_other m nf ne = relinked loc_or (s.extents m) (λ q. ext_next (s.heap q)) (λ q. ext_prev (s.heap q)) (λ q. ext_next (new.heap q)) (λ q. ext_prev (new.heap q)) (g.st.extents.linked m)
      (λ q i. x.u_next image free s node d len g m q nf i (λ y f. x.not_last image free s node d len g m q ne i y f)) (λ q i. x.u_prev image free s node d len g m q nf i)

  abbrev OnChains : List ℕ → Place → Type 0
  OnChains m q = (h : ExtentHeader) × (new.heap q ≡ Some (extent h)) × (text_in h.namespace ≡ m)

  on_old : (m : List ℕ) (q : Place) → m ≢ free → has (s.extents m) q ≡ true → OnChains m q
  on_old m q nf i =
      let y = g.st.extents.on_chain m q i in
      let z = x.extent_stays image free s node d len g q y.0 (x.off_e image free s node d len g m q nf i) y.1 in
      (z.h, z.is, ap text_in z.name_is ∙ y.2)

  on_free : (q : Place) → has g.chain q ≡ true → OnChains free q
  on_free q i = let y = g.frees.on_chain q i in (y.0, x.free_stays image free s node d len g q i ∙ y.1, y.2)

  on_new : OnChains name e
  on_new = (x.new_header image free s node d len g, x.u_here image free s node d len g, x.named image free s node d len g)

  on_chain_now : (m : List ℕ) (q : Place) → has (new.extents m) q ≡ true → OnChains m q
  on_chain_now m q i = elim (cases_Bool (is_name m free)) [
    | inl y ↦ subst (λ (k : List ℕ). OnChains k q) (sym (name_is m free y)) (on_free q (ap (λ (ps : List Place). has ps q) (sym (chain_free m y)) ∙ i))
    | inr n ↦ elim (cases_Bool (is_name m name)) [
      | inl y ↦ elim (has_appended (s.extents m) e q (ap (λ (ps : List Place). has ps q) (sym (chain_own m n y)) ∙ i)) [
        | inl old ↦ on_old m q (not_free m n) old
        | inr f ↦ subst (λ (k : List ℕ). OnChains k q) (sym (name_is m name y)) (subst (λ (p : Place). OnChains name p) (sym f) on_new)
      ]
      | inr k ↦ on_old m q (not_free m n) (ap (λ (ps : List Place). has ps q) (sym (chain_other m n k)) ∙ i)
    ]
  ]

  all_now : (q : Place) (h : ExtentHeader) → new.heap q ≡ Some (extent h) → has (new.extents (text_in h.namespace)) q ≡ true
  all_now q h i = elim (cases_Bool (same e q)) [
    | inl y ↦
        let cells : extent (x.new_header image free s node d len g) ≡ extent h = some_same (extent (x.new_header image free s node d len g)) (extent h) (sym (x.u_here image free s node d len g) ∙ ap new.heap (same_is e q y) ∙ i) in
        let heads : x.new_header image free s node d len g ≡ h = cc in
        let m : text_in h.namespace ≡ name = ap (λ (z : ExtentHeader). text_in z.namespace) (sym heads) ∙ x.named image free s node d len g in
        ap (λ (ps : List Place). has ps q) (ap new.extents m ∙ chain_own name (names_apart name free (x.isnt image free s node d len g)) (name_own name name refl)) ∙ ap (has (appended (s.extents name) e)) (sym (same_is e q y)) ∙ has_new (s.extents name) e
    | inr ne ↦
        let was = x.extent_was image free s node d len g q h ne i in
        let names : text_in was.h.namespace ≡ text_in h.namespace = ap text_in was.name_is in
        let old : has (s.extents (text_in h.namespace)) q ≡ true = ap (λ (m : List ℕ). has (s.extents m) q) (sym names) ∙ g.st.extents.all q was.h was.is in
        kept (text_in h.namespace) q ne old
  ]
    where
      kept : (m : List ℕ) (q : Place) → same e q ≡ false → has (s.extents m) q ≡ true → has (new.extents m) q ≡ true
      kept m q ne old = elim (cases_Bool (is_name m free)) [
        | inl y ↦ ap (λ (ps : List Place). has ps q) (chain_free m y) ∙ x.free_has image free s node d len g q ne (ap (λ (k : List ℕ). has (s.extents k) q) (sym (name_is m free y)) ∙ old)
        | inr n ↦ elim (cases_Bool (is_name m name)) [
          | inl y ↦ ap (λ (ps : List Place). has ps q) (chain_own m n y) ∙ has_stays (s.extents m) e q old
          | inr k ↦ ap (λ (ps : List Place). has ps q) (chain_other m n k) ∙ old
        ]
      ]

  pub extents_stand : ExtentsStand new.heap new.extents
  extents_stand = record {
    linked = λ m. elim (cases_Bool (is_name m free)) [
      | inl y ↦ subst Links (sym (chain_free m y)) linked_free
      | inr n ↦ elim (cases_Bool (is_name m name)) [
        | inl y ↦ subst Links (ap (λ (k : List ℕ). appended (s.extents k) e) (sym (name_is m name y)) ∙ sym (chain_own m n y)) linked_own
        | inr k ↦ subst Links (sym (chain_other m n k)) (linked_other m (not_free m n) (not_own m k))
      ]
    ];
    on_chain = on_chain_now;
    all = all_now;
  }

  -- ---- the chains of records

  -- no record is of the new extent
  pub no_record : (q : Place) → has (s.records e) q ≡ true → ⊥
  no_record q i =
      let y = g.st.records.on_chain e q i in
      let w = g.st.tiled.blocks q.0 q.1 (16 + length y.room) y.h.extent_ofs y.h.length_with_headers (ap (λ (o : Option Cell). option_map outline o) y.there) in
      let hm = w.1.1.of_extent in
      let ofs : pos w.0 ≡ pos e.1 = sym w.1.1.extent_place ∙ y.of_extent in
      let second : w.0 ≡ e.1 = cc in
      let place : (q.0, w.0) ≡ e = λ j. (y.file j, second j) in
      let there : ground s.heap e ≡ Some (an_extent hm.magic hm.here hm.name (pos w.1.0)) = ap (ground s.heap) (sym place) ∙ hm.is in
      let z = extent_there (s.heap e) hm.magic hm.here hm.name (pos w.1.0) there in
      hm.isnt_free (one_name hm.magic z.0.magic hm.here z.0.my_loc hm.name z.0.namespace (pos w.1.0) z.0.len (sym there ∙ ap (λ (o : Option Cell). option_map outline o) z.1) (x.e_free image free s node d len g z.0 z.1))
    where
      one_name : (m m' : ℕ) (l l' : DiskLoc) (a c : List ℕ) (u v : ℤ) → Some (an_extent m l a u) ≡ Some (an_extent m' l' c v) → text_in c ≡ free → text_in a ≡ free
      one_name m m' l l' a c u v f k = (let same_name : a ≡ c = cc in ap text_in same_name ∙ k)

  pub none_there : s.records e ≡ []
  none_there = by (s.records e) refl
    where
      by : (ps : List Place) → s.records e ≡ ps → s.records e ≡ []
      by [] f = f
      by (q ∷ qs) f = absurd (no_record q (ap (λ (ps : List Place). has ps q) f ∙ has_here q qs q (same_own q)))

  -- a live record stays as it is
  pub next_stays : (f q : Place) → has (s.records f) q ≡ true → rec_next (new.heap q) ≡ rec_next (s.heap q)
  next_stays f q i = let y = g.st.records.on_chain f q i in ap rec_next (x.live_stays image free s node d len g q y.h y.room y.there ∙ sym y.there)

  pub prev_stays : (f q : Place) → has (s.records f) q ≡ true → rec_prev (new.heap q) ≡ rec_prev (s.heap q)
  prev_stays f q i = let y = g.st.records.on_chain f q i in ap rec_prev (x.live_stays image free s node d len g q y.h y.room y.there ∙ sym y.there)

  pub records_stand : RecordsStand free new
  records_stand = record {
    linked = λ f. relinked ofs_or (s.records f) (λ q. rec_next (s.heap q)) (λ q. rec_prev (s.heap q)) (λ q. rec_next (new.heap q)) (λ q. rec_prev (new.heap q)) (g.st.records.linked f) (next_stays f) (prev_stays f);
    on_chain = λ f q i. let y = g.st.records.on_chain f q i in record { h = y.h; room = y.room; there = x.live_stays image free s node d len g q y.h y.room y.there; file = y.file; of_extent = y.of_extent };
    all = λ q h room a i k. g.st.records.all q h room a (x.live_was image free s node d len g q h room i) k;
    ends = ends;
  }
    where
      ends : (f : Place) (h : ExtentHeader) → new.heap f ≡ Some (extent h) → text_in h.namespace ≢ free → NamesEnds h (s.records f)
      ends f h i nf = elim (cases_Bool (same e f)) [
        | inl y ↦
            let cells : extent (x.new_header image free s node d len g) ≡ extent h = some_same (extent (x.new_header image free s node d len g)) (extent h) (sym (x.u_here image free s node d len g) ∙ ap new.heap (same_is e f y) ∙ i) in
            let heads : x.new_header image free s node d len g ≡ h = cc in
            let none : s.records f ≡ [] = ap s.records (sym (same_is e f y)) ∙ none_there in
            record {
              first = ap (λ (z : ExtentHeader). z.first_record) (sym heads) ∙ ap (λ (ps : List Place). loc_or (first_of ps)) (sym none);
              last = ap (λ (z : ExtentHeader). z.last_record) (sym heads) ∙ ap (λ (ps : List Place). loc_or (last_of ps)) (sym none);
            }
        | inr ne ↦
            let was = x.extent_was image free s node d len g f h ne i in
            let y = g.st.records.ends f was.h was.is (λ z. nf (ap text_in (sym was.name_is) ∙ z)) in
            record { first = sym was.first_is ∙ y.first; last = sym was.last_is ∙ y.last }
      ]

  -- ---- the lists

  pub room_long : 16 + length g.fresh.rest ≡ g.n - 176
  room_long = let y = g.fresh.rest_long in let z = long in omega (arith, y, z)
    where
      -- the new extent has a page at least
      long : 4096 ≤ g.n
      long =
          let w = g.frees.tiled.extents e.0 e.1 (x.new_header image free s node d len g).magic (x.new_header image free s node d len g).my_loc (x.new_header image free s node d len g).namespace (x.new_header image free s node d len g).len (ap (λ (o : Option Cell). option_map outline o) g.fresh.here) in
          let some = w.2.1.some in
          let same_len : pos g.n ≡ pos w.2.0 = w.2.1.long in
          let same_n : g.n ≡ w.2.0 = cc in
          omega (arith, some, same_n)

  pub lists_stand : ListsStand new
  lists_stand =
      lists_pushed s new (unused_in image) free name b e.1 (x.new_block image free s node d len g) g.fresh.rest (x.new_header image free s node d len g) g.st.lists g.st.tiled
      (λ h r i. (let z : None ≡ Some (deleted h r) = sym (x.b_none image free s node d len g) ∙ i in cc)) (x.u_behind image free s node d len g) refl (x.u_here image free s node d len g) (x.named image free s node d len g)
      (ap (λ (k : ℕ). loc_or (first_of (s.lists name (list_for k)))) (sym room_long))
      (λ q h r ne i. x.deleted_was image free s node d len g q h r ne i)
      (λ q h r i. x.deleted_stays image free s node d len g q h r i)
      (λ q h i nf. let y = x.extent_stays image free s node d len g q h (same_not e q (λ f. nf (x.e_free image free s node d len g h (ap s.heap f ∙ i)))) i in record { h = y.h; is = y.is; name_is = y.name_is })
      (λ m i. ap (λ (k : ℕ). if is_name m name && i == list_for k then b ∷ s.lists m i else s.lists m i) (sym room_long))

  -- ---- the map

  owner_plainly : Plainly owner
  owner_plainly = record { law = at }
    where
      at : (o : Option Cell) → owner (plain o) ≡ owner o
      at None = refl
      at (Some (extent h)) = refl
      at (Some (live h room)) = refl
      at (Some (deleted h rest)) = refl

  pub map_stays : (m : List ℕ) (q : Place) → live_at new m q ≡ live_at s m q
  map_stays m q = by (s.heap q) refl
    where
      none_of : (o c : Option Cell) → live_room o ≡ None → live_room c ≡ None → (if is_name (owner (new.heap (extent_of q o))) m then live_room o else None) ≡ (if is_name (owner (s.heap (extent_of q c))) m then live_room c else None)
      none_of o c f k = none_either (is_name (owner (new.heap (extent_of q o))) m) (live_room o) f ∙ sym (none_either (is_name (owner (s.heap (extent_of q c))) m) (live_room c) k)
        where
          none_either : {A : Type 0} (t : Bool) (y : Option A) → y ≡ None → (if t then y else None) ≡ None
          none_either true y z = z
          none_either false y z = refl

      rooms : live_room (new.heap q) ≡ live_room (s.heap q)
      rooms = x.alike image free s node d len g live_room live_plainly q (sym (e_room (s.heap e) refl)) refl
        where
          e_room : (o : Option Cell) → s.heap e ≡ o → live_room o ≡ None
          e_room None f = refl
          e_room (Some (extent h)) f = refl
          e_room (Some (live h room)) f = absurd (x.e_isnt_live image free s node d len g h room f)
          e_room (Some (deleted h rest)) f = refl

      by : (c : Option Cell) → s.heap q ≡ c → live_at new m q ≡ live_at s m q
      by None f = none_of (new.heap q) (s.heap q) (rooms ∙ ap live_room f) (ap live_room f)
      by (Some (extent h)) f = none_of (new.heap q) (s.heap q) (rooms ∙ ap live_room f) (ap live_room f)
      by (Some (deleted h rest)) f = none_of (new.heap q) (s.heap q) (rooms ∙ ap live_room f) (ap live_room f)
      by (Some (live h room)) f =
          let now = x.live_stays image free s node d len g q h room f in
          let w = g.st.tiled.blocks q.0 q.1 (16 + length room) h.extent_ofs h.length_with_headers (ap (λ (o : Option Cell). option_map outline o) f) in
          let hm = w.1.1.of_extent in
          let z = extent_there (s.heap (q.0, w.0)) hm.magic hm.here hm.name (pos w.1.0) hm.is in
          let home : extent_of q (Some (live h room)) ≡ (q.0, w.0) = ap (λ (k : ℤ). (q.0, ofs_of k)) w.1.1.extent_place in
          let ne : same e (q.0, w.0) ≡ false = same_not e (q.0, w.0) (λ k. hm.isnt_free (one_name hm.magic z.0.magic hm.here z.0.my_loc hm.name z.0.namespace (pos w.1.0) z.0.len (sym hm.is ∙ ap (λ (o : Option Cell). option_map outline o) z.1) (x.e_free image free s node d len g z.0 (ap s.heap k ∙ z.1)))) in
          let stays = x.extent_stays image free s node d len g (q.0, w.0) z.0 ne z.1 in
          let names : owner (new.heap (q.0, w.0)) ≡ owner (s.heap (q.0, w.0)) = ap owner stays.is ∙ ap text_in stays.name_is ∙ sym (ap owner z.1) in
          let owners : owner (new.heap (extent_of q (new.heap q))) ≡ owner (s.heap (extent_of q (s.heap q))) =
          ap (λ (o : Option Cell). owner (new.heap (extent_of q o))) now ∙ ap (λ (p : Place). owner (new.heap p)) home ∙ names ∙ sym (ap (λ (o : Option Cell). owner (s.heap (extent_of q o))) f ∙ ap (λ (p : Place). owner (s.heap p)) home) in
          λ i. if is_name (owners i) m then rooms i else None
        where
          one_name : (m m' : ℕ) (l l' : DiskLoc) (a c : List ℕ) (u v : ℤ) → Some (an_extent m l a u) ≡ Some (an_extent m' l' c v) → text_in c ≡ free → text_in a ≡ free
          one_name m m' l l' a c u v f k = (let same_name : a ≡ c = cc in ap text_in same_name ∙ k)

  -- ---- the counts

  pub rooms_stay : (q : Place) → room_of (new.heap q) ≡ room_of (s.heap q)
  rooms_stay q = x.alike image free s node d len g room_of room_plainly q (sym (e_room (s.heap e) refl)) refl
    where
      e_room : (o : Option Cell) → s.heap e ≡ o → room_of o ≡ 0
      e_room None f = refl
      e_room (Some (extent h)) f = refl
      e_room (Some (live h room)) f = absurd (x.e_isnt_live image free s node d len g h room f)
      e_room (Some (deleted h rest)) f = refl

  pub walk_own : walk new name ≡ walk s name
  walk_own =
      ap (flat_map s.records) (chain_own name (names_apart name free (x.isnt image free s node d len g)) (name_own name name refl)) ∙ flat_map-append s.records (s.extents name) (e ∷ [])
      ∙ ap (λ (ps : List Place). flat_map s.records (s.extents name) ++ (ps ++ [])) none_there ∙ append-nil (flat_map s.records (s.extents name))

  pub walk_other : (m : List ℕ) → m ≢ free → m ≢ name → walk new m ≡ walk s m
  walk_other m nf ne = ap (flat_map s.records) (chain_other m (names_apart m free nf) (names_apart m name ne))

  pub sum_stays : (ps : List Place) → sum_by (λ q. room_of (new.heap q)) ps ≡ sum_by (λ q. room_of (s.heap q)) ps
  sum_stays ps = ap (λ (w : Place → ℕ). sum_by w ps) (λ i q. rooms_stay q i)
