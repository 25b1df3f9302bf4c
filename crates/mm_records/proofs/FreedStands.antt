-- After a record was freed, chains, lists and outline stand again.
use Rattle.std.proofs.Common.{◌≡◌, ◌≢◌, ℕ, pos, ◌+◌, inl, inr, Bool, true, false, List, ◌∷◌, length, Option, Some, sym, ◌∙◌, ap, subst}
use Rattle.std.specs.Prelude.{◌&&◌, ◌==◌, not, if◌then◌else◌}
use Rattle.std.specs.Option.{option_map}
use Rattle.std.proofs.lemmas.Bool.{cases_Bool, false≢true, eqb-true, eq-eqb}
use Rattle.mm_base.specs.declared.place.DiskLoc.{DiskLoc}
use Rattle.mm_frames.specs.declared.extent_header.ExtentHeader.{ExtentHeader}
use Rattle.mm_frames.specs.declared.rec_header.RecHeader.{RecHeader}
use Rattle.mm_frames.specs.declared.deleted_header.DeletedHeader.{DeletedHeader}
use Rattle.mm_links.specs.Links.{Place, same, has, once, first_of, next_in, without, is, IsLinked}
use Rattle.mm_links.proofs.LinkLaws.{same_is, same_not, not_same, both, if_true, if_false, has_next, has_more, has_there, has_here, has_without, has_of_without, next_here, next_there, next_absent, isnt_some, unlinked, relinked}
use Rattle.mm_extents.specs.Heap.{Cell, extent, live, deleted, Heap}
use Rattle.mm_extents.specs.Changes.{loc_or, ofs_or, freed}
use Rattle.mm_extents.proofs.Writes.{changed_here, changed_there}
use Rattle.mm_extents.specs.Tiling.{outline, ground}
use Rattle.mm_extents.specs.Chains.{ext_next, ext_prev, ExtentsStand}
use Rattle.mm_frames.specs.Texts.{text_in}
use Rattle.mm_records.specs.Constants.{is_name}
use Rattle.mm_records.specs.Shape.{Shape, list_for, rec_next, rec_prev}
use Rattle.mm_records.specs.Stands.{RecordsStand, ListsStand, ext_len, IsRecord, IsDeleted, NamesEnds}
use Rattle.mm_records.specs.Freeing.{bypassed, freed_shape}
use Rattle.mm_records.proofs.Cells.{stays, core, ext_first, ext_last, LiveAt, live_core, deleted_core, ExtentAs, extent_core, core_ext_next, core_ext_prev, core_outline, core_ext_len, freed_ext_len, freed_ext_next, freed_ext_prev, freed_outline}
use Rattle.mm_records.proofs.Freed.{name_is, name_own, core_aft, next_aft, prev_aft, first_aft, last_aft, first_other, last_other}

pair : (b c : Bool) → b ≡ true → c ≡ true → (b && c) ≡ true
pair b c e f = ap (λ (x : Bool). x && c) e ∙ f

module _ {free : List ℕ} (s : Shape) (p : Place) (h : RecHeader) (room : List ℕ) (a : ℕ) (hh : ExtentHeader) (es : ExtentsStand s.heap s.extents) (rs : RecordsStand free s) (ls : ListsStand s)
    (here : s.heap p ≡ Some (live h room)) (ext : h.extent_ofs ≡ pos a) (there : s.heap (p.0, a) ≡ Some (extent hh)) where
  abbrev e : Place
  e = (p.0, a)

  abbrev chain : List Place
  chain = s.records (p.0, a)

  abbrev name : List ℕ
  name = text_in hh.namespace

  abbrev len : ℕ
  len = 16 + length room

  abbrev old_list : List Place
  old_list = s.lists name (list_for len)

  abbrev next : DiskLoc
  next = loc_or (first_of old_list)

  abbrev mid : Heap
  mid = bypassed p.0 a h.prev_ofs h.next_ofs s.heap

  abbrev new : Shape
  new = freed_shape name a p h len s

  pub cores : (q : Place) → core (mid q) ≡ core (s.heap q)
  cores q = core_aft s p h room a rs here ext q

  -- the record itself
  pub mid_here : LiveAt (mid p) h.extent_ofs h.length_with_headers room
  mid_here = live_core (mid p) h room (cores p ∙ ap core here)

  pub new_here : new.heap p ≡ Some (deleted (record { length_with_headers = mid_here.h.length_with_headers; extent_ofs = mid_here.h.extent_ofs; next_deleted = next }) room)
  new_here = changed_here p (freed next) mid (live mid_here.h room) mid_here.is

  -- any other place
  new_there : (q : Place) → same p q ≡ false → new.heap q ≡ mid q
  new_there q ne = changed_there p q (freed next) mid ne

  pub other : (q : Place) → same p q ≡ false → core (new.heap q) ≡ core (s.heap q)
  other q ne = ap core (new_there q ne) ∙ cores q

  turned : (q : Place) → same q p ≡ false → same p q ≡ false
  turned q ne = same_not p q (λ f. not_same q p ne (sym f))

  -- a record, a block or an extent was there before
  live_was : (q : Place) (g : RecHeader) (r : List ℕ) → new.heap q ≡ Some (live g r) → (same p q ≡ false) × LiveAt (s.heap q) g.extent_ofs g.length_with_headers r
  live_was q g r i = elim (cases_Bool (same p q)) [
    | inl y ↦ absurd (let f : Some (deleted (record { length_with_headers = mid_here.h.length_with_headers; extent_ofs = mid_here.h.extent_ofs; next_deleted = next }) room) ≡ Some (live g r) = sym new_here ∙ ap new.heap (same_is p q y) ∙ i in cc)
    | inr n ↦ (n, live_core (s.heap q) g r (sym (other q n) ∙ ap core i))
  ]

  pub extent_was : (q : Place) (g : ExtentHeader) → new.heap q ≡ Some (extent g) → (same p q ≡ false) × ExtentAs (s.heap q) g
  extent_was q g i = elim (cases_Bool (same p q)) [
    | inl y ↦ absurd (let f : Some (deleted (record { length_with_headers = mid_here.h.length_with_headers; extent_ofs = mid_here.h.extent_ofs; next_deleted = next }) room) ≡ Some (extent g) = sym new_here ∙ ap new.heap (same_is p q y) ∙ i in cc)
    | inr n ↦ (n, extent_core (s.heap q) g (sym (other q n) ∙ ap core i))
  ]

  isnt_p : (q : Place) (c : Cell) → s.heap q ≡ Some c → (live h room ≡ c → ⊥) → same p q ≡ false
  isnt_p q c i ne = same_not p q (λ f. ne (some_same (live h room) c (sym here ∙ ap s.heap f ∙ i)))
    where
      some_same : (x y : Cell) → Some x ≡ Some y → x ≡ y
      some_same x y e = cc

  extent_stays : (q : Place) (g : ExtentHeader) → s.heap q ≡ Some (extent g) → ExtentAs (new.heap q) g
  extent_stays q g i = extent_core (new.heap q) g (other q (isnt_p q (extent g) i (λ f. cc)) ∙ ap core i)

  -- ---- the outline, and the chains of extents

  pub ground_same : (q : Place) → ground new.heap q ≡ ground s.heap q
  ground_same q = stays (λ o. option_map outline o) (freed next) (freed_outline next) p mid q ∙ sym (core_outline (mid q)) ∙ ap (λ (o : Option Cell). option_map outline o) (cores q) ∙ core_outline (s.heap q)

  ext_next_same : (q : Place) → ext_next (new.heap q) ≡ ext_next (s.heap q)
  ext_next_same q = stays ext_next (freed next) (freed_ext_next next) p mid q ∙ sym (core_ext_next (mid q)) ∙ ap ext_next (cores q) ∙ core_ext_next (s.heap q)

  ext_prev_same : (q : Place) → ext_prev (new.heap q) ≡ ext_prev (s.heap q)
  ext_prev_same q = stays ext_prev (freed next) (freed_ext_prev next) p mid q ∙ sym (core_ext_prev (mid q)) ∙ ap ext_prev (cores q) ∙ core_ext_prev (s.heap q)

  pub ext_len_same : (q : Place) → ext_len (new.heap q) ≡ ext_len (s.heap q)
  ext_len_same q = stays ext_len (freed next) (freed_ext_len next) p mid q ∙ sym (core_ext_len (mid q)) ∙ ap ext_len (cores q) ∙ core_ext_len (s.heap q)

  pub extents_stand : ExtentsStand new.heap new.extents
  extents_stand = record {
    linked = λ m. relinked loc_or (s.extents m) (λ q. ext_next (s.heap q)) (λ q. ext_prev (s.heap q)) (λ q. ext_next (new.heap q)) (λ q. ext_prev (new.heap q)) (es.linked m) (λ q _. ext_next_same q) (λ q _. ext_prev_same q);
    on_chain = λ m q i. let t = es.on_chain m q i in let n = extent_stays q t.0 t.1 in (n.h, n.is, ap text_in n.name_is ∙ t.2);
    all = λ q g i. let t = extent_was q g i in subst (λ (m : List ℕ). has (s.extents (text_in m)) q ≡ true) t.1.name_is (es.all q t.1.h t.1.is);
  }

  -- ---- the chains of records

  next_new : (q : Place) → same q p ≡ false → rec_next (new.heap q) ≡ (if is (next_in chain q) p then rec_next (s.heap p) else rec_next (s.heap q))
  next_new q ne = ap rec_next (new_there q (turned q ne)) ∙ next_aft s p h room a rs here ext q

  prev_new : (q : Place) → same q p ≡ false → rec_prev (new.heap q) ≡ (if is (next_in chain p) q then rec_prev (s.heap p) else rec_prev (s.heap q))
  prev_new q ne = ap rec_prev (new_there q (turned q ne)) ∙ prev_aft s p h room a rs here ext q

  on : has chain p ≡ true
  on = rs.all p h room a here ext

  -- a record of another extent isn't on this chain
  pub elsewhere : (f q : Place) → same f (p.0, a) ≡ false → has (s.records f) q ≡ true → has chain q ≡ false
  elsewhere f q ne i = elim (cases_Bool (has chain q)) [
    | inl y ↦ absurd (not_same f (p.0, a) ne (one_extent f (p.0, a) q (rs.on_chain f q i) (rs.on_chain (p.0, a) q y)))
    | inr n ↦ n
  ]
    where
      one_extent : (f g q : Place) → IsRecord s.heap f q → IsRecord s.heap g q → f ≡ g
      one_extent f g q r t =
          let cells : Some (live r.h r.room) ≡ Some (live t.h t.room) = sym r.there ∙ t.there in
          let heads : r.h ≡ t.h = cc in
          let ofs : pos f.1 ≡ pos g.1 = sym r.of_extent ∙ ap (λ (x : RecHeader). x.extent_ofs) heads ∙ t.of_extent in
          let second : f.1 ≡ g.1 = cc in
          let first : f.0 ≡ g.0 = sym r.file ∙ t.file in
          λ i. (first i, second i)

  records_of : (f : Place) → same f (p.0, a) ≡ true → new.records f ≡ without p (s.records f)
  records_of f y = if_true (same f (p.0, a)) (without p (s.records f)) (s.records f) y

  records_other : (f : Place) → same f (p.0, a) ≡ false → new.records f ≡ s.records f
  records_other f n = if_false (same f (p.0, a)) (without p (s.records f)) (s.records f) n

  -- what is on a chain now was on it before, and isn't the record that was freed
  was_on : (f q : Place) → has (new.records f) q ≡ true → (has (s.records f) q ≡ true) × (same q p ≡ false)
  was_on f q i = elim (cases_Bool (same f (p.0, a))) [
    | inl y ↦ has_of_without (s.records f) p q (ap (λ (xs : List Place). has xs q) (sym (records_of f y)) ∙ i)
    | inr n ↦
        let old : has (s.records f) q ≡ true = ap (λ (xs : List Place). has xs q) (sym (records_other f n)) ∙ i in
        (old, same_not q p (λ g. false≢true (sym (elsewhere f q n old) ∙ ap (has chain) g ∙ on)))
  ]

  linked_new : (f : Place) → IsLinked ofs_or (new.records f) (λ q. rec_next (new.heap q)) (λ q. rec_prev (new.heap q))
  linked_new f = elim (cases_Bool (same f (p.0, a))) [
    | inl y ↦
        let same_extent = same_is f (p.0, a) y in
        let whole : new.records f ≡ without p chain = records_of f y ∙ ap (λ (g : Place). without p (s.records g)) same_extent in
        subst (λ (xs : List Place). IsLinked ofs_or xs (λ q. rec_next (new.heap q)) (λ q. rec_prev (new.heap q))) (sym whole)
        (unlinked ofs_or chain (λ q. rec_next (s.heap q)) (λ q. rec_prev (s.heap q)) (λ q. rec_next (new.heap q)) (λ q. rec_prev (new.heap q)) p (rs.linked (p.0, a)) on (λ q _ ne. next_new q ne) (λ q _ ne. prev_new q ne))
    | inr n ↦
        subst (λ (xs : List Place). IsLinked ofs_or xs (λ q. rec_next (new.heap q)) (λ q. rec_prev (new.heap q))) (sym (records_other f n))
        (relinked ofs_or (s.records f) (λ q. rec_next (s.heap q)) (λ q. rec_prev (s.heap q)) (λ q. rec_next (new.heap q)) (λ q. rec_prev (new.heap q)) (rs.linked f)
        (λ q i. let gone = elsewhere f q n i in
        next_new q (off q gone) ∙ if_false (is (next_in chain q) p) (rec_next (s.heap p)) (rec_next (s.heap q)) (ap (λ (o : Option Place). is o p) (next_absent chain q gone)))
        (λ q i. let gone = elsewhere f q n i in
        prev_new q (off q gone) ∙ if_false (is (next_in chain p) q) (rec_prev (s.heap p)) (rec_prev (s.heap q)) (isnt_some (next_in chain p) q (λ g. false≢true (sym gone ∙ has_next chain p q g)))))
  ]
    where
      off : (q : Place) → has chain q ≡ false → same q p ≡ false
      off q gone = same_not q p (λ g. false≢true (sym gone ∙ ap (has chain) g ∙ on))

  on_chain_new : (f q : Place) → has (new.records f) q ≡ true → IsRecord new.heap f q
  on_chain_new f q i =
      let t = was_on f q i in
      let r = rs.on_chain f q t.0 in
      let l = live_core (new.heap q) r.h r.room (other q (turned q t.1) ∙ ap core r.there) in
      record { h = l.h; room = r.room; there = l.is; file = r.file; of_extent = l.ext_is ∙ r.of_extent }

  all_new : (q : Place) (g : RecHeader) (r : List ℕ) (b : ℕ) → new.heap q ≡ Some (live g r) → g.extent_ofs ≡ pos b → has (new.records (q.0, b)) q ≡ true
  all_new q g r b i x =
      let t = live_was q g r i in
      let old = rs.all q t.1.h r b t.1.is (t.1.ext_is ∙ x) in
      elim (cases_Bool (same (q.0, b) (p.0, a))) [
        | inl y ↦ ap (λ (xs : List Place). has xs q) (records_of (q.0, b) y) ∙ has_without (s.records (q.0, b)) p q (same_not q p (λ f. not_same p q t.0 (sym f))) ∙ old
        | inr n ↦ ap (λ (xs : List Place). has xs q) (records_other (q.0, b) n) ∙ old
      ]

  ends_new : (f : Place) (g : ExtentHeader) → new.heap f ≡ Some (extent g) → text_in g.namespace ≢ free → NamesEnds g (new.records f)
  ends_new f g i nf =
      let t = extent_was f g i in
      let names = rs.ends f t.1.h t.1.is (λ z. nf (ap text_in (sym t.1.name_is) ∙ z)) in
      let at : new.heap f ≡ mid f = new_there f t.0 in
      elim (cases_Bool (same f (p.0, a))) [
        | inl y ↦
            let same_extent = same_is f (p.0, a) y in
            let there' : s.heap (p.0, a) ≡ Some (extent t.1.h) = ap s.heap (sym same_extent) ∙ t.1.is in
            let whole : new.records f ≡ without p chain = records_of f y ∙ ap (λ (x : Place). without p (s.records x)) same_extent in
            let names' : NamesEnds t.1.h chain = subst (λ (x : Place). NamesEnds t.1.h (s.records x)) same_extent names in
            subst (λ (xs : List Place). NamesEnds g xs) (sym whole) (record {
              first = sym (ap ext_first i) ∙ ap ext_first (at ∙ ap mid same_extent) ∙ first_aft s p h room a rs here ext t.1.h there' names'.first;
              last = sym (ap ext_last i) ∙ ap ext_last (at ∙ ap mid same_extent) ∙ last_aft s p h room a rs here ext t.1.h there' names'.last;
            })
        | inr n ↦
            subst (λ (xs : List Place). NamesEnds g xs) (sym (records_other f n)) (record {
              first = sym (ap ext_first i) ∙ ap ext_first at ∙ first_other s p h room a rs here ext f n ∙ ap ext_first t.1.is ∙ names.first;
              last = sym (ap ext_last i) ∙ ap ext_last at ∙ last_other s p h room a rs here ext f n ∙ ap ext_last t.1.is ∙ names.last;
            })
      ]

  pub records_stand : RecordsStand free new
  records_stand = record { linked = linked_new; on_chain = on_chain_new; all = all_new; ends = ends_new }

  -- ---- the deleted lists

  lists_of : (m : List ℕ) (i : ℕ) → (is_name m name && i == list_for len) ≡ true → new.lists m i ≡ p ∷ s.lists m i
  lists_of m i y = if_true (is_name m name && i == list_for len) (p ∷ s.lists m i) (s.lists m i) y

  lists_other : (m : List ℕ) (i : ℕ) → (is_name m name && i == list_for len) ≡ false → new.lists m i ≡ s.lists m i
  lists_other m i n = if_false (is_name m name && i == list_for len) (p ∷ s.lists m i) (s.lists m i) n

  -- a live record is on no list
  off_lists : (m : List ℕ) (i : ℕ) → has (s.lists m i) p ≡ false
  off_lists m i = elim (cases_Bool (has (s.lists m i) p)) [
    | inl y ↦ let d = ls.on_list m i p y in absurd (let f : Some (live h room) ≡ Some (deleted d.h d.rest) = sym here ∙ d.there in cc)
    | inr n ↦ n
  ]

  -- a block that was deleted before
  deleted_stays : (m : List ℕ) (i : ℕ) (o : Option Place) (q : Place) → IsDeleted s.heap m i o q → IsDeleted new.heap m i o q
  deleted_stays m i o q d =
      let x = extent_stays (q.0, d.of_extent.0) d.of_extent.1 d.of_extent.3 in
      record {
        h = d.h;
        rest = d.rest;
        there = deleted_core (new.heap q) d.h d.rest (other q (isnt_p q (deleted d.h d.rest) d.there (λ f. cc)) ∙ ap core d.there);
        names_next = d.names_next;
        right_list = d.right_list;
        of_extent = (d.of_extent.0, x.h, d.of_extent.2, x.is, ap text_in x.name_is ∙ d.of_extent.4);
      }

  freed_is : (m : List ℕ) (i : ℕ) → m ≡ name → i ≡ list_for len → IsDeleted new.heap m i (first_of (s.lists m i)) p
  freed_is m i em ei =
      let x = extent_stays (p.0, a) hh there in
      record {
        h = record { length_with_headers = mid_here.h.length_with_headers; extent_ofs = mid_here.h.extent_ofs; next_deleted = next };
        rest = room;
        there = new_here;
        names_next = λ k. loc_or (first_of (s.lists (sym em k) (sym ei k)));
        right_list = sym ei;
        of_extent = (a, x.h, mid_here.ext_is ∙ ext, x.is, ap text_in x.name_is ∙ sym em);
      }

  on_list_new : (m : List ℕ) (i : ℕ) (q : Place) → has (new.lists m i) q ≡ true → IsDeleted new.heap m i (next_in (new.lists m i) q) q
  on_list_new m i q x = elim (cases_Bool (is_name m name && i == list_for len)) [
    | inl y ↦
        let t = both (is_name m name) (i == list_for len) y in
        subst (λ (xs : List Place). IsDeleted new.heap m i (next_in xs q) q) (sym (lists_of m i y)) (elim (cases_Bool (same p q)) [
          | inl z ↦ subst (λ (o : Option Place). IsDeleted new.heap m i o q) (sym (next_here p (s.lists m i) q z))
              (subst (λ (r : Place). IsDeleted new.heap m i (first_of (s.lists m i)) r) (same_is p q z) (freed_is m i (name_is m name t.0) (eqb-true i (list_for len) t.1)))
          | inr n ↦ subst (λ (o : Option Place). IsDeleted new.heap m i o q) (sym (next_there p (s.lists m i) q n))
              (deleted_stays m i (next_in (s.lists m i) q) q (ls.on_list m i q (sym (has_there p (s.lists m i) q n) ∙ ap (λ (xs : List Place). has xs q) (sym (lists_of m i y)) ∙ x)))
        ])
    | inr n ↦
        subst (λ (xs : List Place). IsDeleted new.heap m i (next_in xs q) q) (sym (lists_other m i n))
        (deleted_stays m i (next_in (s.lists m i) q) q (ls.on_list m i q (ap (λ (xs : List Place). has xs q) (sym (lists_other m i n)) ∙ x)))
  ]

  no_twice_new : (m : List ℕ) (i : ℕ) → once (new.lists m i) ≡ true
  no_twice_new m i = elim (cases_Bool (is_name m name && i == list_for len)) [
    | inl y ↦ ap once (lists_of m i y) ∙ pair (not (has (s.lists m i) p)) (once (s.lists m i)) (ap not (off_lists m i)) (ls.no_twice m i)
    | inr n ↦ ap once (lists_other m i n) ∙ ls.no_twice m i
  ]

  has_kept : (m : List ℕ) (i : ℕ) (q : Place) → has (s.lists m i) q ≡ true → has (new.lists m i) q ≡ true
  has_kept m i q x = elim (cases_Bool (is_name m name && i == list_for len)) [
    | inl y ↦ ap (λ (xs : List Place). has xs q) (lists_of m i y) ∙ has_more p (s.lists m i) q x
    | inr n ↦ ap (λ (xs : List Place). has xs q) (lists_other m i n) ∙ x
  ]

  all_lists_new : (q : Place) (g : DeletedHeader) (r : List ℕ) (b : ℕ) (xh : ExtentHeader) → new.heap q ≡ Some (deleted g r) → g.extent_ofs ≡ pos b → new.heap (q.0, b) ≡ Some (extent xh)
      → has (new.lists (text_in xh.namespace) (list_for (16 + length r))) q ≡ true
  all_lists_new q g r b xh i x k =
      let was = extent_was (q.0, b) xh k in
      elim (cases_Bool (same p q)) [
        | inl y ↦
            let pq = same_is p q y in
            let cells : Some (deleted (record { length_with_headers = mid_here.h.length_with_headers; extent_ofs = mid_here.h.extent_ofs; next_deleted = next }) room) ≡ Some (deleted g r) = sym new_here ∙ ap new.heap pq ∙ i in
            let rooms : room ≡ r = cc in
            let heads : record { length_with_headers = mid_here.h.length_with_headers; extent_ofs = mid_here.h.extent_ofs; next_deleted = next } ≡ g = cc in
            let ofs : pos a ≡ pos b = sym ext ∙ sym mid_here.ext_is ∙ ap (λ (z : DeletedHeader). z.extent_ofs) heads ∙ x in
            let ab : a ≡ b = cc in
            let extents : Some (extent hh) ≡ Some (extent was.1.h) = sym there ∙ ap s.heap (λ j. ((pq j).0, ab j)) ∙ was.1.is in
            let hs : hh ≡ was.1.h = cc in
            let named : text_in xh.namespace ≡ name = ap text_in (sym was.1.name_is ∙ ap (λ (z : ExtentHeader). z.namespace) (sym hs)) in
            let classed : list_for (16 + length r) ≡ list_for len = ap (λ (xs : List ℕ). list_for (16 + length xs)) (sym rooms) in
            let yes' = pair (is_name (text_in xh.namespace) name) (list_for (16 + length r) == list_for len) (name_own (text_in xh.namespace) name named) (eq-eqb (list_for (16 + length r)) (list_for len) classed) in
            ap (λ (xs : List Place). has xs q) (lists_of (text_in xh.namespace) (list_for (16 + length r)) yes') ∙ has_here p (s.lists (text_in xh.namespace) (list_for (16 + length r))) q y
        | inr n ↦
            let old = deleted_core (s.heap q) g r (sym (other q n) ∙ ap core i) in
            let on_old = ls.all q g r b was.1.h old x was.1.is in
            has_kept (text_in xh.namespace) (list_for (16 + length r)) q (subst (λ (m : List ℕ). has (s.lists (text_in m) (list_for (16 + length r))) q ≡ true) was.1.name_is on_old)
      ]

  pub lists_stand : ListsStand new
  lists_stand = record { no_twice = no_twice_new; on_list = on_list_new; all = all_lists_new }
