-- After a block was taken for a record, chains, lists and outline stand again.
use Rattle.std.proofs.Common.{◌≡◌, ◌≢◌, ℕ, pos, ◌+◌, inl, inr, true, false, List, length, Option, Some, None, refl, sym, ◌∙◌, ap, subst}
use Rattle.std.specs.Option.{option_map}
use Rattle.std.proofs.lemmas.Bool.{cases_Bool, false≢true}
use Rattle.mm_frames.specs.Texts.{text_in}
use Rattle.mm_frames.specs.declared.extent_header.ExtentHeader.{ExtentHeader}
use Rattle.mm_frames.specs.declared.rec_header.RecHeader.{RecHeader}
use Rattle.mm_frames.specs.declared.deleted_header.DeletedHeader.{DeletedHeader}
use Rattle.mm_links.specs.Links.{Place, StandsBefore, same, has, once, last_of, next_in, appended, without, is, IsLinked}
use Rattle.mm_links.proofs.LinkLaws.{same_is, same_own, same_not, not_same, if_true, if_false, has_next, has_before, has_without, has_of_without, next_without, once_without, without_none, is_some, isnt_some, some_is, relinked, last_next, has_last}
use Rattle.mm_links.proofs.Appending.{has_appended, has_stays, has_new, last_new, linked_on}
use Rattle.mm_extents.specs.Heap.{Cell, extent, live, deleted}
use Rattle.mm_extents.specs.Changes.{loc_or, ofs_or}
use Rattle.mm_extents.specs.Tiling.{outline, ground}
use Rattle.mm_extents.specs.Chains.{ext_next, ext_prev, ExtentsStand}
use Rattle.mm_records.specs.Shape.{Shape, list_for, rec_next, rec_prev}
use Rattle.mm_records.specs.Stands.{RecordsStand, ListsStand, IsRecord, IsDeleted, NamesEnds, ext_len, room_of}
use Rattle.mm_records.specs.Taking.{IsBlockAt, taken_shape}
use Rattle.mm_records.proofs.Cells.{ext_first, ext_last}
use Rattle.mm_records.proofs.Bare.{bare, block_next, live_bare, deleted_bare, ExtentLike, extent_bare, bare_ext_next, bare_ext_prev, bare_ext_len, bare_outline, bare_room}
use Rattle.mm_records.proofs.Taken.{new_head, bare_aft, here_aft, next_aft, prev_aft, first_aft, last_aft, first_other, last_other, block_aft}

some_same : {A : Type 0} (x y : A) → Some x ≡ Some y → x ≡ y
some_same x y e = cc

module _ {free : List ℕ} (s : Shape) (p : Place) (h : DeletedHeader) (rest : List ℕ) (a : ℕ) (hh : ExtentHeader) (before : Option Place) (es : ExtentsStand s.heap s.extents) (rs : RecordsStand free s) (ls : ListsStand s)
    (here : s.heap p ≡ Some (deleted h rest)) (ext : h.extent_ofs ≡ pos a) (there : s.heap (p.0, a) ≡ Some (extent hh)) (stands : StandsBefore (s.lists (text_in hh.namespace) (list_for (16 + length rest))) before p) where
  abbrev name : List ℕ
  name = text_in hh.namespace

  abbrev list : List Place
  list = s.lists (text_in hh.namespace) (list_for (16 + length rest))

  abbrev chain : List Place
  chain = s.records (p.0, a)

  abbrev new : Shape
  new = taken_shape p a before h.next_deleted s

  pub one : once list ≡ true
  one = ls.no_twice name (list_for (16 + length rest))

  pub blocks : (q : Place) → has list q ≡ true → IsBlockAt s.heap q
  blocks q i = let d = ls.on_list name (list_for (16 + length rest)) q i in record { h = d.h; rest = d.rest; is = d.there }

  pub other : (q : Place) → same p q ≡ false → bare (new.heap q) ≡ bare (s.heap q)
  other q ne = bare_aft s p h rest a hh list before rs here there one stands blocks q ne

  pub new_here : new.heap p ≡ Some (live (new_head s p h rest a hh list before rs here there one stands blocks) rest)
  new_here = here_aft s p h rest a hh list before rs here there one stands blocks

  turned : (q : Place) → same q p ≡ false → same p q ≡ false
  turned q ne = same_not p q (λ f. not_same q p ne (sym f))

  isnt_p : (q : Place) (c : Cell) → s.heap q ≡ Some c → (deleted h rest ≡ c → ⊥) → same p q ≡ false
  isnt_p q c i ne = same_not p q (λ f. ne (some_same (deleted h rest) c (sym here ∙ ap s.heap f ∙ i)))

  isnt_new : (q : Place) (c : Cell) → new.heap q ≡ Some c → (live (new_head s p h rest a hh list before rs here there one stands blocks) rest ≡ c → ⊥) → same p q ≡ false
  isnt_new q c i ne = same_not p q (λ f. ne (some_same (live (new_head s p h rest a hh list before rs here there one stands blocks) rest) c (sym new_here ∙ ap new.heap f ∙ i)))

  pub extent_was : (q : Place) (g : ExtentHeader) → new.heap q ≡ Some (extent g) → ExtentLike (s.heap q) g
  extent_was q g i = extent_bare (s.heap q) g (sym (other q (isnt_new q (extent g) i (λ f. cc))) ∙ ap bare i)

  extent_stays : (q : Place) (g : ExtentHeader) → s.heap q ≡ Some (extent g) → ExtentLike (new.heap q) g
  extent_stays q g i = extent_bare (new.heap q) g (other q (isnt_p q (extent g) i (λ f. cc)) ∙ ap bare i)

  -- what is the same of a block and a record is the same everywhere
  pub alike : {X : Type 0} (proj : Option Cell → X) → ((o : Option Cell) → proj (bare o) ≡ proj o) → proj (Some (live (new_head s p h rest a hh list before rs here there one stands blocks) rest)) ≡ proj (Some (deleted h rest)) → (q : Place) → proj (new.heap q) ≡ proj (s.heap q)
  alike {X} proj law e q = elim (cases_Bool (same p q)) [
    | inl y ↦ ap (λ (r : Place). proj (new.heap r)) (sym (same_is p q y)) ∙ ap proj new_here ∙ e ∙ sym (ap proj here) ∙ ap (λ (r : Place). proj (s.heap r)) (same_is p q y)
    | inr n ↦ sym (law (new.heap q)) ∙ ap proj (other q n) ∙ law (s.heap q)
  ]

  pub ground_same : (q : Place) → ground new.heap q ≡ ground s.heap q
  ground_same q = alike (λ o. option_map outline o) bare_outline refl q

  pub ext_len_same : (q : Place) → ext_len (new.heap q) ≡ ext_len (s.heap q)
  ext_len_same q = alike ext_len bare_ext_len refl q

  pub room_other : (q : Place) → same q p ≡ false → room_of (new.heap q) ≡ room_of (s.heap q)
  room_other q ne = sym (bare_room (new.heap q)) ∙ ap room_of (other q (turned q ne)) ∙ bare_room (s.heap q)

  pub extents_stand : ExtentsStand new.heap new.extents
  extents_stand = record {
    linked = λ m. relinked loc_or (s.extents m) (λ q. ext_next (s.heap q)) (λ q. ext_prev (s.heap q)) (λ q. ext_next (new.heap q)) (λ q. ext_prev (new.heap q)) (es.linked m) (λ q _. alike ext_next bare_ext_next refl q) (λ q _. alike ext_prev bare_ext_prev refl q);
    on_chain = λ m q i. let t = es.on_chain m q i in let n = extent_stays q t.0 t.1 in (n.h, n.is, ap text_in n.name_is ∙ t.2);
    all = λ q g i. let t = extent_was q g i in subst (λ (m : List ℕ). has (s.extents (text_in m)) q ≡ true) t.name_is (es.all q t.h t.is);
  }

  -- ---- the chains of records

  pub off_chain : (f : Place) → has (s.records f) p ≡ false
  off_chain f = elim (cases_Bool (has (s.records f) p)) [
    | inl y ↦ let r = rs.on_chain f p y in absurd (let x : Some (live r.h r.room) ≡ Some (deleted h rest) = sym r.there ∙ here in cc)
    | inr n ↦ n
  ]

  on_isnt : (f q : Place) → has (s.records f) q ≡ true → same p q ≡ false
  on_isnt f q i = same_not p q (λ g. false≢true (sym (off_chain f) ∙ ap (λ (r : Place). has (s.records f) r) g ∙ i))

  records_of : (f : Place) → same f (p.0, a) ≡ true → new.records f ≡ appended (s.records f) p
  records_of f y = if_true (same f (p.0, a)) (appended (s.records f) p) (s.records f) y

  records_other : (f : Place) → same f (p.0, a) ≡ false → new.records f ≡ s.records f
  records_other f n = if_false (same f (p.0, a)) (appended (s.records f) p) (s.records f) n

  -- a record of another extent isn't the last of this one
  not_last : (f q : Place) → same f (p.0, a) ≡ false → has (s.records f) q ≡ true → is (last_of chain) q ≡ false
  not_last f q ne i = isnt_some (last_of chain) q (λ g. not_same f (p.0, a) ne (one_extent f (p.0, a) q (rs.on_chain f q i) (rs.on_chain (p.0, a) q (has_last chain q g))))
    where
      one_extent : (f g q : Place) → IsRecord s.heap f q → IsRecord s.heap g q → f ≡ g
      one_extent f g q r t =
          let cells : Some (live r.h r.room) ≡ Some (live t.h t.room) = sym r.there ∙ t.there in
          let heads : r.h ≡ t.h = cc in
          let ofs : pos f.1 ≡ pos g.1 = sym r.of_extent ∙ ap (λ (x : RecHeader). x.extent_ofs) heads ∙ t.of_extent in
          let second : f.1 ≡ g.1 = cc in
          let first : f.0 ≡ g.0 = sym r.file ∙ t.file in
          λ i. (first i, second i)

  next_same : (q : Place) → same p q ≡ false → is (last_of chain) q ≡ false → rec_next (new.heap q) ≡ rec_next (s.heap q)
  next_same q ne off = next_aft s p h rest a hh list before rs here there one stands blocks q ne ∙ if_false (is (last_of chain) q) (pos p.1) (rec_next (s.heap q)) off

  prev_same : (q : Place) → same p q ≡ false → rec_prev (new.heap q) ≡ rec_prev (s.heap q)
  prev_same q ne = prev_aft s p h rest a hh list before rs here there one stands blocks q ne

  linked_new : (f : Place) → IsLinked ofs_or (new.records f) (λ q. rec_next (new.heap q)) (λ q. rec_prev (new.heap q))
  linked_new f = elim (cases_Bool (same f (p.0, a))) [
    | inl y ↦
        let whole : new.records f ≡ appended chain p = records_of f y ∙ ap (λ (g : Place). appended (s.records g) p) (same_is f (p.0, a) y) in
        subst (λ (xs : List Place). IsLinked ofs_or xs (λ q. rec_next (new.heap q)) (λ q. rec_prev (new.heap q))) (sym whole)
        (linked_on ofs_or chain (λ q. rec_next (s.heap q)) (λ q. rec_prev (s.heap q)) (λ q. rec_next (new.heap q)) (λ q. rec_prev (new.heap q)) p (rs.linked (p.0, a)) (off_chain (p.0, a))
        (ap rec_next new_here) (ap rec_prev new_here)
        (λ q l. next_aft s p h rest a hh list before rs here there one stands blocks q (on_isnt (p.0, a) q (has_last chain q l)) ∙ if_true (is (last_of chain) q) (pos p.1) (rec_next (s.heap q)) (some_is (last_of chain) q l))
        (λ q r e. next_same q (on_isnt (p.0, a) q (has_before chain q r e)) (isnt_some (last_of chain) q (λ l. (let x : Some r ≡ None = sym e ∙ last_next chain q (rs.linked (p.0, a)).no_twice l in cc))))
        (λ q i. prev_same q (on_isnt (p.0, a) q i)))
    | inr n ↦
        subst (λ (xs : List Place). IsLinked ofs_or xs (λ q. rec_next (new.heap q)) (λ q. rec_prev (new.heap q))) (sym (records_other f n))
        (relinked ofs_or (s.records f) (λ q. rec_next (s.heap q)) (λ q. rec_prev (s.heap q)) (λ q. rec_next (new.heap q)) (λ q. rec_prev (new.heap q)) (rs.linked f)
        (λ q i. next_same q (on_isnt f q i) (not_last f q n i)) (λ q i. prev_same q (on_isnt f q i)))
  ]

  record_stays : (f q : Place) → IsRecord s.heap f q → same p q ≡ false → IsRecord new.heap f q
  record_stays f q r ne =
      let l = live_bare (new.heap q) r.h r.room (other q ne ∙ ap bare r.there) in
      record { h = l.h; room = r.room; there = l.is; file = r.file; of_extent = l.ext_is ∙ r.of_extent }

  on_chain_new : (f q : Place) → has (new.records f) q ≡ true → IsRecord new.heap f q
  on_chain_new f q i = elim (cases_Bool (same f (p.0, a))) [
    | inl y ↦ elim (has_appended (s.records f) p q (ap (λ (xs : List Place). has xs q) (sym (records_of f y)) ∙ i)) [
      | inl old ↦ record_stays f q (rs.on_chain f q old) (on_isnt f q old)
      | inr e ↦ subst (λ (x : Place × Place). IsRecord new.heap x.0 x.1) (let g : ((p.0, a), p) ≡ (f, q) = λ j. (sym (same_is f (p.0, a) y) j, sym e j) in g)
          (let r : IsRecord new.heap (p.0, a) p = record { h = new_head s p h rest a hh list before rs here there one stands blocks; room = rest; there = new_here; file = refl; of_extent = ext } in r)
    ]
    | inr n ↦ let old = ap (λ (xs : List Place). has xs q) (sym (records_other f n)) ∙ i in record_stays f q (rs.on_chain f q old) (on_isnt f q old)
  ]

  all_new : (q : Place) (g : RecHeader) (r : List ℕ) (b : ℕ) → new.heap q ≡ Some (live g r) → g.extent_ofs ≡ pos b → has (new.records (q.0, b)) q ≡ true
  all_new q g r b i x = elim (cases_Bool (same p q)) [
    | inl y ↦
        let pq = same_is p q y in
        let cells : Some (live (new_head s p h rest a hh list before rs here there one stands blocks) rest) ≡ Some (live g r) = sym new_here ∙ ap new.heap pq ∙ i in
        let heads : new_head s p h rest a hh list before rs here there one stands blocks ≡ g = cc in
        let ofs : pos a ≡ pos b = sym ext ∙ ap (λ (z : RecHeader). z.extent_ofs) heads ∙ x in
        let ab : a ≡ b = cc in
        subst (λ (z : Place × ℕ). has (new.records (z.0.0, z.1)) z.0 ≡ true) (let e : (p, a) ≡ (q, b) = λ j. (pq j, ab j) in e)
        (ap (λ (xs : List Place). has xs p) (records_of (p.0, a) (same_own (p.0, a))) ∙ has_new (s.records (p.0, a)) p)
    | inr n ↦
        let l = live_bare (s.heap q) g r (sym (other q n) ∙ ap bare i) in
        let old = rs.all q l.h r b l.is (l.ext_is ∙ x) in
        elim (cases_Bool (same (q.0, b) (p.0, a))) [
          | inl y ↦ ap (λ (xs : List Place). has xs q) (records_of (q.0, b) y) ∙ has_stays (s.records (q.0, b)) p q old
          | inr m ↦ ap (λ (xs : List Place). has xs q) (records_other (q.0, b) m) ∙ old
        ]
  ]

  ends_new : (f : Place) (g : ExtentHeader) → new.heap f ≡ Some (extent g) → text_in g.namespace ≢ free → NamesEnds g (new.records f)
  ends_new f g i nf =
      let t = extent_was f g i in
      let used : text_in t.h.namespace ≢ free = λ z. nf (ap text_in (sym t.name_is) ∙ z) in
      let names = rs.ends f t.h t.is used in
      let ne = isnt_new f (extent g) i (λ z. cc) in
      elim (cases_Bool (same f (p.0, a))) [
        | inl y ↦
            let same_extent = same_is f (p.0, a) y in
            let own_ends : NamesEnds hh chain = rs.ends (p.0, a) hh there (λ z. used (ap text_in (one_name hh t.h (sym there ∙ ap s.heap (sym same_extent) ∙ t.is)) ∙ z)) in
            let whole : new.records f ≡ appended chain p = records_of f y ∙ ap (λ (x : Place). appended (s.records x) p) same_extent in
            subst (λ (xs : List Place). NamesEnds g xs) (sym whole) (record {
              first = sym (ap ext_first i) ∙ ap (λ (x : Place). ext_first (new.heap x)) same_extent ∙ first_aft s p h rest a hh list before rs here there one stands blocks own_ends.first;
              last = sym (ap ext_last i) ∙ ap (λ (x : Place). ext_last (new.heap x)) same_extent ∙ last_aft s p h rest a hh list before rs here there one stands blocks ∙ ap loc_or (sym (last_new chain p));
            })
        | inr n ↦
            subst (λ (xs : List Place). NamesEnds g xs) (sym (records_other f n)) (record {
              first = sym (ap ext_first i) ∙ first_other s p h rest a hh list before rs here there one stands blocks f ne n ∙ ap ext_first t.is ∙ names.first;
              last = sym (ap ext_last i) ∙ last_other s p h rest a hh list before rs here there one stands blocks f ne n ∙ ap ext_last t.is ∙ names.last;
            })
      ]
    where
      one_name : (x y : ExtentHeader) → Some (extent x) ≡ Some (extent y) → y.namespace ≡ x.namespace
      one_name x y e = (let heads : x ≡ y = cc in ap (λ (h : ExtentHeader). h.namespace) (sym heads))

  pub records_stand : RecordsStand free new
  records_stand = record { linked = linked_new; on_chain = on_chain_new; all = all_new; ends = ends_new }

  -- ---- the lists

  on : has list p ≡ true
  on = ls.all p h rest a hh here ext there

  -- a block is on one list
  one_list : (m k : List ℕ) (i j : ℕ) (q : Place) → has (s.lists m i) q ≡ true → has (s.lists k j) q ≡ true → s.lists m i ≡ s.lists k j
  one_list m k i j q x y = by (ls.on_list m i q x) (ls.on_list k j q y)
    where
      by : {o u : Option Place} → IsDeleted s.heap m i o q → IsDeleted s.heap k j u q → s.lists m i ≡ s.lists k j
      by b d =
          let cells : Some (deleted b.h b.rest) ≡ Some (deleted d.h d.rest) = sym b.there ∙ d.there in
          let heads : b.h ≡ d.h = cc in
          let rests : b.rest ≡ d.rest = cc in
          let classed : i ≡ j = sym b.right_list ∙ ap (λ (xs : List ℕ). list_for (16 + length xs)) rests ∙ d.right_list in
          let ofs : pos b.of_extent.0 ≡ pos d.of_extent.0 = sym b.of_extent.2 ∙ ap (λ (z : DeletedHeader). z.extent_ofs) heads ∙ d.of_extent.2 in
          let at : b.of_extent.0 ≡ d.of_extent.0 = cc in
          let extents : Some (extent b.of_extent.1) ≡ Some (extent d.of_extent.1) = sym b.of_extent.3 ∙ ap (λ (z : ℕ). s.heap (q.0, z)) at ∙ d.of_extent.3 in
          let hs : b.of_extent.1 ≡ d.of_extent.1 = cc in
          let named : m ≡ k = sym b.of_extent.4 ∙ ap (λ (z : ExtentHeader). text_in z.namespace) hs ∙ d.of_extent.4 in
          λ z. s.lists (named z) (classed z)

  -- what stands behind a block now
  next_now : (m : List ℕ) (i : ℕ) (q : Place) → has (s.lists m i) q ≡ true → same q p ≡ false → (b : IsDeleted s.heap m i (next_in (s.lists m i) q) q) → block_next (new.heap q) ≡ loc_or (next_in (without p (s.lists m i)) q)
  next_now m i q x ne b = block_aft s p h rest a hh list before rs here there one stands blocks q (turned q ne) ∙ elim (cases_Bool (is (next_in list q) p)) [
    | inl y ↦
        let mine : s.lists m i ≡ list = one_list m name i (list_for (16 + length rest)) q x (has_before list q p (is_some (next_in list q) p y)) in
        if_true (is (next_in list q) p) h.next_deleted (block_next (s.heap q)) y ∙ names_next ∙ ap loc_or (sym (if_true (is (next_in list q) p) (next_in list p) (next_in list q) y) ∙ sym (next_without list p q one ne))
        ∙ ap (λ (xs : List Place). loc_or (next_in (without p xs) q)) (sym mine)
    | inr n ↦
        if_false (is (next_in list q) p) h.next_deleted (block_next (s.heap q)) n ∙ ap block_next b.there ∙ b.names_next
        ∙ ap loc_or (sym (if_false (is (next_in (s.lists m i) q) p) (next_in (s.lists m i) p) (next_in (s.lists m i) q) (not_here n)) ∙ sym (next_without (s.lists m i) p q (ls.no_twice m i) ne))
  ]
    where
      names_next : h.next_deleted ≡ loc_or (next_in list p)
      names_next =
          let d = ls.on_list name (list_for (16 + length rest)) p on in
          let cells : Some (deleted d.h d.rest) ≡ Some (deleted h rest) = sym d.there ∙ here in
          let heads : d.h ≡ h = cc in
          ap (λ (z : DeletedHeader). z.next_deleted) (sym heads) ∙ d.names_next

      not_here : is (next_in list q) p ≡ false → is (next_in (s.lists m i) q) p ≡ false
      not_here n = isnt_some (next_in (s.lists m i) q) p (λ f. (
          let mine : s.lists m i ≡ list = one_list m name i (list_for (16 + length rest)) p (has_next (s.lists m i) q p f) on in
          false≢true (sym n ∙ some_is (next_in list q) p (ap (λ (xs : List Place). next_in xs q) (sym mine) ∙ f))))

  on_list_new : (m : List ℕ) (i : ℕ) (q : Place) → has (new.lists m i) q ≡ true → IsDeleted new.heap m i (next_in (new.lists m i) q) q
  on_list_new m i q x =
      let t = has_of_without (s.lists m i) p q x in
      let b = ls.on_list m i q t.0 in
      let d = deleted_bare (new.heap q) b.h b.rest (other q (turned q t.1) ∙ ap bare b.there) in
      let e = extent_stays (q.0, b.of_extent.0) b.of_extent.1 b.of_extent.3 in
      record {
        h = d.h;
        rest = b.rest;
        there = d.is;
        names_next = sym (ap block_next d.is) ∙ next_now m i q t.0 t.1 b;
        right_list = b.right_list;
        of_extent = (b.of_extent.0, e.h, d.ext_is ∙ b.of_extent.2, e.is, ap text_in e.name_is ∙ b.of_extent.4);
      }

  all_lists_new : (q : Place) (g : DeletedHeader) (r : List ℕ) (b : ℕ) (xh : ExtentHeader) → new.heap q ≡ Some (deleted g r) → g.extent_ofs ≡ pos b → new.heap (q.0, b) ≡ Some (extent xh)
      → has (new.lists (text_in xh.namespace) (list_for (16 + length r))) q ≡ true
  all_lists_new q g r b xh i x k =
      let ne = isnt_new q (deleted g r) i (λ f. cc) in
      let d = deleted_bare (s.heap q) g r (sym (other q ne) ∙ ap bare i) in
      let e = extent_was (q.0, b) xh k in
      let old = ls.all q d.h r b e.h d.is (d.ext_is ∙ x) e.is in
      let named = subst (λ (m : List ℕ). has (s.lists (text_in m) (list_for (16 + length r))) q ≡ true) e.name_is old in
      has_without (s.lists (text_in xh.namespace) (list_for (16 + length r))) p q (same_not q p (λ f. not_same p q ne (sym f))) ∙ named

  pub lists_stand : ListsStand new
  lists_stand = record { no_twice = λ m i. once_without (s.lists m i) p (ls.no_twice m i); on_list = on_list_new; all = all_lists_new }

  -- lists that don't have the block
  pub list_other : (m : List ℕ) (i : ℕ) → has (s.lists m i) p ≡ false → new.lists m i ≡ s.lists m i
  list_other m i n = without_none (s.lists m i) p n

  pub only_list : (m : List ℕ) (i : ℕ) → has (s.lists m i) p ≡ true → (m ≡ name) × (i ≡ list_for (16 + length rest))
  only_list m i x =
      let d = ls.on_list m i p x in
      let cells : Some (deleted d.h d.rest) ≡ Some (deleted h rest) = sym d.there ∙ here in
      let heads : d.h ≡ h = cc in
      let rests : d.rest ≡ rest = cc in
      let ofs : pos d.of_extent.0 ≡ pos a = sym d.of_extent.2 ∙ ap (λ (z : DeletedHeader). z.extent_ofs) heads ∙ ext in
      let at : d.of_extent.0 ≡ a = cc in
      let extents : Some (extent d.of_extent.1) ≡ Some (extent hh) = sym d.of_extent.3 ∙ ap (λ (z : ℕ). s.heap (p.0, z)) at ∙ there in
      let hs : d.of_extent.1 ≡ hh = cc in
      (sym d.of_extent.4 ∙ ap (λ (z : ExtentHeader). text_in z.namespace) hs, sym d.right_list ∙ ap (λ (xs : List ℕ). list_for (16 + length xs)) rests)
