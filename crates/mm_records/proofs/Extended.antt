-- What stands where once a new extent is linked in.
use Rattle.std.proofs.Common.{◌≡◌, ◌≢◌, ℕ, pos, negsuc, ◌+◌, ◌-◌, inl, inr, true, false, List, Option, Some, None, refl, sym, ◌∙◌, ap, arith}
use Rattle.std.specs.Option.{option_map}
use Rattle.std.proofs.lemmas.Bool.{cases_Bool}
use Rattle.mm_base.specs.Bytes.{padded}
use Rattle.mm_base.specs.Places.{null}
use Rattle.mm_base.specs.declared.place.DiskLoc.{DiskLoc}
use Rattle.mm_ranges.specs.Overlay.{Image}
use Rattle.mm_frames.specs.Texts.{text_in}
use Rattle.mm_frames.specs.declared.extent_header.ExtentHeader.{ExtentHeader}
use Rattle.mm_frames.specs.declared.rec_header.RecHeader.{RecHeader}
use Rattle.mm_frames.specs.declared.deleted_header.DeletedHeader.{DeletedHeader}
use Rattle.mm_frames.specs.declared.details.Details.{Details}
use Rattle.mm_frames.specs.declared.free_ends.FreeEnds.{FreeEnds}
use Rattle.mm_links.specs.Links.{Place, same, has, first_of, last_of}
use Rattle.mm_links.proofs.LinkLaws.{same_is, same_not, not_same, has_last, has_without}
use Rattle.mm_extents.specs.Heap.{Cell, extent, live, deleted, Heap, change}
use Rattle.mm_extents.specs.Changes.{loc, loc_or, xnext_set, xprev_set, deleted_next_set, behind_of}
use Rattle.mm_extents.specs.Tiling.{outline, ground}
use Rattle.mm_extents.specs.Chains.{ext_next, ext_prev}
use Rattle.mm_extents.specs.FreeExtents.{HasFree, header_made, whole_block, next_passed, without_links, IsNewExtent}
use Rattle.mm_extents.proofs.Names.{name_again}
use Rattle.mm_extents.proofs.Spots.{low_file}
use Rattle.mm_extents.proofs.FileLaws.{low_place}
use Rattle.mm_extents.proofs.Writes.{changed_here, changed_there}
use Rattle.mm_records.specs.Shape.{Shape, list_for}
use Rattle.mm_records.specs.Map.{name_at}
use Rattle.mm_records.specs.InHand.{StandsWith}
use Rattle.mm_records.specs.Extending.{linked_in}
use Rattle.mm_records.proofs.Cells.{stays}

some_same : {A : Type 0} (x y : A) → Some x ≡ Some y → x ≡ y
some_same x y e = cc

-- a cell without its links to others of its kind but records
abbrev pub plain : Option Cell → Option Cell
plain None = None
plain (Some (extent h)) = Some (extent (record h { xnext = null; xprev = null }))
plain (Some (live h room)) = Some (live h room)
plain (Some (deleted h rest)) = Some (deleted (record h { next_deleted = null }) rest)

plain_links : (o : Option Cell) → plain (without_links o) ≡ plain o
plain_links None = refl
plain_links (Some (extent h)) = refl
plain_links (Some (live h room)) = refl
plain_links (Some (deleted h rest)) = refl

-- what a function says of a plain cell it says of the cell
pub record Plainly {X : Type 0} (proj : Option Cell → X) : Type 0 where
  pub law : (o : Option Cell) → proj (plain o) ≡ proj o

-- the three changes leave a plain cell
xnext_plain : (z : DiskLoc) (c : Cell) → plain (Some (xnext_set z c)) ≡ plain (Some c)
xnext_plain z (extent h) = refl
xnext_plain z (live h room) = refl
xnext_plain z (deleted h rest) = refl

xprev_plain : (z : DiskLoc) (c : Cell) → plain (Some (xprev_set z c)) ≡ plain (Some c)
xprev_plain z (extent h) = refl
xprev_plain z (live h room) = refl
xprev_plain z (deleted h rest) = refl

next_plain : (z : DiskLoc) (c : Cell) → plain (Some (deleted_next_set z c)) ≡ plain (Some c)
next_plain z (extent h) = refl
next_plain z (live h room) = refl
next_plain z (deleted h rest) = refl

passed_plain : (o : Option Place) (z : DiskLoc) (H : Heap) (q : Place) → plain (next_passed o z H q) ≡ plain (H q)
passed_plain None z H q = refl
passed_plain (Some x) z H q = stays plain (xnext_set z) (xnext_plain z) x H q

pub linked_plain : (o : Option Place) (e : Place) (head : DiskLoc) (H : Heap) (q : Place) → plain (linked_in o e head H q) ≡ plain (H q)
linked_plain o e head H q =
    stays plain (deleted_next_set head) (next_plain head) (behind_of e 176) (change e (xprev_set (loc_or o)) (next_passed o (loc e) H)) q
    ∙ stays plain (xprev_set (loc_or o)) (xprev_plain (loc_or o)) e (next_passed o (loc e) H) q ∙ passed_plain o (loc e) H q

pub plain_outline : (o : Option Cell) → option_map outline (plain o) ≡ option_map outline o
plain_outline None = refl
plain_outline (Some (extent h)) = refl
plain_outline (Some (live h room)) = refl
plain_outline (Some (deleted h rest)) = refl

links_outline : (o : Option Cell) → option_map outline (without_links o) ≡ option_map outline o
links_outline None = refl
links_outline (Some (extent h)) = refl
links_outline (Some (live h room)) = refl
links_outline (Some (deleted h rest)) = refl

passed_off : (o : Option Place) (z : DiskLoc) (H : Heap) (q : Place) → ((x : Place) → o ≡ Some x → same x q ≡ false) → next_passed o z H q ≡ H q
passed_off None z H q n = refl
passed_off (Some x) z H q n = changed_there x q (xnext_set z) H (n x refl)

pub record ExtentPlain (o : Option Cell) (like : ExtentHeader) : Type 0 where
  pub h : ExtentHeader
  pub is : o ≡ Some (extent h)
  pub name_is : h.namespace ≡ like.namespace
  pub first_is : h.first_record ≡ like.first_record
  pub last_is : h.last_record ≡ like.last_record
  pub len_is : h.len ≡ like.len

pub extent_plain : (o : Option Cell) (h : ExtentHeader) → plain o ≡ plain (Some (extent h)) → ExtentPlain o h
extent_plain None h e = absurd cc
extent_plain (Some (extent g)) h e =
    let heads : record g { xnext = null; xprev = null } ≡ record h { xnext = null; xprev = null } = cc in
    record {
      h = g;
      is = refl;
      name_is = ap (λ (x : ExtentHeader). x.namespace) heads;
      first_is = ap (λ (x : ExtentHeader). x.first_record) heads;
      last_is = ap (λ (x : ExtentHeader). x.last_record) heads;
      len_is = ap (λ (x : ExtentHeader). x.len) heads;
    }
extent_plain (Some (live g r)) h e = absurd cc
extent_plain (Some (deleted g r)) h e = absurd cc

pub live_plain : (o : Option Cell) (h : RecHeader) (room : List ℕ) → plain o ≡ plain (Some (live h room)) → o ≡ Some (live h room)
live_plain None h room e = absurd cc
live_plain (Some (extent g)) h room e = absurd cc
live_plain (Some (live g r)) h room e = e
live_plain (Some (deleted g r)) h room e = absurd cc

-- a deleted block is one but for its link
pub record DeletedPlain (o : Option Cell) (rest : List ℕ) : Type 0 where
  pub h : DeletedHeader
  pub is : o ≡ Some (deleted h rest)

pub deleted_plain : (o : Option Cell) (h : DeletedHeader) (rest : List ℕ) → plain o ≡ plain (Some (deleted h rest)) → DeletedPlain o rest
deleted_plain None h rest e = absurd cc
deleted_plain (Some (extent g)) h rest e = absurd cc
deleted_plain (Some (live g r)) h rest e = absurd cc
deleted_plain (Some (deleted g r)) h rest e = let same_rest : r ≡ rest = cc in record { h = g; is = ap (λ (x : List ℕ). Some (deleted g x)) same_rest }

links_deleted : (o : Option Cell) (h : DeletedHeader) (rest : List ℕ) → without_links o ≡ Some (deleted h rest) → o ≡ Some (deleted h rest)
links_deleted None h rest e = absurd cc
links_deleted (Some (extent g)) h rest e = absurd cc
links_deleted (Some (live g r)) h rest e = absurd cc
links_deleted (Some (deleted g r)) h rest e = e

-- The files stand with a node's details in hand, and then there is a new extent, which no chain has.
pub record Grows (image : Image) (free : List ℕ) (s : Shape) (node : ℕ) (d : Details) (len : ℕ) : Type 0 where
  pub st : StandsWith image free s node d
  pub t : Heap
  pub e : Place
  pub n : ℕ
  pub chain : List Place
  pub ends : FreeEnds
  pub now : Image
  pub frees : HasFree now free t chain ends
  pub fresh : IsNewExtent image s.heap t (s.extents free) chain e (name_at image node) len n

module _ (image : Image) (free : List ℕ) (s : Shape) (node : ℕ) (d : Details) (len : ℕ) (g : Grows image free s node d len) where
  abbrev pub name : List ℕ
  name = name_at image node

  abbrev pub e : Place
  e = g.e

  abbrev pub b : Place
  b = behind_of g.e 176

  abbrev pub last : Option Place
  last = last_of (s.extents name)

  abbrev pub head : DiskLoc
  head = loc_or (first_of (s.lists name (list_for (g.n - 176))))

  abbrev pub u : Heap
  u = linked_in last g.e head g.t

  pub isnt : name ≢ free
  isnt = g.st.is_node.isnt_free

  pub named : text_in (padded 128 name) ≡ name
  named = name_again name (g.st.table.named node g.st.is_node.used).name

  -- where it is, was nothing or a free extent
  e_was : (c : Cell) → s.heap e ≡ Some c → (h : ExtentHeader) × ((c ≡ extent h) × (text_in h.namespace ≡ free))
  e_was c i = elim g.fresh.placed [
    | inl x ↦ let y = g.st.extents.on_chain free e x.1 in (y.0, (some_same c (extent y.0) (sym i ∙ y.1), y.2))
    | inr x ↦ absurd (let z : None ≡ Some c = sym x.1 ∙ i in cc)
  ]

  pub e_free : (h : ExtentHeader) → s.heap e ≡ Some (extent h) → text_in h.namespace ≡ free
  e_free h i = let x = e_was (extent h) i in let f : h ≡ x.0 = (let k = x.1.0 in cc) in ap (λ (y : ExtentHeader). text_in y.namespace) f ∙ x.1.1

  pub e_isnt_live : (h : RecHeader) (room : List ℕ) → s.heap e ≡ Some (live h room) → ⊥
  e_isnt_live h room i = let k = (e_was (live h room) i).1.0 in cc

  pub e_isnt_deleted : (h : DeletedHeader) (rest : List ℕ) → s.heap e ≡ Some (deleted h rest) → ⊥
  e_isnt_deleted h rest i = let k = (e_was (deleted h rest) i).1.0 in cc

  pub e_isnt_b : same e b ≡ false
  e_isnt_b = same_not e b (λ f. (let k : e.1 ≡ e.1 + 176 = ap (λ (q : Place). q.1) f in omega (arith, k)))

  pub b_isnt_e : same b e ≡ false
  b_isnt_e = same_not b e (λ f. (let k : e.1 + 176 ≡ e.1 = ap (λ (q : Place). q.1) f in omega (arith, k)))

  pub b_none : s.heap b ≡ None
  b_none = g.fresh.empty

  -- the extents of other names than the free chain's
  pub off_e : (m : List ℕ) (q : Place) → m ≢ free → has (s.extents m) q ≡ true → same e q ≡ false
  off_e m q ne i = same_not e q (λ f. (let x = g.st.extents.on_chain m q i in ne (sym x.2 ∙ e_free x.0 (ap s.heap f ∙ x.1))))

  pub off_b : (m : List ℕ) (q : Place) → has (s.extents m) q ≡ true → same b q ≡ false
  off_b m q i = same_not b q (λ f. (let x = g.st.extents.on_chain m q i in let z : None ≡ Some (extent x.0) = sym b_none ∙ ap s.heap f ∙ x.1 in cc))

  one_name : (m k : List ℕ) (q : Place) → has (s.extents m) q ≡ true → has (s.extents k) q ≡ true → m ≡ k
  one_name m k q i j =
      let x = g.st.extents.on_chain m q i in
      let y = g.st.extents.on_chain k q j in
      let cells : extent x.0 ≡ extent y.0 = some_same (extent x.0) (extent y.0) (sym x.1 ∙ y.1) in
      let heads : x.0 ≡ y.0 = cc in
      sym x.2 ∙ ap (λ (z : ExtentHeader). text_in z.namespace) heads ∙ y.2

  pub off_chain : (m : List ℕ) (q : Place) → m ≢ free → has (s.extents m) q ≡ true → has (s.extents free) q ≡ false
  off_chain m q ne i = elim (cases_Bool (has (s.extents free) q)) [ inl y ↦ absurd (ne (one_name m free q i y)) | inr k ↦ k ]

  pub last_on : (x : Place) → last ≡ Some x → has (s.extents name) x ≡ true
  last_on x f = has_last (s.extents name) x f

  pub not_last : (m : List ℕ) (q : Place) → m ≢ name → has (s.extents m) q ≡ true → (x : Place) → last ≡ Some x → same x q ≡ false
  not_last m q ne i x f = same_not x q (λ k. ne (one_name m name q i (ap (λ (z : Place). has (s.extents name) z) (sym k) ∙ last_on x f)))

  -- an extent's place is one
  pub place_isnt_null : (q : Place) → has (s.extents name) q ≡ true → loc q ≡ null → ⊥
  place_isnt_null q i z =
      let c = g.st.extents.on_chain name q i in
      let l = low_place image s.heap q (extent c.0) g.st.files g.st.heap c.1 in
      (let f : pos q.0 ≡ negsuc 0 = sym (low_file q l).0 ∙ ap (λ (w : DiskLoc). w.file) z in cc)

  pub t_kept : (m : List ℕ) (q : Place) → m ≢ free → has (s.extents m) q ≡ true → g.t q ≡ s.heap q
  t_kept m q ne i = g.fresh.same_off q (off_e m q ne i) (off_b m q i) (off_chain m q ne i)

  last_isnt_e : (x : Place) → last ≡ Some x → same x e ≡ false
  last_isnt_e x f = same_not x e (λ k. not_same e x (off_e name x isnt (last_on x f)) (sym k))

  last_isnt_b : (x : Place) → last ≡ Some x → same x b ≡ false
  last_isnt_b x f = same_not x b (λ k. not_same b x (off_b name x (last_on x f)) (sym k))

  -- ---- the heap with all links

  u_exact : (q : Place) → same e q ≡ false → same b q ≡ false → ((x : Place) → last ≡ Some x → same x q ≡ false) → u q ≡ g.t q
  u_exact q ne nb nl =
      changed_there b q (deleted_next_set head) (change e (xprev_set (loc_or last)) (next_passed last (loc e) g.t)) nb
      ∙ changed_there e q (xprev_set (loc_or last)) (next_passed last (loc e) g.t) ne ∙ passed_off last (loc e) g.t q nl

  abbrev pub new_header : ExtentHeader
  new_header = record (header_made g.e name g.n) { xprev = loc_or last }

  pub u_here : u e ≡ Some (extent new_header)
  u_here = changed_there b e (deleted_next_set head) (change e (xprev_set (loc_or last)) (next_passed last (loc e) g.t)) b_isnt_e
      ∙ changed_here e (xprev_set (loc_or last)) (next_passed last (loc e) g.t) (extent (header_made g.e name g.n)) (passed_off last (loc e) g.t e last_isnt_e ∙ g.fresh.here)

  abbrev pub new_block : DeletedHeader
  new_block = record (whole_block g.e g.n) { next_deleted = head }

  pub u_behind : u b ≡ Some (deleted new_block g.fresh.rest)
  u_behind = changed_here b (deleted_next_set head) (change e (xprev_set (loc_or last)) (next_passed last (loc e) g.t)) (deleted (whole_block g.e g.n) g.fresh.rest)
      (changed_there e b (xprev_set (loc_or last)) (next_passed last (loc e) g.t) e_isnt_b ∙ passed_off last (loc e) g.t b last_isnt_b ∙ g.fresh.block)

  u_plain : (q : Place) → same e q ≡ false → same b q ≡ false → plain (u q) ≡ plain (s.heap q)
  u_plain q ne nb = linked_plain last g.e head g.t q ∙ sym (plain_links (g.t q)) ∙ ap plain (g.fresh.others q ne nb) ∙ plain_links (s.heap q)

  -- what a function says of cells, where it says the same of what is new and of what was
  pub alike : {X : Type 0} (proj : Option Cell → X) → Plainly proj → (q : Place) → proj (Some (extent new_header)) ≡ proj (s.heap e) → proj (Some (deleted new_block g.fresh.rest)) ≡ proj None → proj (u q) ≡ proj (s.heap q)
  alike {X} proj p q he hb = elim (cases_Bool (same e q)) [
    | inl y ↦ ap (λ (x : Place). proj (u x)) (sym (same_is e q y)) ∙ ap proj u_here ∙ he ∙ ap (λ (x : Place). proj (s.heap x)) (same_is e q y)
    | inr m ↦ elim (cases_Bool (same b q)) [
      | inl y ↦ ap (λ (x : Place). proj (u x)) (sym (same_is b q y)) ∙ ap proj u_behind ∙ hb ∙ ap proj (sym b_none) ∙ ap (λ (x : Place). proj (s.heap x)) (same_is b q y)
      | inr k ↦ sym (p.law (u q)) ∙ ap proj (u_plain q m k) ∙ p.law (s.heap q)
    ]
  ]

  pub live_stays : (q : Place) (h : RecHeader) (room : List ℕ) → s.heap q ≡ Some (live h room) → u q ≡ Some (live h room)
  live_stays q h room i = live_plain (u q) h room (u_plain q (same_not e q (λ f. e_isnt_live h room (ap s.heap f ∙ i))) (same_not b q (λ f. (let z : None ≡ Some (live h room) = sym b_none ∙ ap s.heap f ∙ i in cc))) ∙ ap plain i)

  -- what isn't new was there
  not_e : (q : Place) (c : Cell) → u q ≡ Some c → ((h : ExtentHeader) → c ≡ extent h → ⊥) → same e q ≡ false
  not_e q c i n = same_not e q (λ f. n new_header (some_same c (extent new_header) (sym i ∙ ap u (sym f) ∙ u_here)))

  not_b : (q : Place) (c : Cell) → u q ≡ Some c → ((h : DeletedHeader) (r : List ℕ) → c ≡ deleted h r → ⊥) → same b q ≡ false
  not_b q c i n = same_not b q (λ f. n new_block g.fresh.rest (some_same c (deleted new_block g.fresh.rest) (sym i ∙ ap u (sym f) ∙ u_behind)))

  pub live_was : (q : Place) (h : RecHeader) (room : List ℕ) → u q ≡ Some (live h room) → s.heap q ≡ Some (live h room)
  live_was q h room i = live_plain (s.heap q) h room (sym (u_plain q (not_e q (live h room) i (λ x f. cc)) (not_b q (live h room) i (λ x r f. cc))) ∙ ap plain i)

  pub extent_stays : (q : Place) (h : ExtentHeader) → same e q ≡ false → s.heap q ≡ Some (extent h) → ExtentPlain (u q) h
  extent_stays q h ne i = extent_plain (u q) h (u_plain q ne (same_not b q (λ f. (let z : None ≡ Some (extent h) = sym b_none ∙ ap s.heap f ∙ i in cc))) ∙ ap plain i)

  pub extent_was : (q : Place) (h : ExtentHeader) → same e q ≡ false → u q ≡ Some (extent h) → ExtentPlain (s.heap q) h
  extent_was q h ne i = extent_plain (s.heap q) h (sym (u_plain q ne (not_b q (extent h) i (λ x r f. cc))) ∙ ap plain i)

  pub deleted_stays : (q : Place) (h : DeletedHeader) (rest : List ℕ) → s.heap q ≡ Some (deleted h rest) → u q ≡ Some (deleted h rest)
  deleted_stays q h rest i =
      let ne = same_not e q (λ f. e_isnt_deleted h rest (ap s.heap f ∙ i)) in
      let nb = same_not b q (λ f. (let z : None ≡ Some (deleted h rest) = sym b_none ∙ ap s.heap f ∙ i in cc)) in
      u_exact q ne nb (λ x f. same_not x q (λ k. (let y = g.st.extents.on_chain name x (last_on x f) in let z : Some (extent y.0) ≡ Some (deleted h rest) = sym y.1 ∙ ap s.heap k ∙ i in cc)))
      ∙ links_deleted (g.t q) h rest (g.fresh.others q ne nb ∙ ap without_links i)

  pub deleted_was : (q : Place) (h : DeletedHeader) (rest : List ℕ) → same b q ≡ false → u q ≡ Some (deleted h rest) → s.heap q ≡ Some (deleted h rest)
  deleted_was q h rest nb i =
      let was = deleted_plain (s.heap q) h rest (sym (u_plain q (not_e q (deleted h rest) i (λ x f. cc)) nb) ∙ ap plain i) in
      let cells : deleted was.h rest ≡ deleted h rest = some_same (deleted was.h rest) (deleted h rest) (sym (deleted_stays q was.h rest was.is) ∙ i) in
      was.is ∙ ap (λ (c : Cell). Some c) cells

  -- ---- links between extents

  prev_next : (z : DiskLoc) (c : Cell) → ext_prev (Some (xnext_set z c)) ≡ ext_prev (Some c)
  prev_next z (extent h) = refl
  prev_next z (live h room) = refl
  prev_next z (deleted h rest) = refl

  passed_prev : (o : Option Place) (z : DiskLoc) (H : Heap) (q : Place) → ext_prev (next_passed o z H q) ≡ ext_prev (H q)
  passed_prev None z H q = refl
  passed_prev (Some x) z H q = stays ext_prev (xnext_set z) (prev_next z) x H q

  pub u_prev : (m : List ℕ) (q : Place) → m ≢ free → has (s.extents m) q ≡ true → ext_prev (u q) ≡ ext_prev (s.heap q)
  u_prev m q ne i =
      ap ext_prev (changed_there b q (deleted_next_set head) (change e (xprev_set (loc_or last)) (next_passed last (loc e) g.t)) (off_b m q i)
      ∙ changed_there e q (xprev_set (loc_or last)) (next_passed last (loc e) g.t) (off_e m q ne i))
      ∙ passed_prev last (loc e) g.t q ∙ ap ext_prev (t_kept m q ne i)

  pub u_next : (m : List ℕ) (q : Place) → m ≢ free → has (s.extents m) q ≡ true → ((x : Place) → last ≡ Some x → same x q ≡ false) → ext_next (u q) ≡ ext_next (s.heap q)
  u_next m q ne i nl = ap ext_next (u_exact q (off_e m q ne i) (off_b m q i) nl ∙ t_kept m q ne i)

  pub u_last : (q : Place) → last ≡ Some q → ext_next (u q) ≡ loc e
  u_last q f =
      let i = last_on q f in
      let y = g.st.extents.on_chain name q i in
      let cell : g.t q ≡ Some (extent y.0) = t_kept name q isnt i ∙ y.1 in
      ap ext_next (changed_there b q (deleted_next_set head) (change e (xprev_set (loc_or last)) (next_passed last (loc e) g.t)) (off_b name q i)
      ∙ changed_there e q (xprev_set (loc_or last)) (next_passed last (loc e) g.t) (off_e name q isnt i)
      ∙ ap (λ (o : Option Place). next_passed o (loc e) g.t q) f ∙ changed_here q (xnext_set (loc e)) g.t (extent y.0) cell)

  -- the free extents that are left
  free_off : (q : Place) → has g.chain q ≡ true → u q ≡ g.t q
  free_off q i =
      let x = g.frees.on_chain q i in
      u_exact q
      (same_not e q (λ f. (let cells : extent (header_made g.e name g.n) ≡ extent x.0 = some_same (extent (header_made g.e name g.n)) (extent x.0) (sym g.fresh.here ∙ ap g.t f ∙ x.1) in
      let heads : header_made g.e name g.n ≡ x.0 = cc in
      isnt (sym named ∙ ap (λ (h : ExtentHeader). text_in h.namespace) heads ∙ x.2))))
      (same_not b q (λ f. (let cells : Some (deleted (whole_block g.e g.n) g.fresh.rest) ≡ Some (extent x.0) = sym g.fresh.block ∙ ap g.t f ∙ x.1 in cc)))
      (λ y f. same_not y q (λ k. (let z = g.st.extents.on_chain name y (last_on y f) in
      let cells : extent z.0 ≡ extent x.0 = some_same (extent z.0) (extent x.0) (sym z.1 ∙ sym (t_kept name y isnt (last_on y f)) ∙ ap g.t k ∙ x.1) in
      let heads : z.0 ≡ x.0 = cc in
      isnt (sym z.2 ∙ ap (λ (h : ExtentHeader). text_in h.namespace) heads ∙ x.2))))

  pub free_stays : (q : Place) → has g.chain q ≡ true → u q ≡ g.t q
  free_stays q i = free_off q i

  pub free_has : (q : Place) → same e q ≡ false → has (s.extents free) q ≡ true → has g.chain q ≡ true
  free_has q ne i = elim g.fresh.placed [
    | inl x ↦ ap (λ (ps : List Place). has ps q) x.2 ∙ has_without (s.extents free) e q (same_not q e (λ f. not_same e q ne (sym f))) ∙ i
    | inr x ↦ ap (λ (ps : List Place). has ps q) x.2 ∙ i
  ]

  pub ground_t : (q : Place) → ground u q ≡ ground g.t q
  ground_t q = sym (plain_outline (u q)) ∙ ap (λ (o : Option Cell). option_map outline o) (linked_plain last g.e head g.t q) ∙ plain_outline (g.t q)

  pub ground_off : (q : Place) → same g.e q ≡ false → same (behind_of g.e 176) q ≡ false → ground u q ≡ ground s.heap q
  ground_off q ne nb = ground_t q ∙ sym (links_outline (g.t q)) ∙ ap (λ (o : Option Cell). option_map outline o) (g.fresh.others q ne nb) ∙ links_outline (s.heap q)
