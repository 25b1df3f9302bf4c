-- Where the chains of all extents are whole, the live records stand.
use Rattle.std.proofs.Common.{◌≡◌, ℕ, zero, suc, ℤ, pos, negsuc, ◌+◌, ◌<◌, ◌≤◌, ◌⊎◌, inl, inr, Bool, true, false, List, [], ◌∷◌, length, Option, Some, None, refl, sym, ◌∙◌, ap, subst, arith}
use Rattle.std.specs.Prelude.{◌&&◌, ◌==◌, nat_lt, nat_le, if◌then◌else◌}
use Rattle.std.proofs.lemmas.Bool.{cases_Bool, false≢true, eqb-true}
use Rattle.std.proofs.lemmas.Bool.Decides.{nat_tests}
use Rattle.mm_base.specs.declared.place.DiskLoc.{DiskLoc}
use Rattle.mm_base.specs.Places.{null, place_made}
use Rattle.mm_base.specs.Nulls.{is_zero, is_place}
use Rattle.mm_base.proofs.PlaceLaws.{place_same, made_again}
use Rattle.mm_records.specs.Shape.{Shape, rec_next, rec_prev}
use Rattle.mm_records.specs.Stands.{RecordsStand}
use Rattle.mm_ranges.specs.Overlay.{Image, bytes_at}
use Rattle.mm_frames.specs.declared.rec_header.RecHeader.{RecHeader}
use Rattle.mm_links.specs.Links.{Place, has, first_of, last_of, IsLinked}
use Rattle.mm_links.proofs.LinkLaws.{both, relinked}
use Rattle.mm_extents.specs.Heap.{live}
use Rattle.mm_extents.specs.Changes.{loc, loc_or, ofs_or}
use Rattle.mm_walk.specs.declared.walk.Link.{Link}
use Rattle.mm_walk.specs.declared.walk.Link.TheVariants.{End, To, Outside}
use Rattle.mm_walk.specs.Walk.{Reading, Leads}
use Rattle.mm_walk.specs.Linked.{RightOr, ReadsLinks}
use Rattle.mm_walk.proofs.Linked.{linked_of_whole, right_of_whole}
use Rattle.mm_check.specs.RecordChain.{rec_at, to_offset, ofs_link, link_in, place_link, is_pos, is_long, names_ofs, IsRecordAt, is_record, read_record, is_minus_one, names_place, IsExtentAt, RecordsFound}

-- ---- links

pub if_yes : {A : Type 0} (b : Bool) (x y : A) → b ≡ true → (if b then x else y) ≡ x
if_yes true x y e = refl
if_yes false x y e = absurd (false≢true e)

pub if_no : {A : Type 0} (b : Bool) (x y : A) → b ≡ false → (if b then x else y) ≡ y
if_no true x y e = absurd (false≢true (sym e))
if_no false x y e = refl

offset_end : (image : Image) (file a : ℕ) → to_offset image file a ≡ End → ⊥
offset_end image file a e = elim (cases_Bool (nat_lt a (length (bytes_at image file)))) [
  | inl y ↦ let f : To (file, a) ≡ End = sym (if_yes _ _ _ y) ∙ e in cc
  | inr n ↦ let f : Outside ≡ End = sym (if_no _ _ _ n) ∙ e in cc
]

offset_to : (image : Image) (file a : ℕ) (p : Place) → to_offset image file a ≡ To p → p ≡ (file, a)
offset_to image file a p e = elim (cases_Bool (nat_lt a (length (bytes_at image file)))) [
  | inl y ↦ let f : To (file, a) ≡ To p = sym (if_yes _ _ _ y) ∙ e in cc
  | inr n ↦ absurd (let f : Outside ≡ To p = sym (if_no _ _ _ n) ∙ e in cc)
]

ofs_end : (image : Image) (file : ℕ) (z : ℤ) → ofs_link image file z ≡ End → z ≡ ofs_or None
ofs_end image file (pos a) e = absurd (offset_end image file a e)
ofs_end image file (negsuc zero) e = refl
ofs_end image file (negsuc (suc n)) e = absurd cc

ofs_to : (image : Image) (file : ℕ) (z : ℤ) (p : Place) → ofs_link image file z ≡ To p → z ≡ ofs_or (Some p)
ofs_to image file (pos a) p e = ap (λ (q : Place). pos q.1) (sym (offset_to image file a p e))
ofs_to image file (negsuc zero) p e = absurd cc
ofs_to image file (negsuc (suc n)) p e = absurd cc

-- ---- tests

pub is_pos_true : (z : ℤ) (n : ℕ) → is_pos z n ≡ true → z ≡ pos n
is_pos_true (pos m) n e = ap pos (eqb-true m n e)
is_pos_true (negsuc m) n e = absurd (false≢true e)

pub is_pos_of : (z : ℤ) (n : ℕ) → z ≡ pos n → is_pos z n ≡ true
is_pos_of (pos m) n e = let f : m ≡ n = cc in grind (arith, nat_tests)
is_pos_of (negsuc m) n e = absurd cc

pub is_long_true : (z : ℤ) → is_long z ≡ true → (n : ℕ) × (z ≡ pos n) × (32 ≤ n)
is_long_true (pos n) e = (n, refl, grind (arith, nat_tests))
is_long_true (negsuc n) e = absurd (false≢true e)

pub is_long_of : (z : ℤ) (n : ℕ) → z ≡ pos n → 32 ≤ n → is_long z ≡ true
is_long_of (pos m) n e h = let f : m ≡ n = cc in grind (arith, nat_tests)
is_long_of (negsuc m) n e h = absurd cc

names_ofs_true : (z : ℤ) (o : Option Place) → names_ofs z o ≡ true → z ≡ ofs_or o
names_ofs_true (pos a) (Some p) e = ap pos (eqb-true a p.1 e)
names_ofs_true (negsuc n) (Some p) e = absurd (false≢true e)
names_ofs_true (pos a) None e = absurd (false≢true e)
names_ofs_true (negsuc zero) None e = refl
names_ofs_true (negsuc (suc n)) None e = absurd (false≢true e)

names_ofs_of : (z : ℤ) (o : Option Place) → z ≡ ofs_or o → names_ofs z o ≡ true
names_ofs_of (pos a) (Some p) e = let f : a ≡ p.1 = cc in grind (arith, nat_tests)
names_ofs_of (negsuc n) (Some p) e = absurd cc
names_ofs_of (pos a) None e = absurd cc
names_ofs_of (negsuc zero) None e = refl
names_ofs_of (negsuc (suc n)) None e = absurd (let f : suc n ≡ 0 = cc in omega (arith, f))

pub nat_le_true : (m n : ℕ) → nat_le m n ≡ true → m ≤ n
nat_le_true m n e = grind (arith, nat_tests)

pub nat_le_of : (m n : ℕ) → m ≤ n → nat_le m n ≡ true
nat_le_of m n e = grind (arith, nat_tests)

pub nat_lt_of : (m n : ℕ) → m < n → nat_lt m n ≡ true
nat_lt_of m n e = grind (arith, nat_tests)

pub eq_of : (m n : ℕ) → m ≡ n → (m == n) ≡ true
eq_of m n e = grind (arith, nat_tests)

pub and_of : (a b : Bool) → a ≡ true → b ≡ true → (a && b) ≡ true
and_of true b e f = f
and_of false b e f = e

module _ (image : Image) (e : Place) (len : ℕ) where
  pub record_of_test : (p : Place) → is_record image e len p ≡ true → IsRecordAt image e len p
  record_of_test p h =
      let a = both _ _ h in let b = both _ _ a.1 in let c = both _ _ b.1 in let d = both _ _ c.1 in
      let l = is_long_true (rec_at image p).length_with_headers d.0 in
      record { file = eqb-true p.0 e.0 a.0; from = nat_le_true _ _ b.0; to = nat_le_true _ _ c.0; n = l.0; long = l.1; some = l.2; of_extent = is_pos_true _ _ d.1 }

  pub test_of_record : (p : Place) → IsRecordAt image e len p → is_record image e len p ≡ true
  test_of_record p r =
      and_of _ _ (eq_of p.0 e.0 r.file) (and_of _ _ (nat_le_of _ _ r.from) (and_of _ _ (nat_le_of _ _ r.to) (and_of _ _ (is_long_of _ r.n r.long r.some) (is_pos_of _ _ r.of_extent))))

  module _ (r : Reading) (read : (before : Option Place) (p : Place) → r.read before p ≡ read_record image e len before p) (inside : e.1 + len ≤ length (bytes_at image e.0)) where
    sound : (before : Option Place) (p : Place) (l : Link) → r.read before p ≡ Some l → IsRecordAt image e len p × ((rec_at image p).prev_ofs ≡ ofs_or before) × (ofs_link image e.0 (rec_at image p).next_ofs ≡ l)
    sound before p l h = elim (cases_Bool (is_record image e len p && names_ofs (rec_at image p).prev_ofs before)) [
      | inl y ↦
          let t = both _ _ y in
          let f : Some (ofs_link image e.0 (rec_at image p).next_ofs) ≡ Some l = sym (if_yes _ _ _ y) ∙ sym (read before p) ∙ h in
          (record_of_test p t.0, names_ofs_true _ before t.1, cc)
      | inr n ↦ absurd (let f : None ≡ Some l = sym (if_no _ _ _ n) ∙ sym (read before p) ∙ h in cc)
    ]

    complete : (before : Option Place) (p : Place) → IsRecordAt image e len p → RightOr (IsRecordAt image e len) before → (rec_at image p).prev_ofs ≡ ofs_or before → r.read before p ≡ Some (ofs_link image e.0 (rec_at image p).next_ofs)
    complete before p h w f = read before p ∙ if_yes _ _ _ (and_of _ _ (test_of_record p h) (names_ofs_of _ before f))

    back : (p : Place) → IsRecordAt image e len p → ofs_link image e.0 (ofs_or (Some p)) ≡ To p
    back p h = let t = h.to in if_yes _ _ _ (nat_lt_of p.1 (length (bytes_at image e.0)) (omega (arith, t, inside))) ∙ ap (λ (f : ℕ). To (f, p.1)) (sym h.file)

    pub reads_links : ReadsLinks r ofs_or (IsRecordAt image e len) (λ p. (rec_at image p).next_ofs) (λ p. (rec_at image p).prev_ofs) (ofs_link image e.0)
    reads_links = record { sound = sound; complete = complete; ends = ofs_end image e.0; leads = ofs_to image e.0; none = refl; some = back }

-- ---- places in headers

pub loc_numbers : (image : Image) (d : DiskLoc) (p : Place) → place_link image d ≡ To p → (d.file ≡ pos p.0) × (d.ofs ≡ pos p.1)
loc_numbers image d p e = by d.file d.ofs e
  where
    by : (f o : ℤ) → link_in image f o ≡ To p → (f ≡ pos p.0) × (o ≡ pos p.1)
    by (pos f) (pos a) h = elim (cases_Bool (nat_lt f 8)) [
      | inl y ↦ let g = offset_to image f a p (sym (if_yes _ _ _ y) ∙ h) in (ap (λ (q : Place). pos q.0) (sym g), ap (λ (q : Place). pos q.1) (sym g))
      | inr n ↦ absurd (let g : Outside ≡ To p = sym (if_no _ _ _ n) ∙ h in cc)
    ]
    by (pos f) (negsuc n) h = absurd cc
    by (negsuc zero) o h = absurd cc
    by (negsuc (suc n)) o h = absurd cc

pub loc_end : (image : Image) (d : DiskLoc) → place_link image d ≡ End → d.file ≡ negsuc 0
loc_end image d e = by d.file d.ofs e
  where
    by : (f o : ℤ) → link_in image f o ≡ End → f ≡ negsuc 0
    by (pos f) (pos a) h = elim (cases_Bool (nat_lt f 8)) [
      | inl y ↦ absurd (offset_end image f a (sym (if_yes _ _ _ y) ∙ h))
      | inr n ↦ absurd (let g : Outside ≡ End = sym (if_no _ _ _ n) ∙ h in cc)
    ]
    by (pos f) (negsuc n) h = absurd cc
    by (negsuc zero) o h = refl
    by (negsuc (suc n)) o h = absurd cc

-- the place with file -1 is null
pub null_file : (d : DiskLoc) → d.file ≡ negsuc 0 → d ≡ null
null_file d e = place_same d null e (by d.file d.ofs e d.known)
  where
    zero_is : (o : ℤ) → is_zero o ≡ true → o ≡ pos 0
    zero_is (pos zero) h = refl
    zero_is (pos (suc n)) h = absurd (false≢true h)
    zero_is (negsuc n) h = absurd (false≢true h)

    by : (f o : ℤ) → f ≡ negsuc 0 → is_place f o ≡ true → o ≡ pos 0
    by (pos f) o h k = absurd cc
    by (negsuc zero) o h k = zero_is o (both _ _ k).0
    by (negsuc (suc n)) o h k = absurd (let g : suc n ≡ 0 = cc in omega (arith, g))

pub loc_is : (d : DiskLoc) (p : Place) → d.file ≡ pos p.0 → d.ofs ≡ pos p.1 → d ≡ loc p
loc_is d p e f = sym (made_again d) ∙ (λ i. place_made (e i) (f i))

pub minus_one_is : (z : ℤ) → is_minus_one z ≡ true → z ≡ negsuc 0
minus_one_is (pos n) e = absurd (false≢true e)
minus_one_is (negsuc zero) e = refl
minus_one_is (negsuc (suc n)) e = absurd (false≢true e)

pub names_place_true : (d : DiskLoc) (o : Option Place) → names_place d o ≡ true → d ≡ loc_or o
names_place_true d (Some p) e = let t = both _ _ e in loc_is d p (is_pos_true d.file p.0 t.0) (is_pos_true d.ofs p.1 t.1)
names_place_true d None e = null_file d (minus_one_is d.file e)

head_is : (image : Image) (r : Reading) (d : DiskLoc) (before : Option Place) (ps : List Place) → Leads r before (place_link image d) ps End → d ≡ loc_or (first_of ps)
head_is image r d before [] l = null_file d (loc_end image d l)
head_is image r d before (p ∷ ps) l = let t = loc_numbers image d p l.0 in loc_is d p t.0 t.1

-- ---- the records of all extents

module _ (image : Image) (s : Shape) (free : List ℕ) (f : RecordsFound image free s.heap s.records) where
  linked_at : (e : Place) → (s.records e ≡ []) ⊎ IsExtentAt image free s.heap e (f.len e) → IsLinked ofs_or (s.records e) (λ p. rec_next (s.heap p)) (λ p. rec_prev (s.heap p))
  linked_at e (inl none) = subst (λ (xs : List Place). IsLinked ofs_or xs (λ p. rec_next (s.heap p)) (λ p. rec_prev (s.heap p))) (sym none)
      (record { no_twice = refl; behind = λ p h. absurd (false≢true h); before = λ p q h. absurd cc; first = λ p h. absurd cc })
  linked_at e (inr x) =
      let t = f.reads e x.h x.is x.isnt_free in
      let l = linked_of_whole (f.reading e) ofs_or (IsRecordAt image e (f.len e)) (λ p. (rec_at image p).next_ofs) (λ p. (rec_at image p).prev_ofs) (ofs_link image e.0) (reads_links image e (f.len e) (f.reading e) t.0.read t.1) (f.seen e) (s.records e) (f.whole e x.h x.is x.isnt_free) in
      relinked ofs_or (s.records e) (λ p. (rec_at image p).next_ofs) (λ p. (rec_at image p).prev_ofs) (λ p. rec_next (s.heap p)) (λ p. rec_prev (s.heap p)) l (λ q h. ap rec_next (f.there e q h)) (λ q h. ap rec_prev (f.there e q h))

  right_at : (e p : Place) → has (s.records e) p ≡ true → IsRecordAt image e (f.len e) p
  right_at e p h = by (f.extents e)
    where
      by : (s.records e ≡ []) ⊎ IsExtentAt image free s.heap e (f.len e) → IsRecordAt image e (f.len e) p
      by (inl none) = absurd (false≢true (ap (λ (xs : List Place). has xs p) (sym none) ∙ h))
      by (inr x) =
          let t = f.reads e x.h x.is x.isnt_free in
          right_of_whole (f.reading e) ofs_or (IsRecordAt image e (f.len e)) (λ q. (rec_at image q).next_ofs) (λ q. (rec_at image q).prev_ofs) (ofs_link image e.0) (reads_links image e (f.len e) (f.reading e) t.0.read t.1) (f.seen e) (s.records e) (f.whole e x.h x.is x.isnt_free) p h

  pub records_stand : RecordsStand free s
  records_stand = record {
    linked = λ e. linked_at e (f.extents e);
    on_chain = λ e p h. let r = right_at e p h in record { h = rec_at image p; room = f.room p; there = f.there e p h; file = r.file; of_extent = r.of_extent };
    all = λ p h room a e g.
        let o = f.only p h room e in
        let r = right_at o.0 p o.1 in
        let same_h : h ≡ rec_at image p = header_of (f.room p) (sym e ∙ f.there o.0 p o.1) in
        let same_a : pos o.0.1 ≡ pos a = sym r.of_extent ∙ ap (λ (x : RecHeader). x.extent_ofs) (sym same_h) ∙ g in
        let at : o.0 ≡ (p.0, a) = (let ea : o.0.1 ≡ a = cc in let ef = sym r.file in λ i. (ef i, ea i)) in
        ap (λ (q : Place). has (s.records q) p) (sym at) ∙ o.1;
    ends = λ e h is named.
        let t = (f.reads e h is named).0 in
        let w = f.whole e h is named in
        record {
          first = head_is image (f.reading e) h.first_record None (s.records e) (subst (λ (k : Link). Leads (f.reading e) None k (s.records e) End) t.head w.followed.leads);
          last = names_place_true h.last_record (last_of (s.records e)) (sym (t.closes (last_of (s.records e))) ∙ w.closed);
        };
  }
    where
      header_of : {h g : RecHeader} {r : List ℕ} (q : List ℕ) → Some (live h r) ≡ Some (live g q) → h ≡ g
      header_of q e = cc
