-- A deleted block is taken from its list and put behind the last record of its extent.
use Rattle.std.proofs.Common.{◌≡◌, ℕ, ℤ, pos, negsuc, inl, inr, true, false, List, [], ◌∷◌, Option, Some, None, refl, sym, ◌∙◌, ap, subst}
use Rattle.std.specs.Prelude.{if◌then◌else◌}
use Rattle.std.proofs.lemmas.Bool.{cases_Bool}
use Rattle.mm_frames.specs.declared.extent_header.ExtentHeader.{ExtentHeader}
use Rattle.mm_frames.specs.declared.rec_header.RecHeader.{RecHeader}
use Rattle.mm_frames.specs.declared.deleted_header.DeletedHeader.{DeletedHeader}
use Rattle.mm_links.specs.Links.{Place, StandsBefore, same, has, once, first_of, last_of, next_in, appended, is}
use Rattle.mm_links.proofs.LinkLaws.{same_is, same_not, not_same, if_true, if_false, has_last, has_before, some_is, isnt_some, not_behind_first, before_once}
use Rattle.mm_extents.specs.Heap.{extent, live, deleted, Heap, change}
use Rattle.mm_extents.specs.Changes.{loc, loc_or, ofs_or, next_set, first_set, last_set, deleted_next_set, taken}
use Rattle.mm_extents.proofs.Writes.{changed_here, changed_there}
use Rattle.mm_records.specs.Shape.{Shape, rec_next, rec_prev}
use Rattle.mm_records.specs.Stands.{RecordsStand}
use Rattle.mm_records.specs.Freeing.{forward, backward}
use Rattle.mm_records.specs.Taking.{list_passed, IsBlockAt}
use Rattle.mm_records.proofs.Cells.{stays, ext_first, ext_last, prev_next, prev_first, next_last, next_first, prev_last, first_next, first_last, last_next, last_first, forward_stays}
use Rattle.mm_records.proofs.Bare.{bare, block_next, bare_next, bare_first, bare_last, bare_relinked, next_relinked, prev_relinked, first_relinked, last_relinked, block_next_set, block_first, block_last, passed_stays, live_bare, DeletedAt, deleted_bare, extent_bare}

-- the first and the last of a chain with one more
pub first_kept : (xs : List Place) (p y : Place) → last_of xs ≡ Some y → first_of (appended xs p) ≡ first_of xs
first_kept [] p y e = absurd cc
first_kept (x ∷ xs) p y e = refl

pub first_alone : (xs : List Place) (p : Place) → last_of xs ≡ None → first_of (appended xs p) ≡ Some p
first_alone [] p e = refl
first_alone (x ∷ []) p e = absurd cc
first_alone (x ∷ y ∷ ys) p e = absurd (none (y ∷ ys) y refl e)
  where
    none : (zs : List Place) (z : Place) → first_of zs ≡ Some z → last_of zs ≡ None → ⊥
    none [] z f g = cc
    none (w ∷ []) z f g = cc
    none (w ∷ v ∷ vs) z f g = none (v ∷ vs) v refl g

some_same : {A : Type 0} (x y : A) → Some x ≡ Some y → x ≡ y
some_same x y e = cc

module _ {free : List ℕ} (s : Shape) (p : Place) (h : DeletedHeader) (rest : List ℕ) (a : ℕ) (hh : ExtentHeader) (list : List Place) (before : Option Place) (rs : RecordsStand free s) (here : s.heap p ≡ Some (deleted h rest))
    (there : s.heap (p.0, a) ≡ Some (extent hh)) (one : once list ≡ true) (stands : StandsBefore list before p) (blocks : (q : Place) → has list q ≡ true → IsBlockAt s.heap q) where
  abbrev chain : List Place
  chain = s.records (p.0, a)

  abbrev prev : ℤ
  prev = ofs_or (last_of chain)

  abbrev pub h1 : Heap
  h1 = list_passed before h.next_deleted s.heap

  abbrev pub h2 : Heap
  h2 = change p (taken (negsuc 0) prev) h1

  abbrev pub h3 : Heap
  h3 = forward p.0 a prev (pos p.1) h2

  abbrev pub aft : Heap
  aft = backward p.0 a (pos p.1) (negsuc 0) h3

  -- the extent isn't the block, nor is a record
  ext_isnt : same (p.0, a) p ≡ false
  ext_isnt = same_not (p.0, a) p (λ f. (let x : Some (extent hh) ≡ Some (deleted h rest) = sym there ∙ ap s.heap f ∙ here in cc))

  pub isnt_ext : same p (p.0, a) ≡ false
  isnt_ext = same_not p (p.0, a) (λ f. not_same (p.0, a) p ext_isnt (sym f))

  pub rec_isnt : (y : Place) → has chain y ≡ true → same y p ≡ false
  rec_isnt y hy = let r = rs.on_chain (p.0, a) y hy in same_not y p (λ f. (let x : Some (live r.h r.room) ≡ Some (deleted h rest) = sym r.there ∙ ap s.heap f ∙ here in cc))

  turned : (q r : Place) → same q r ≡ false → same r q ≡ false
  turned q r ne = same_not r q (λ f. not_same q r ne (sym f))

  pub data Where : Type 0 where
    alone : last_of chain ≡ None → h3 ≡ change (p.0, a) (first_set (loc p)) h2 → Where
    behind : (y : Place) → last_of chain ≡ Some y → h3 ≡ change y (next_set (pos p.1)) h2 → Where

  pub is_where : Where
  is_where = by (last_of chain) refl
    where
      by : (o : Option Place) → last_of chain ≡ o → Where
      by None f = alone f (ap (λ (w : Option Place). forward p.0 a (ofs_or w) (pos p.1) h2) f)
      by (Some y) f = behind y f (ap (λ (w : Option Place). forward p.0 a (ofs_or w) (pos p.1) h2) f
          ∙ ap (λ (g : ℕ). change (g, y.1) (next_set (pos p.1)) h2) (sym (rs.on_chain (p.0, a) y (has_last chain y f)).file))

  pub bare_aft : (q : Place) → same p q ≡ false → bare (aft q) ≡ bare (s.heap q)
  bare_aft q ne = stays bare (last_set (loc p)) (bare_last (loc p)).law (p.0, a) h3 q ∙ forward_stays bare bare_next bare_first p.0 a prev (pos p.1) h2 q
      ∙ ap bare (changed_there p q (taken (negsuc 0) prev) h1 ne) ∙ passed_stays bare bare_relinked before h.next_deleted s.heap q

  pub bare2 : (q : Place) → same p q ≡ false → bare (h2 q) ≡ bare (s.heap q)
  bare2 q ne = ap bare (changed_there p q (taken (negsuc 0) prev) h1 ne) ∙ passed_stays bare bare_relinked before h.next_deleted s.heap q

  -- the record
  pub block1 : DeletedAt (h1 p) h.extent_ofs h.length_with_headers rest
  block1 = deleted_bare (h1 p) h rest (passed_stays bare bare_relinked before h.next_deleted s.heap p ∙ ap bare here)

  abbrev pub new_head : RecHeader
  new_head = record { length_with_headers = h.length_with_headers; extent_ofs = h.extent_ofs; next_ofs = negsuc 0; prev_ofs = prev }

  pub here_aft : aft p ≡ Some (live new_head rest)
  here_aft = changed_there (p.0, a) p (last_set (loc p)) h3 ext_isnt ∙ third is_where ∙ changed_here p (taken (negsuc 0) prev) h1 (deleted block1.h rest) block1.is
      ∙ (λ i. Some (live (record { length_with_headers = block1.len_is i; extent_ofs = block1.ext_is i; next_ofs = negsuc 0; prev_ofs = prev }) rest))
    where
      third : Where → h3 p ≡ h2 p
      third (alone f i) = ap (λ (H : Heap). H p) i ∙ changed_there (p.0, a) p (first_set (loc p)) h2 ext_isnt
      third (behind y f i) = ap (λ (H : Heap). H p) i ∙ changed_there y p (next_set (pos p.1)) h2 (rec_isnt y (has_last chain y f))

  -- ---- the links of records

  pub next_aft : (q : Place) → same p q ≡ false → rec_next (aft q) ≡ (if is (last_of chain) q then pos p.1 else rec_next (s.heap q))
  next_aft q ne = stays rec_next (last_set (loc p)) (next_last (loc p)).law (p.0, a) h3 q ∙ by is_where
    where
      two : rec_next (h2 q) ≡ rec_next (s.heap q)
      two = ap rec_next (changed_there p q (taken (negsuc 0) prev) h1 ne) ∙ passed_stays rec_next next_relinked before h.next_deleted s.heap q

      by : Where → rec_next (h3 q) ≡ (if is (last_of chain) q then pos p.1 else rec_next (s.heap q))
      by (alone f i) = ap (λ (H : Heap). rec_next (H q)) i ∙ stays rec_next (first_set (loc p)) (next_first (loc p)).law (p.0, a) h2 q ∙ two
          ∙ sym (if_false (is (last_of chain) q) (pos p.1) (rec_next (s.heap q)) (ap (λ (o : Option Place). is o q) f))
      by (behind y f i) = ap (λ (H : Heap). rec_next (H q)) i ∙ elim (cases_Bool (same y q)) [
        | inl z ↦
            let r = rs.on_chain (p.0, a) y (has_last chain y f) in
            let l = live_bare (h2 y) r.h r.room (bare2 y (turned y p (rec_isnt y (has_last chain y f))) ∙ ap bare r.there) in
            ap rec_next (ap (λ (x : Place). change y (next_set (pos p.1)) h2 x) (sym (same_is y q z)) ∙ changed_here y (next_set (pos p.1)) h2 (live l.h r.room) l.is)
            ∙ sym (if_true (is (last_of chain) q) (pos p.1) (rec_next (s.heap q)) (some_is (last_of chain) q (f ∙ ap (λ (x : Place). Some x) (same_is y q z))))
        | inr n ↦ ap rec_next (changed_there y q (next_set (pos p.1)) h2 n) ∙ two
            ∙ sym (if_false (is (last_of chain) q) (pos p.1) (rec_next (s.heap q)) (isnt_some (last_of chain) q (λ g. not_same y q n (some_same y q (sym f ∙ g)))))
      ]

  pub prev_aft : (q : Place) → same p q ≡ false → rec_prev (aft q) ≡ rec_prev (s.heap q)
  prev_aft q ne = stays rec_prev (last_set (loc p)) (prev_last (loc p)).law (p.0, a) h3 q ∙ forward_stays rec_prev prev_next prev_first p.0 a prev (pos p.1) h2 q
      ∙ ap rec_prev (changed_there p q (taken (negsuc 0) prev) h1 ne) ∙ passed_stays rec_prev prev_relinked before h.next_deleted s.heap q

  -- ---- the ends that extents name

  first_two : (q : Place) → same p q ≡ false → ext_first (h2 q) ≡ ext_first (s.heap q)
  first_two q ne = ap ext_first (changed_there p q (taken (negsuc 0) prev) h1 ne) ∙ passed_stays ext_first first_relinked before h.next_deleted s.heap q

  last_two : (q : Place) → same p q ≡ false → ext_last (h2 q) ≡ ext_last (s.heap q)
  last_two q ne = ap ext_last (changed_there p q (taken (negsuc 0) prev) h1 ne) ∙ passed_stays ext_last last_relinked before h.next_deleted s.heap q

  pub first_aft : hh.first_record ≡ loc_or (first_of chain) → ext_first (aft (p.0, a)) ≡ loc_or (first_of (appended chain p))
  first_aft names = stays ext_first (last_set (loc p)) (first_last (loc p)).law (p.0, a) h3 (p.0, a) ∙ by is_where
    where
      by : Where → ext_first (h3 (p.0, a)) ≡ loc_or (first_of (appended chain p))
      by (alone f i) =
          let like = extent_bare (h2 (p.0, a)) hh (bare2 (p.0, a) isnt_ext ∙ ap bare there) in
          ap ext_first (ap (λ (H : Heap). H (p.0, a)) i ∙ changed_here (p.0, a) (first_set (loc p)) h2 (extent like.h) like.is) ∙ ap loc_or (sym (first_alone chain p f))
      by (behind y f i) = ap (λ (H : Heap). ext_first (H (p.0, a))) i ∙ stays ext_first (next_set (pos p.1)) (first_next (pos p.1)).law y h2 (p.0, a) ∙ first_two (p.0, a) isnt_ext ∙ ap ext_first there ∙ names
          ∙ ap loc_or (sym (first_kept chain p y f))

  pub last_aft : ext_last (aft (p.0, a)) ≡ loc p
  last_aft =
      let like = extent_bare (h3 (p.0, a)) hh (forward_stays bare bare_next bare_first p.0 a prev (pos p.1) h2 (p.0, a) ∙ bare2 (p.0, a) isnt_ext ∙ ap bare there) in
      ap ext_last (changed_here (p.0, a) (last_set (loc p)) h3 (extent like.h) like.is)

  pub first_other : (q : Place) → same p q ≡ false → same q (p.0, a) ≡ false → ext_first (aft q) ≡ ext_first (s.heap q)
  first_other q ne off = stays ext_first (last_set (loc p)) (first_last (loc p)).law (p.0, a) h3 q ∙ by is_where ∙ first_two q ne
    where
      by : Where → ext_first (h3 q) ≡ ext_first (h2 q)
      by (alone f i) = ap (λ (H : Heap). ext_first (H q)) i ∙ ap ext_first (changed_there (p.0, a) q (first_set (loc p)) h2 (turned q (p.0, a) off))
      by (behind y f i) = ap (λ (H : Heap). ext_first (H q)) i ∙ stays ext_first (next_set (pos p.1)) (first_next (pos p.1)).law y h2 q

  pub last_other : (q : Place) → same p q ≡ false → same q (p.0, a) ≡ false → ext_last (aft q) ≡ ext_last (s.heap q)
  last_other q ne off = ap ext_last (changed_there (p.0, a) q (last_set (loc p)) h3 (turned q (p.0, a) off)) ∙ forward_last ∙ last_two q ne
    where
      forward_last : ext_last (h3 q) ≡ ext_last (h2 q)
      forward_last = forward_stays ext_last last_next last_first p.0 a prev (pos p.1) h2 q

  -- ---- the links of deleted blocks

  pub block_aft : (q : Place) → same p q ≡ false → block_next (aft q) ≡ (if is (next_in list q) p then h.next_deleted else block_next (s.heap q))
  block_aft q ne = stays block_next (last_set (loc p)) (block_last (loc p)).law (p.0, a) h3 q ∙ forward_stays block_next block_next_set block_first p.0 a prev (pos p.1) h2 q
      ∙ ap block_next (changed_there p q (taken (negsuc 0) prev) h1 ne) ∙ by before refl
    where
      by : (o : Option Place) → before ≡ o → block_next (h1 q) ≡ (if is (next_in list q) p then h.next_deleted else block_next (s.heap q))
      by None f =
          let first : first_of list ≡ Some p = subst (λ (o : Option Place). StandsBefore list o p) f stands in
          ap (λ (o : Option Place). block_next (list_passed o h.next_deleted s.heap q)) f
          ∙ sym (if_false (is (next_in list q) p) h.next_deleted (block_next (s.heap q)) (isnt_some (next_in list q) p (λ g. not_behind_first list p q one first g)))
      by (Some x) f =
          let next : next_in list x ≡ Some p = subst (λ (o : Option Place). StandsBefore list o p) f stands in
          ap (λ (o : Option Place). block_next (list_passed o h.next_deleted s.heap q)) f ∙ elim (cases_Bool (same x q)) [
            | inl z ↦
                let b = blocks x (has_before list x p next) in
                ap block_next (ap (λ (y : Place). change x (deleted_next_set h.next_deleted) s.heap y) (sym (same_is x q z)) ∙ changed_here x (deleted_next_set h.next_deleted) s.heap (deleted b.h b.rest) b.is)
                ∙ sym (if_true (is (next_in list q) p) h.next_deleted (block_next (s.heap q)) (some_is (next_in list q) p (ap (next_in list) (sym (same_is x q z)) ∙ next)))
            | inr n ↦ ap block_next (changed_there x q (deleted_next_set h.next_deleted) s.heap n)
                ∙ sym (if_false (is (next_in list q) p) h.next_deleted (block_next (s.heap q)) (isnt_some (next_in list q) p (λ g. not_same x q n (before_once list p x q one next g))))
          ]
