-- What stands behind a record, in its extent or in those behind.
use Rattle.std.proofs.Common.{◌≡◌, ℕ, pos, negsuc, ◌+◌, ◌^◌, ◌<◌, ◌≤◌, inl, inr, true, false, List, [], ◌∷◌, ◌++◌, length, Option, Some, None, refl, sym, ◌∙◌, ap, arith, append_assoc}
use Rattle.std.specs.Prelude.{flat_map}
use Rattle.std.specs.Option.{option_map}
use Rattle.std.proofs.lemmas.Bool.{cases_Bool, false≢true}
use Rattle.mm_base.specs.Bytes.{part}
use Rattle.mm_base.specs.declared.place.DiskLoc.{DiskLoc}
use Rattle.mm_ranges.specs.Overlay.{Image, bytes_at}
use Rattle.mm_frames.specs.Texts.{text_in}
use Rattle.mm_frames.specs.ExtentHeader.{extent_header_of}
use Rattle.mm_frames.specs.declared.extent_header.ExtentHeader.{ExtentHeader}
use Rattle.mm_links.specs.Links.{Place, same, has, once, first_of, next_in}
use Rattle.mm_links.proofs.LinkLaws.{same_is, same_not, has_there, has_next, once_parts}
use Rattle.mm_extents.specs.Heap.{extent, live}
use Rattle.mm_extents.specs.Changes.{loc, loc_or, ofs_or}
use Rattle.mm_extents.specs.Chains.{ext_next}
use Rattle.mm_extents.proofs.FileLaws.{low_place}
use Rattle.mm_extents.proofs.Walks.{has_middle, next_middle}
use Rattle.mm_records.specs.Shape.{Shape, rec_next}
use Rattle.mm_records.specs.Stands.{IsOwn, walk}
use Rattle.mm_records.specs.Walking.{IsRest}
use Rattle.mm_records.proofs.FreedCounts.{none}
use Rattle.mm_records.proofs.WalkLaws.{next_within, next_behind, next_past}

-- a place of a list, with what stands before and behind it
pub record Middle (xs : List Place) (e : Place) : Type 0 where
  pub before : List Place
  pub after : List Place
  pub is : xs ≡ before ++ e ∷ after

middle_of : (xs : List Place) (e : Place) → has xs e ≡ true → Middle xs e
middle_of [] e h = absurd (false≢true h)
middle_of (x ∷ xs) e h = elim (cases_Bool (same x e)) [
  | inl y ↦ record { before = []; after = xs; is = ap (λ (z : Place). z ∷ xs) (same_is x e y) }
  | inr n ↦ let m = middle_of xs e (sym (has_there x xs e n) ∙ h) in record { before = x ∷ m.before; after = m.after; is = ap (λ (ys : List Place). x ∷ ys) m.is }
]

once_before : (xs ys : List Place) (e f : Place) → once (xs ++ e ∷ ys) ≡ true → has xs f ≡ true → same f e ≡ false
once_before [] ys e f o h = absurd (false≢true h)
once_before (x ∷ xs) ys e f o h = let t = once_parts x (xs ++ e ∷ ys) o in elim (cases_Bool (same x f)) [
  | inl y ↦ same_not f e (λ g. false≢true (sym t.0 ∙ ap (has (xs ++ e ∷ ys)) (same_is x f y ∙ g) ∙ has_middle xs e ys))
  | inr n ↦ once_before xs ys e f t.1 (sym (has_there x xs f n) ∙ h)
]

module _ (image : Image) (free : List ℕ) (s : Shape) (node : ℕ) (p : Place) (own : IsOwn image free s node p) where
  abbrev e : Place
  e = (p.0, own.a)

  abbrev chain : List Place
  chain = s.records e

  abbrev name : List ℕ
  name = text_in own.hh.namespace

  on : has chain p ≡ true
  on = own.stands.records.all p own.h own.room own.a own.here own.ext

  one : once chain ≡ true
  one = (own.stands.records.linked e).no_twice

  on_extents : has (s.extents name) e ≡ true
  on_extents = own.stands.extents.all e own.hh own.there

  pub middle : Middle (s.extents name) e
  middle = middle_of (s.extents name) e on_extents

  whole : once (middle.before ++ e ∷ middle.after) ≡ true
  whole = ap once (sym middle.is) ∙ (own.stands.extents.linked name).no_twice

  next_is : own.h.next_ofs ≡ ofs_or (next_in chain p)
  next_is = sym (ap rec_next own.here) ∙ (own.stands.records.linked e).behind p on

  in_walk : next_in (walk s name) p ≡ next_in (chain ++ flat_map s.records middle.after) p
  in_walk = ap (λ (xs : List Place). next_in (flat_map s.records xs) p) middle.is
      ∙ next_past s.records middle.before (e ∷ middle.after) p (λ f h. none s p own.h own.room own.a own.hh own.stands.extents own.stands.records own.stands.lists own.here own.ext own.there f (once_before middle.before middle.after e f whole h))

  pub extent_inside : own.a + 176 ≤ length (bytes_at image p.0)
  extent_inside = own.stands.heap.inside e (extent own.hh) own.there

  -- a record of the same extent
  pub next_there : (a : ℕ) → own.h.next_ofs ≡ pos a → Some (loc (p.0, a)) ≡ option_map loc (next_in (walk s name) p)
  next_there a i = by (next_in chain p) refl
    where
      by : (o : Option Place) → next_in chain p ≡ o → Some (loc (p.0, a)) ≡ option_map loc (next_in (walk s name) p)
      by None j = absurd (let z : pos a ≡ negsuc 0 = sym i ∙ next_is ∙ ap ofs_or j in cc)
      by (Some q) j =
          let r = own.stands.records.on_chain e q (has_next chain p q j) in
          let z : pos a ≡ pos q.1 = sym i ∙ next_is ∙ ap ofs_or j in
          let same_ofs : a ≡ q.1 = cc in
          let place : (p.0, a) ≡ q = (λ k. (sym r.file k, same_ofs k)) in
          ap (λ (x : Place). Some (loc x)) place ∙ ap (λ (o : Option Place). option_map loc o) (sym (in_walk ∙ next_within chain (flat_map s.records middle.after) p q j))

  pub next_low : (a : ℕ) → own.h.next_ofs ≡ pos a → a < 2 ^ 31
  next_low a i = by (next_in chain p) refl
    where
      by : (o : Option Place) → next_in chain p ≡ o → a < 2 ^ 31
      by None j = absurd (let z : pos a ≡ negsuc 0 = sym i ∙ next_is ∙ ap ofs_or j in cc)
      by (Some q) j =
          let r = own.stands.records.on_chain e q (has_next chain p q j) in
          let z : pos a ≡ pos q.1 = sym i ∙ next_is ∙ ap ofs_or j in
          let same_ofs : a ≡ q.1 = cc in
          let low = (low_place image s.heap q (live r.h r.room) own.stands.files own.stands.heap r.there).ofs in
          omega (arith, same_ofs, low)

  -- the first of the extents behind
  pub rest_behind : (at : DiskLoc) → at ≡ own.hh.xnext → IsRest image free s name middle.after at
  rest_behind at i = record {
    stands = own.stands;
    isnt_free = λ z. own.isnt_free (sym own.named ∙ z);
    before = middle.before ++ e ∷ [];
    is = middle.is ∙ sym (append_assoc middle.before (e ∷ []) middle.after);
    here = i ∙ sym (ap ext_next own.there) ∙ (own.stands.extents.linked name).behind e on_extents ∙ ap loc_or (ap (λ (xs : List Place). next_in xs e) middle.is ∙ next_middle middle.before e middle.after whole);
  }

  pub next_beyond : (n : ℕ) (result : Option DiskLoc) → own.h.next_ofs ≡ negsuc n → result ≡ option_map loc (first_of (flat_map s.records middle.after)) → result ≡ option_map loc (next_in (walk s name) p)
  next_beyond n result i f = by (next_in chain p) refl
    where
      by : (o : Option Place) → next_in chain p ≡ o → result ≡ option_map loc (next_in (walk s name) p)
      by None j = f ∙ ap (λ (o : Option Place). option_map loc o) (sym (in_walk ∙ next_behind chain (flat_map s.records middle.after) p on one j))
      by (Some q) j = absurd (let z : negsuc n ≡ pos q.1 = sym i ∙ next_is ∙ ap ofs_or j in cc)

  pub header_read : (a : ℕ) (h : ExtentHeader) → own.a ≡ a → h ≡ extent_header_of (part a 176 (bytes_at image p.0)) → h.xnext ≡ own.hh.xnext
  header_read a h i r = ap (λ (x : ExtentHeader). x.xnext) (r ∙ ap (λ (b : ℕ). extent_header_of (part b 176 (bytes_at image p.0))) (sym i) ∙ own.stands.heap.shown e (extent own.hh) own.there)
