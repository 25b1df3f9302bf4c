-- The records of extents, one extent behind the other.
use Rattle.std.proofs.Common.{◌≡◌, ◌≢◌, ℕ, pos, negsuc, ◌+◌, ◌≤◌, inl, inr, true, false, List, [], ◌∷◌, ◌++◌, length, Option, Some, None, refl, sym, ◌∙◌, ap, arith, length-append, append_assoc}
use Rattle.std.specs.Prelude.{flat_map}
use Rattle.std.specs.Option.{option_map}
use Rattle.std.proofs.lemmas.Bool.{cases_Bool, false≢true}
use Rattle.mm_base.specs.Bytes.{part}
use Rattle.mm_base.specs.Places.{null}
use Rattle.mm_base.specs.declared.place.DiskLoc.{DiskLoc}
use Rattle.mm_ranges.specs.Overlay.{Image, bytes_at}
use Rattle.mm_frames.specs.Texts.{text_in}
use Rattle.mm_frames.specs.ExtentHeader.{extent_header_of}
use Rattle.mm_frames.specs.declared.extent_header.ExtentHeader.{ExtentHeader}
use Rattle.mm_links.specs.Links.{Place, same, has, once, first_of, next_in}
use Rattle.mm_links.proofs.LinkLaws.{same_own, has_here, has_there, has_more, has_first, next_here, next_there, once_parts}
use Rattle.mm_extents.specs.Heap.{extent, live}
use Rattle.mm_extents.specs.Changes.{loc, loc_or, IsLow, LowOr}
use Rattle.mm_extents.specs.Chains.{ext_next}
use Rattle.mm_extents.proofs.FileLaws.{low_place}
use Rattle.mm_extents.proofs.Spots.{low_file}
use Rattle.mm_extents.proofs.Walks.{not_longer, has_middle, next_middle}
use Rattle.mm_records.specs.Shape.{Shape}
use Rattle.mm_records.specs.Stands.{NamesEnds}
use Rattle.mm_records.specs.Walking.{IsRest, IsAhead}

-- ---- lists one behind the other

pub next_over : (xs ys : List Place) (p : Place) → has xs p ≡ false → next_in (xs ++ ys) p ≡ next_in ys p
next_over [] ys p h = refl
next_over (x ∷ xs) ys p h = elim (cases_Bool (same x p)) [
  | inl y ↦ absurd (false≢true (sym h ∙ has_here x xs p y))
  | inr n ↦ next_there x (xs ++ ys) p n ∙ next_over xs ys p (sym (has_there x xs p n) ∙ h)
]

pub first_over : (xs ys : List Place) (q : Place) → first_of xs ≡ Some q → first_of (xs ++ ys) ≡ Some q
first_over [] ys q e = absurd cc
first_over (x ∷ xs) ys q e = e

pub next_within : (xs ys : List Place) (p q : Place) → next_in xs p ≡ Some q → next_in (xs ++ ys) p ≡ Some q
next_within [] ys p q e = absurd cc
next_within (x ∷ xs) ys p q e = elim (cases_Bool (same x p)) [
  | inl y ↦ next_here x (xs ++ ys) p y ∙ first_over xs ys q (sym (next_here x xs p y) ∙ e)
  | inr n ↦ next_there x (xs ++ ys) p n ∙ next_within xs ys p q (sym (next_there x xs p n) ∙ e)
]

none_first : (xs ys : List Place) → first_of xs ≡ None → first_of (xs ++ ys) ≡ first_of ys
none_first [] ys e = refl
none_first (x ∷ xs) ys e = absurd cc

pub next_behind : (xs ys : List Place) (p : Place) → has xs p ≡ true → once xs ≡ true → next_in xs p ≡ None → next_in (xs ++ ys) p ≡ first_of ys
next_behind [] ys p h o e = absurd (false≢true h)
next_behind (x ∷ xs) ys p h o e = elim (cases_Bool (same x p)) [
  | inl y ↦ next_here x (xs ++ ys) p y ∙ none_first xs ys (sym (next_here x xs p y) ∙ e)
  | inr n ↦ next_there x (xs ++ ys) p n ∙ next_behind xs ys p (sym (has_there x xs p n) ∙ h) (once_parts x xs o).1 (sym (next_there x xs p n) ∙ e)
]

-- past lists that don't have the place
pub next_past : (r : Place → List Place) (es fs : List Place) (p : Place) → ((f : Place) → has es f ≡ true → has (r f) p ≡ false) → next_in (flat_map r (es ++ fs)) p ≡ next_in (flat_map r fs) p
next_past r [] fs p none = refl
next_past r (e ∷ es) fs p none =
    next_over (r e) (flat_map r (es ++ fs)) p (none e (has_here e es e (same_own e))) ∙ next_past r es fs p (λ f h. none f (has_more e es f h))

-- ---- the walk

head_of : (xs : List Place) (e : Place) → first_of xs ≡ Some e → (es : List Place) × (xs ≡ e ∷ es)
head_of [] e i = absurd cc
head_of (x ∷ xs) e i = let f : x ≡ e = cc in (xs, ap (λ (y : Place). y ∷ xs) f)

empty_of : (xs : List Place) → first_of xs ≡ None → xs ≡ []
empty_of [] i = refl
empty_of (x ∷ xs) i = absurd cc

names_none : (x : DiskLoc) (n : Option Place) → x ≡ loc_or n → LowOr n → x ≡ null → n ≡ None
names_none x None e l z = refl
names_none x (Some q) e l z = absurd (let f : pos q.0 ≡ negsuc 0 = sym (low_file q l).0 ∙ ap (λ (d : DiskLoc). d.file) (sym e ∙ z) in cc)

pub start : (image : Image) (free : List ℕ) (s : Shape) (name : List ℕ) (whole : List Place) (at : DiskLoc) → IsRest image free s name whole at → IsAhead image free s name whole 0 at
start image free s name whole at r = record { rest = whole; now = r; same_first = refl; count = omega arith }

module _ (image : Image) (free : List ℕ) (s : Shape) (name : List ℕ) (whole : List Place) (steps : ℕ) (at : DiskLoc) (w : IsAhead image free s name whole steps at) where
  low_extent : (e : Place) → has (s.extents name) e ≡ true → IsLow e
  low_extent e h = let st = w.now.stands in let x = st.extents.on_chain name e h in low_place image s.heap e (extent x.0) st.files st.heap x.1

  on_rest : (e : Place) (es : List Place) → w.rest ≡ e ∷ es → has (s.extents name) e ≡ true
  on_rest e es i = ap (λ (xs : List Place). has xs e) (w.now.is ∙ ap (λ (xs : List Place). w.now.before ++ xs) i) ∙ has_middle w.now.before e es

  pub low_here : LowOr (first_of w.rest)
  low_here = by (first_of w.rest) refl
    where
      by : (o : Option Place) → first_of w.rest ≡ o → LowOr o
      by None i = tt
      by (Some e) i = let h = head_of w.rest e i in low_extent e (on_rest e h.0 h.1)

  -- at an extent
  module _ (e : Place) (i : first_of w.rest ≡ Some e) where
    pub rest_of : List Place
    rest_of = (head_of w.rest e i).0

    rest_is : w.rest ≡ e ∷ rest_of
    unfolding rest_of
    rest_is = (head_of w.rest e i).1

    pub on_chain : has (s.extents name) e ≡ true
    on_chain = on_rest e rest_of rest_is

    pub header_inside : e.1 + 176 ≤ length (bytes_at image e.0)
    header_inside = let st = w.now.stands in let x = st.extents.on_chain name e on_chain in st.heap.inside e (extent x.0) x.1

    module _ (h : ExtentHeader) (read : h ≡ extent_header_of (part e.1 176 (bytes_at image e.0))) where
      there : s.heap e ≡ Some (extent h)
      there = let st = w.now.stands in let x = st.extents.on_chain name e on_chain in x.1 ∙ ap (λ (g : ExtentHeader). Some (extent g)) (sym (read ∙ st.heap.shown e (extent x.0) x.1))

      used : text_in h.namespace ≢ free
      used z = let st = w.now.stands in let x = st.extents.on_chain name e on_chain in w.now.isnt_free (sym x.2 ∙ ap (λ (g : ExtentHeader). text_in g.namespace) (sym (read ∙ st.heap.shown e (extent x.0) x.1)) ∙ z)

      ends : NamesEnds h (s.records e)
      ends = w.now.stands.records.ends e h there used

      low_first : LowOr (first_of (s.records e))
      low_first = by (first_of (s.records e)) refl
        where
          by : (o : Option Place) → first_of (s.records e) ≡ o → LowOr o
          by None j = tt
          by (Some p) j = let st = w.now.stands in let r = st.records.on_chain e p (has_first (s.records e) p j) in low_place image s.heap p (live r.h r.room) st.files st.heap r.there

      -- its first record
      pub found : (h.first_record ≡ null → ⊥) → Some h.first_record ≡ option_map loc (first_of (flat_map s.records whole))
      found ne = by (first_of (s.records e)) refl
        where
          by : (o : Option Place) → first_of (s.records e) ≡ o → Some h.first_record ≡ option_map loc (first_of (flat_map s.records whole))
          by None j = absurd (ne (ends.first ∙ ap loc_or j))
          by (Some p) j =
              let first : first_of (flat_map s.records w.rest) ≡ Some p = ap (λ (xs : List Place). first_of (flat_map s.records xs)) rest_is ∙ first_over (s.records e) (flat_map s.records rest_of) p j in
              ap (λ (x : DiskLoc). Some x) (ends.first ∙ ap loc_or j) ∙ ap (λ (o : Option Place). option_map loc o) (sym first ∙ w.same_first)

      -- none, and the next extent
      pub further : h.first_record ≡ null → IsAhead image free s name whole (steps + 1) h.xnext
      further z =
          let st = w.now.stands in
          let none = names_none h.first_record (first_of (s.records e)) ends.first low_first z in
          let middle : s.extents name ≡ w.now.before ++ e ∷ rest_of = w.now.is ∙ ap (λ (xs : List Place). w.now.before ++ xs) rest_is in
          let count = w.count in
          let long = ap (λ (xs : List Place). length xs) rest_is in
          record {
            rest = rest_of;
            now = record {
              stands = st;
              isnt_free = w.now.isnt_free;
              before = w.now.before ++ e ∷ [];
              is = middle ∙ sym (append_assoc w.now.before (e ∷ []) rest_of);
              here = sym (ap ext_next there) ∙ (st.extents.linked name).behind e on_chain ∙ ap loc_or (ap (λ (xs : List Place). next_in xs e) middle ∙ next_middle w.now.before e rest_of (ap once (sym middle) ∙ (st.extents.linked name).no_twice));
            };
            same_first = sym (ap (λ (xs : List Place). first_of (flat_map s.records xs)) rest_is ∙ ap (λ (xs : List Place). first_of (xs ++ flat_map s.records rest_of)) (empty_of (s.records e) none)) ∙ w.same_first;
            count = omega (arith, count, long);
          }

  pub no_more : first_of w.rest ≡ None → None ≡ option_map loc (first_of (flat_map s.records whole))
  no_more i = ap (λ (o : Option Place). option_map loc o) (sym (ap (λ (xs : List Place). first_of (flat_map s.records xs)) (empty_of w.rest i)) ∙ w.same_first)

  -- no walk takes more steps than there are places
  pub few_steps : (from : DiskLoc) → IsRest image free s name whole from → steps ≤ 536870912
  few_steps from r =
      let st = w.now.stands in
      let most = not_longer (s.extents name) (λ p h. low_extent p h) (st.extents.linked name).no_twice in
      let all = ap (λ (xs : List Place). length xs) r.is ∙ length-append r.before whole in
      let count = w.count in
      omega (arith, most, all, count)
