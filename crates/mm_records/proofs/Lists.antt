-- The lists of a namespace as a walk finds them.
use Rattle.std.proofs.Common.{◌≡◌, ℕ, pos, suc, zero, ◌+◌, ◌*◌, ◌^◌, ◌<◌, ◌≤◌, inl, inr, true, false, List, [], ◌∷◌, ◌++◌, length, Option, Some, sym, ◌∙◌, ap, arith}
use Rattle.std.specs.Prelude.{slice_index_or, nat_lt}
use Rattle.std.specs.Option.{option_map}
use Rattle.std.proofs.lemmas.Bool.{cases_Bool, cases_lt, false≢true}
use Rattle.std.proofs.lemmas.Bool.Decides.{nat_tests}
use Rattle.mm_base.specs.Places.{null}
use Rattle.mm_base.specs.declared.place.DiskLoc.{DiskLoc}
use Rattle.mm_ranges.specs.Overlay.{Image}
use Rattle.mm_frames.specs.declared.deleted_header.DeletedHeader.{DeletedHeader}
use Rattle.mm_frames.specs.declared.details.Details.{Details}
use Rattle.mm_links.specs.Links.{Place, same, has, next_in}
use Rattle.mm_links.proofs.LinkLaws.{if_true, if_false, has_here, has_there, has_more}
use Rattle.mm_extents.specs.Heap.{deleted}
use Rattle.mm_extents.specs.Tiling.{outline}
use Rattle.mm_extents.proofs.FileLaws.{short_file}
use Rattle.mm_extents.proofs.Walks.{has_middle}
use Rattle.mm_records.specs.Shape.{Shape, list_from, list_for}
use Rattle.mm_records.specs.Stands.{IsDeleted}
use Rattle.mm_records.specs.Map.{name_at}
use Rattle.mm_records.specs.InHand.{StandsWith}
use Rattle.mm_records.specs.Searching.{header_at, IsList, AllShort, IsFirstFit, AllShorter, NoBlock, IsChosen}
use Rattle.mm_records.proofs.Numbers.{list_low}

-- ---- lists by length

from_least : (i n len : ℕ) → i ≤ list_from i n len
from_least i zero len = omega arith
from_least i (suc n) len = elim (cases_Bool (nat_lt len (32 * 2 ^ i))) [
  | inl y ↦ let e = if_true (nat_lt len (32 * 2 ^ i)) i (list_from (suc i) n len) y in omega (arith, e)
  | inr m ↦ let e = if_false (nat_lt len (32 * 2 ^ i)) i (list_from (suc i) n len) m in let l = from_least (suc i) n len in omega (arith, e, l)
]

from_rises : (i n r len : ℕ) → r ≤ len → list_from i n r ≤ list_from i n len
from_rises i zero r len le = omega arith
from_rises i (suc n) r len le = elim (cases_Bool (nat_lt r (32 * 2 ^ i))) [
  | inl y ↦ let e = if_true (nat_lt r (32 * 2 ^ i)) i (list_from (suc i) n r) y in let l = from_least i (suc n) len in omega (arith, e, l)
  | inr m ↦
      let no : nat_lt len (32 * 2 ^ i) ≡ false = grind (arith, nat_tests) in
      let e = if_false (nat_lt r (32 * 2 ^ i)) i (list_from (suc i) n r) m in
      let f = if_false (nat_lt len (32 * 2 ^ i)) i (list_from (suc i) n len) no in
      let l = from_rises (suc i) n r len le in
      omega (arith, e, f, l)
]

-- a block of a list below that of r bytes has fewer
pub below_short : (r len : ℕ) → list_for len < list_for r → len < r
unfolding list_for
below_short r len lt = elim (cases_lt len r) [ inl y ↦ y | inr n ↦ absurd (let l = from_rises 0 18 r len (omega (arith, n)) in omega (arith, l, lt)) ]

-- what is on the front of a list is on it
pub has_before_rest : (xs ys : List Place) (q : Place) → has xs q ≡ true → has (xs ++ ys) q ≡ true
has_before_rest [] ys q h = absurd (false≢true h)
has_before_rest (x ∷ xs) ys q h = elim (cases_Bool (same x q)) [ inl y ↦ has_here x (xs ++ ys) q y | inr n ↦ has_more x (xs ++ ys) q (has_before_rest xs ys q (sym (has_there x xs q n) ∙ h)) ]

-- ---- the lists of a node

module _ (image : Image) (free : List ℕ) (s : Shape) (node : ℕ) (d : Details) (st : StandsWith image free s node d) where
  abbrev name : List ℕ
  name = name_at image node

  header_is : (i : ℕ) (p : Place) (o : Option Place) (b : IsDeleted s.heap name i o p) → header_at image p ≡ b.h
  header_is i p o b = (st.heap.shown p (deleted b.h b.rest) b.there).0

  len_is : (i : ℕ) (p : Place) (o : Option Place) (b : IsDeleted s.heap name i o p) → (header_at image p).length_with_headers ≡ pos (16 + length b.rest)
  len_is i p o b =
      let w = st.tiled.blocks p.0 p.1 (16 + length b.rest) b.h.extent_ofs b.h.length_with_headers (ap (option_map outline) b.there) in
      ap (λ (h : DeletedHeader). h.length_with_headers) (header_is i p o b) ∙ w.1.1.long

  -- what `first_fit` asks for
  pub is_list : (i : ℕ) → i < 19 → IsList image (s.lists name i) (slice_index_or d.deleted i null)
  is_list i lt = record {
    head_is = st.own.heads i lt;
    no_twice = st.lists.no_twice name i;
    blocks = λ p h.
        let b = st.lists.on_list name i p h in
        let inside = st.heap.inside p (deleted b.h b.rest) b.there in
        let file = st.heap.data_file p (deleted b.h b.rest) b.there in
        let short = short_file image st.files p.0 file in
        record {
          file = file;
          low = omega (arith, inside, short);
          inside = omega (arith, inside);
          len = 16 + length b.rest;
          len_is = len_is i p (next_in (s.lists name i) p) b;
          next_is = ap (λ (x : DeletedHeader). x.next_deleted) (header_is i p (next_in (s.lists name i) p) b) ∙ b.names_next;
        };
  }

  -- what it says of blocks of a list
  pub all_shorter : (i r : ℕ) (ps : List Place) → ((p : Place) → has ps p ≡ true → has (s.lists name i) p ≡ true) → AllShort image r ps → AllShorter s.heap r ps
  all_shorter i r ps inside short p h rest on there =
      let b = st.lists.on_list name i p (inside p on) in
      let same : Some (deleted b.h b.rest) ≡ Some (deleted h rest) = sym b.there ∙ there in
      let rests : b.rest ≡ rest = cc in
      let few = short p (16 + length b.rest) on (len_is i p (next_in (s.lists name i) p) b) in
      let long = ap (λ (xs : List ℕ). length xs) rests in
      omega (arith, few, long)

  pub none_fits : (i r : ℕ) → AllShort image r (s.lists name i) → AllShorter s.heap r (s.lists name i)
  none_fits i r short = all_shorter i r (s.lists name i) (λ p h. h) short

  pub chosen : (i r : ℕ) (link : DiskLoc) (p : Place) → i < 19 → list_for r ≤ i → ((j : ℕ) → list_for r ≤ j → j < i → AllShorter s.heap r (s.lists name j)) → IsFirstFit image (s.lists name i) r link p → IsChosen s name r i link p
  chosen i r link p lt from lower f =
      let on : has (s.lists name i) p ≡ true = ap (λ (xs : List Place). has xs p) f.is ∙ has_middle f.before p f.after in
      let b = st.lists.on_list name i p on in
      record {
        from = from;
        to = lt;
        lower = lower;
        before = f.before;
        after = f.after;
        is = f.is;
        short = all_shorter i r f.before (λ q h. ap (λ (xs : List Place). has xs q) f.is ∙ has_before_rest f.before (p ∷ f.after) q h) f.short;
        h = b.h;
        rest = b.rest;
        there = b.there;
        long = f.long (16 + length b.rest) (len_is i p (next_in (s.lists name i) p) b);
        link_is = f.link_is;
      }

  -- none from the list of r bytes on: none at all
  pub no_block : (r : ℕ) → ((j : ℕ) → list_for r ≤ j → j < 19 → AllShorter s.heap r (s.lists name j)) → NoBlock s name r
  no_block r none i p h rest on there = elim (cases_lt i (list_for r)) [
    | inl below ↦ below_short r (16 + length rest) (let e = classed in omega (arith, e, below))
    | inr from ↦ none i (omega (arith, from)) (let e = classed in let l = list_low (16 + length rest) in omega (arith, e, l)) p h rest on there
  ]
    where
      classed : list_for (16 + length rest) ≡ i
      classed =
          let b = st.lists.on_list name i p on in
          let same : Some (deleted b.h b.rest) ≡ Some (deleted h rest) = sym b.there ∙ there in
          let rests : b.rest ≡ rest = cc in
          ap (λ (xs : List ℕ). list_for (16 + length xs)) (sym rests) ∙ b.right_list
