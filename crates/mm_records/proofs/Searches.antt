-- A walk down a list of deleted blocks.
use Rattle.std.proofs.Common.{◌≡◌, ℕ, pos, ◌+◌, ◌<◌, ◌≤◌, inl, inr, List, [], ◌∷◌, ◌++◌, length, Option, Some, None, refl, sym, ◌∙◌, ap, subst, arith, length-append, append_assoc}
use Rattle.std.proofs.lemmas.Bool.{false≢true}
use Rattle.std.proofs.lemmas.List.{append-nil}
use Rattle.mm_base.specs.Places.{null}
use Rattle.mm_base.specs.declared.place.DiskLoc.{DiskLoc}
use Rattle.mm_ranges.specs.Overlay.{Image}
use Rattle.mm_links.specs.Links.{Place, has, once, first_of, last_of, next_in, appended}
use Rattle.mm_links.proofs.Appending.{has_appended, last_new}
use Rattle.mm_extents.specs.Changes.{loc_or, LowOr}
use Rattle.mm_extents.proofs.Walks.{not_longer, has_middle, next_middle}
use Rattle.mm_records.specs.Searching.{header_at, IsListed, IsList, AllShort, IsFirstFit, IsWalked}

pub start : (image : Image) (list : List Place) (r : ℕ) (head : DiskLoc) → IsList image list head → IsWalked image list r 0 null head
start image list r head l = record { before = []; rest = list; is = refl; count = refl; here = l.head_is; short = λ p n h e. absurd (false≢true h); link_is = refl }

-- where the walk stands at a block
pub record At (image : Image) (list : List Place) (r steps : ℕ) (link at : DiskLoc) (z : Place) : Type 0 where
  pub before : List Place
  pub after : List Place
  pub is : list ≡ before ++ z ∷ after
  pub count : length before ≡ steps
  pub short : AllShort image r before
  pub link_is : link ≡ loc_or (last_of before)
  pub at_is : at ≡ loc_or (Some z)

module _ (image : Image) (list : List Place) (r : ℕ) (head : DiskLoc) (l : IsList image list head) (steps : ℕ) (link at : DiskLoc) where
  listed : (z : Place) → At image list r steps link at z → IsListed image list z
  listed z a = l.blocks z (ap (λ (xs : List Place). has xs z) a.is ∙ has_middle a.before z a.after)

  pub stepped : (z : Place) (next : DiskLoc) → At image list r steps link at z → next ≡ (header_at image z).next_deleted → ((n : ℕ) → (header_at image z).length_with_headers ≡ pos n → n < r) → IsWalked image list r (steps + 1) at next
  stepped z next a e short =
      let b = listed z a in
      let whole : list ≡ appended a.before z ++ a.after = a.is ∙ sym (append_assoc a.before (z ∷ []) a.after) in
      let count = a.count in
      let long = length-append a.before (z ∷ []) in
      record {
        before = appended a.before z;
        rest = a.after;
        is = whole;
        count = omega (arith, count, long);
        here = e ∙ b.next_is ∙ ap loc_or (ap (λ (xs : List Place). next_in xs z) a.is ∙ next_middle a.before z a.after (ap once (sym a.is) ∙ l.no_twice));
        short = λ p n h f. elim (has_appended a.before z p h) [ inl old ↦ a.short p n old f | inr s ↦ short n (ap (λ (q : Place). (header_at image q).length_with_headers) (sym s) ∙ f) ];
        link_is = a.at_is ∙ ap loc_or (sym (last_new a.before z));
      }

  pub fits : (z : Place) → At image list r steps link at z → ((n : ℕ) → (header_at image z).length_with_headers ≡ pos n → r ≤ n) → IsFirstFit image list r link z
  fits z a long = record { before = a.before; after = a.after; is = a.is; short = a.short; long = long; link_is = a.link_is }

  module _ (w : IsWalked image list r steps link at) where
    -- no walk takes more steps than there are places
    pub ends : steps ≤ 536870912
    ends =
        let most = not_longer list (λ p h. let b = l.blocks p h in record { file = b.file; ofs = b.low }) l.no_twice in
        let count = w.count in
        let long = ap length w.is ∙ length-append w.before w.rest in
        omega (arith, most, count, long)

    pub at_of : (z : Place) → first_of w.rest ≡ Some z → At image list r steps link at z
    at_of z e = by w.rest w.is e
      where
        by : (rest : List Place) → list ≡ w.before ++ rest → first_of rest ≡ Some z → At image list r steps link at z
        by [] i f = absurd cc
        by (y ∷ ys) i f =
            let same_y : y ≡ z = cc in
            record { before = w.before; after = ys; is = i ∙ ap (λ (x : Place). w.before ++ x ∷ ys) same_y; count = w.count; short = w.short; link_is = w.link_is; at_is = w.here ∙ ap loc_or e }

    pub none_left : first_of w.rest ≡ None → AllShort image r list
    none_left e = by w.rest w.is e
      where
        by : (rest : List Place) → list ≡ w.before ++ rest → first_of rest ≡ None → AllShort image r list
        by [] i f = subst (λ (xs : List Place). AllShort image r xs) (sym (i ∙ append-nil w.before)) w.short
        by (y ∷ ys) i f = absurd cc

    pub low_first : LowOr (first_of w.rest)
    low_first = by (first_of w.rest) refl
      where
        by : (o : Option Place) → first_of w.rest ≡ o → LowOr o
        by None e = tt
        by (Some z) e = let b = listed z (at_of z e) in record { file = b.file; ofs = b.low }

    pub listed_at : (z : Place) → first_of w.rest ≡ Some z → IsListed image list z
    listed_at z e = listed z (at_of z e)
