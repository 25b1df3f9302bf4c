-- A walk along the chain of free extents.
use Rattle.std.proofs.Common.{◌≡◌, ℕ, ℤ, pos, ◌+◌, ◌<◌, ◌≤◌, inl, inr, List, [], ◌∷◌, ◌++◌, length, Option, Some, None, refl, sym, ◌∙◌, ap, subst, arith, length-append, append_assoc}
use Rattle.std.proofs.lemmas.Bool.{false≢true}
use Rattle.std.proofs.lemmas.List.{append-nil}
use Rattle.mm_base.specs.declared.place.DiskLoc.{DiskLoc}
use Rattle.mm_ranges.specs.Overlay.{Image, bytes_at}
use Rattle.mm_links.specs.Links.{Place, has, once, first_of, next_in, appended}
use Rattle.mm_links.proofs.Appending.{has_appended}
use Rattle.mm_extents.specs.Changes.{loc_or, LowOr, KeepsHeaders, len_of}
use Rattle.mm_extents.proofs.Walks.{not_longer, has_middle, next_middle}
use Rattle.std.specs.Prelude.{◌≤ℤ◌, OnOk, unwrap_or}
use Rattle.std.specs.FinMap.{get}
use Rattle.std.proofs.Common.{Result, Ok, Err}
use Rattle.std.specs.Option.{option_map}
use Rattle.std.proofs.lemmas.Int.{ints}
use Rattle.mm_frames.specs.declared.extent_header.ExtentHeader.{ExtentHeader}
use Rattle.mm_frames.specs.declared.free_ends.FreeEnds.{FreeEnds}
use Rattle.mm_extents.specs.Heap.{Cell, extent, Heap}
use Rattle.mm_extents.specs.Tiling.{outline}
use Rattle.mm_extents.specs.Chains.{ext_next}
use Rattle.mm_extents.proofs.FileLaws.{low_place}
use Rattle.mm_extents.specs.FreeExtents.{extent_at, IsOnChain, IsChain, AllShort, IsFirstFit, IsWalked, HasFree, AllShorter, IsFirstFree, IsExtentAt, ExtentOr}

pub start : (image : Image) (list : List Place) (r : ℕ) (head : DiskLoc) → IsChain image list head → IsWalked image list r 0 head
start image list r head l = record { before = []; rest = list; is = refl; count = refl; here = l.head_is; short = λ p n h e. absurd (false≢true h) }

-- where the walk stands at a block
pub record At (image : Image) (list : List Place) (r steps : ℕ) (at : DiskLoc) (z : Place) : Type 0 where
  pub before : List Place
  pub after : List Place
  pub is : list ≡ before ++ z ∷ after
  pub count : length before ≡ steps
  pub short : AllShort image r before
  pub at_is : at ≡ loc_or (Some z)

module _ (image : Image) (list : List Place) (r : ℕ) (head : DiskLoc) (l : IsChain image list head) (steps : ℕ) (at : DiskLoc) where
  listed : (z : Place) → At image list r steps at z → IsOnChain image list z
  listed z a = l.extents z (ap (λ (xs : List Place). has xs z) a.is ∙ has_middle a.before z a.after)

  pub stepped : (z : Place) (next : DiskLoc) → At image list r steps at z → next ≡ (extent_at image z).xnext → ((n : ℕ) → (extent_at image z).len ≡ pos n → n < r) → IsWalked image list r (steps + 1) next
  stepped z next a e short =
      let b = listed z a in
      let whole : list ≡ appended a.before z ++ a.after = a.is ∙ sym (append_assoc a.before (z ∷ []) a.after) in
      let count = a.count in
      let long = length-append a.before (z ∷ []) in
      record {
        before = appended a.before z;
        rest = a.after;
        is = whole;
        count = omega (arith, count, long);
        here = e ∙ b.next_is ∙ ap loc_or (ap (λ (xs : List Place). next_in xs z) a.is ∙ next_middle a.before z a.after (ap once (sym a.is) ∙ l.no_twice));
        short = λ p n h f. elim (has_appended a.before z p h) [ inl old ↦ a.short p n old f | inr s ↦ short n (ap (λ (q : Place). (extent_at image q).len) (sym s) ∙ f) ];
      }

  pub fits : (z : Place) → At image list r steps at z → ((n : ℕ) → (extent_at image z).len ≡ pos n → r ≤ n) → IsFirstFit image list r z
  fits z a long = record { before = a.before; after = a.after; is = a.is; short = a.short; long = long }

  module _ (w : IsWalked image list r steps at) where
    -- no walk takes more steps than there are places
    pub ends : steps ≤ 536870912
    ends =
        let most = not_longer list (λ p h. let b = l.extents p h in record { file = b.file; ofs = b.low }) l.no_twice in
        let count = w.count in
        let long = ap length w.is ∙ length-append w.before w.rest in
        omega (arith, most, count, long)

    pub at_of : (z : Place) → first_of w.rest ≡ Some z → At image list r steps at z
    at_of z e = by w.rest w.is e
      where
        by : (rest : List Place) → list ≡ w.before ++ rest → first_of rest ≡ Some z → At image list r steps at z
        by [] i f = absurd cc
        by (y ∷ ys) i f =
            let same_y : y ≡ z = cc in
            record { before = w.before; after = ys; is = i ∙ ap (λ (x : Place). w.before ++ x ∷ ys) same_y; count = w.count; short = w.short; at_is = w.here ∙ ap loc_or e }

    pub none_left : first_of w.rest ≡ None → AllShort image r list
    none_left e = by w.rest w.is e
      where
        by : (rest : List Place) → list ≡ w.before ++ rest → first_of rest ≡ None → AllShort image r list
        by [] i f = subst (λ (xs : List Place). AllShort image r xs) (sym (i ∙ append-nil w.before)) w.short
        by (y ∷ ys) i f = absurd cc

    pub low_first : LowOr (first_of w.rest)
    low_first = by (first_of w.rest) refl
      where
        by : (o : Option Place) → first_of w.rest ≡ o → LowOr o
        by None e = tt
        by (Some z) e = let b = listed z (at_of z e) in record { file = b.file; ofs = b.low }

    pub listed_at : (z : Place) → first_of w.rest ≡ Some z → IsOnChain image list z
    listed_at z e = listed z (at_of z e)

pub nonneg : (z : ℤ) (n : ℕ) → z ≡ pos n → pos 0 ≤ℤ z
nonneg z n e = subst (λ (x : ℤ). pos 0 ≤ℤ x) (sym e) (let m : pos 0 ≤ℤ pos n = omega (arith, ints) in m)

pub same_number : (a b : ℕ) → pos a ≡ pos b → a ≡ b
same_number a b e = cc

-- ---- the chain in hand

module _ (image : Image) (free : List ℕ) (heap : Heap) (chain : List Place) (ends : FreeEnds) (f : HasFree image free heap chain ends) where
  len_of_one : (p : Place) (h : ExtentHeader) → heap p ≡ Some (extent h) → (n : ℕ) × (h.len ≡ pos n)
  len_of_one p h e = let t = f.tiled.extents p.0 p.1 h.magic h.my_loc h.namespace h.len (ap (λ (o : Option Cell). option_map outline o) e) in (t.2.0, t.2.1.long)

  shown_at : (p : Place) (h : ExtentHeader) → heap p ≡ Some (extent h) → extent_at image p ≡ h
  shown_at p h e = f.shown.shown p (extent h) e

  pub is_chain : IsChain image chain ends.first
  is_chain = record {
    head_is = f.first;
    no_twice = f.linked.no_twice;
    extents = λ p h.
        let x = f.on_chain p h in
        let low = low_place image heap p (extent x.0) f.files f.shown x.1 in
        let n = len_of_one p x.0 x.1 in
        record {
          file = low.file;
          low = low.ofs;
          inside = f.shown.inside p (extent x.0) x.1;
          len = n.0;
          len_is = ap (λ (y : ExtentHeader). y.len) (shown_at p x.0 x.1) ∙ n.1;
          next_is = ap (λ (y : ExtentHeader). y.xnext) (shown_at p x.0 x.1) ∙ sym (ap ext_next x.1) ∙ f.linked.behind p h;
        };
  }

  pub all_shorter : (r : ℕ) (ps : List Place) → AllShort image r ps → AllShorter heap r ps
  all_shorter r ps s p h n on e l = s p n on (ap (λ (y : ExtentHeader). y.len) (shown_at p h e) ∙ l)

  pub is_first : (r : ℕ) (at : Place) → IsFirstFit image chain r at → IsFirstFree heap chain r at
  is_first r at x = record { before = x.before; after = x.after; is = x.is; short = all_shorter r x.before x.short; long = λ h n e l. x.long n (ap (λ (y : ExtentHeader). y.len) (shown_at at h e) ∙ l) }

pub extent_named : (heap : Heap) (o : Option Place) (p : Place) → o ≡ Some p → ExtentOr heap o → IsExtentAt heap p
extent_named heap o p e b = subst (λ (x : Option Place). ExtentOr heap x) e b

pub both_ok : {T E : Type 0} (P Q : Type 0) (r : Result T E) → OnOk r P → OnOk r Q → OnOk r (P × Q)
both_ok P Q (Ok x) p q = (p, q)
both_ok P Q (Err e) p q = tt

-- a file that is there, or isn't, is as long as before
pub same_length : (old new : Image) → KeepsHeaders old new → (file : ℕ) → length (bytes_at new file) ≡ length (bytes_at old file)
same_length old new k file = long_of new ∙ ap (λ (o : Option ℕ). unwrap_or o 0) (k.lengths file) ∙ sym (long_of old)
  where
    by : (o : Option (List ℕ)) → length (unwrap_or o []) ≡ unwrap_or (option_map length o) 0
    by None = refl
    by (Some b) = refl

    long_of : (i : Image) → length (bytes_at i file) ≡ unwrap_or (len_of i file) 0
    long_of i = by (get i file)
