-- A new extent, by either way.
use Rattle.std.proofs.Common.{◌≡◌, ℕ, pos, ◌%◌, ◌<◌, ◌≤◌, inl, inr, true, List, Option, Some, Result, Ok, Err, refl, ◌∙◌, ap, arith}
use Rattle.std.specs.Option.{option_map}
use Rattle.std.specs.Prelude.{IfOk}
use Rattle.std.proofs.lemmas.Bool.{cases_lt}
use Rattle.std.proofs.Math.Nat.{mod-eq_of_lt}
use Rattle.mm_base.specs.declared.place.DiskLoc.{DiskLoc}
use Rattle.mm_ranges.specs.Overlay.{Image}
use Rattle.mm_frames.specs.declared.extent_header.ExtentHeader.{ExtentHeader}
use Rattle.mm_frames.specs.declared.free_ends.FreeEnds.{FreeEnds}
use Rattle.mm_links.specs.Links.{Place, has, without}
use Rattle.mm_extents.specs.Heap.{Cell, extent, Heap}
use Rattle.mm_extents.specs.Changes.{loc, IsLow}
use Rattle.mm_extents.specs.Tiling.{outline}
use Rattle.mm_extents.specs.Rests.{IsNextRest}
use Rattle.mm_extents.specs.FreeExtents.{HasFree, AllShorter, IsFirstFree, without_links, IsReused, IsCutOff, IsMadeOf}
use Rattle.mm_extents.proofs.FileLaws.{low_place}
use Rattle.mm_extents.proofs.Walks.{has_middle}

some_same : {A : Type 0} (x y : A) → Some x ≡ Some y → x ≡ y
some_same x y e = cc

-- the first free extent is on the chain
pub first_on : (heap : Heap) (chain : List Place) (len : ℕ) (e : Place) → IsFirstFree heap chain len e → has chain e ≡ true
first_on heap chain len e x = ap (λ (ps : List Place). has ps e) x.is ∙ has_middle x.before e x.after

pub first_low : (image : Image) (db : List ℕ) (heap : Heap) (chain : List Place) (ends : FreeEnds) (len : ℕ) (e : Place) → HasFree image db heap chain ends → IsFirstFree heap chain len e → IsLow e
first_low image db heap chain ends len e f x = let y = f.on_chain e (first_on heap chain len e x) in low_place image heap e (extent y.0) f.files f.shown y.1

pub of_reused : (old image : Image) (db : List ℕ) (heap t : Heap) (chain : List Place) (ends : FreeEnds) (name : List ℕ) (len n : ℕ) (e : Place) (at : DiskLoc) → at ≡ loc e → IsFirstFree heap chain len e
    → HasFree image db t (without e chain) ends → IsReused heap t chain e name n → IsMadeOf old image db heap chain ends name len at
of_reused old image db heap t chain ends name len n e at is x f r = (
  t,
  (
    e,
    (
      n,
      (
        without e chain,
        (
          is,
          (
            f,
            record {
              placed = inl (x, first_on heap chain len e x, refl);
              long = x.long r.h n r.was r.long;
              empty = r.empty;
              here = r.here;
              rest = r.rest;
              rest_long = r.rest_long;
              block = r.block;
              others = r.others;
              same_off = r.same_off;
            },
          ),
        ),
      ),
    ),
  ),
)

pub of_cut : (old image : Image) (db : List ℕ) (heap t : Heap) (chain : List Place) (ends : FreeEnds) (name : List ℕ) (len : ℕ) (e : Place) (at : DiskLoc) → at ≡ loc e → AllShorter heap len chain → IsNextRest old e len
    → HasFree image db t chain ends → IsCutOff heap t e name len → IsMadeOf old image db heap chain ends name len at
of_cut old image db heap t chain ends name len e at is short next f c = (
  t,
  (
    e,
    (
      len,
      (
        chain,
        (
          is,
          (
            f,
            record {
              placed = inr (short, c.none, refl, refl, next);
              long = omega arith;
              empty = c.empty;
              here = c.here;
              rest = c.rest;
              rest_long = c.rest_long;
              block = c.block;
              others = λ q x y. ap without_links (c.others q x y);
              same_off = λ q x y off. c.others q x y;
            },
          ),
        ),
      ),
    ),
  ),
)

-- a length of whole pages that isn't 0 has a page
pub page_least : (len : ℕ) → len % 4096 ≡ 0 → 0 < len → 4096 ≤ len
page_least len pages some = elim (cases_lt len 4096) [
  | inl lt ↦ absurd (let m = mod-eq_of_lt {n = len} {m = 4096} lt in omega (arith, m, pages, some))
  | inr ge ↦ omega (arith, ge)
]

-- a free extent that is long enough isn't shorter
pub not_shorter : (image : Image) (db : List ℕ) (heap : Heap) (chain : List Place) (ends : FreeEnds) (len : ℕ) (e : Place) → HasFree image db heap chain ends → IsFirstFree heap chain len e → AllShorter heap len chain → ⊥
not_shorter image db heap chain ends len e f x short =
    let on = first_on heap chain len e x in
    let y = f.on_chain e on in
    let n = len_of_one e y.0 y.1 in
    let a = x.long y.0 n.0 y.1 n.1 in
    let b = short e y.0 n.0 on y.1 n.1 in
    omega (arith, a, b)
  where
    len_of_one : (p : Place) (h : ExtentHeader) → heap p ≡ Some (extent h) → (n : ℕ) × (h.len ≡ pos n)
    len_of_one p h i = let t = f.tiled.extents p.0 p.1 h.magic h.my_loc h.namespace h.len (ap (λ (o : Option Cell). option_map outline o) i) in (t.2.0, t.2.1.long)

pub both_hold : {T E : Type 0} {P Q : T → Type 0} {R : T → Type 0} (r : Result T E) → IfOk r P → IfOk r Q → ((x : T) → P x → Q x → R x) → IfOk r R
both_hold (Ok x) p q f = f x p q
both_hold (Err e) p q f = tt

pub holds_of : {T E : Type 0} {P R : T → Type 0} (r : Result T E) → IfOk r P → ((x : T) → P x → R x) → IfOk r R
holds_of (Ok x) p f = f x p
holds_of (Err e) p f = tt

pub holds_anyway : {T E : Type 0} {R : T → Type 0} (r : Result T E) → ((x : T) → R x) → IfOk r R
holds_anyway (Ok x) f = f x
holds_anyway (Err e) f = tt
