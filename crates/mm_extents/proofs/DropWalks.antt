-- A walk along the extents that become free.
use Rattle.std.proofs.Common.{◌≡◌, ℕ, pos, ◌+◌, ◌≤◌, inl, inr, true, false, List, [], ◌∷◌, ◌++◌, length, Option, Some, None, refl, sym, ◌∙◌, ap, subst, arith, length-append, append_assoc}
use Rattle.std.proofs.lemmas.Bool.{cases_Bool, false≢true}
use Rattle.std.proofs.lemmas.List.{append-nil}
use Rattle.mm_base.specs.Bytes.{padded}
use Rattle.mm_base.specs.declared.place.DiskLoc.{DiskLoc}
use Rattle.mm_ranges.specs.Overlay.{Image}
use Rattle.mm_frames.specs.Texts.{text_in}
use Rattle.mm_frames.specs.declared.extent_header.ExtentHeader.{ExtentHeader}
use Rattle.mm_frames.specs.declared.free_ends.FreeEnds.{FreeEnds}
use Rattle.mm_links.specs.Links.{Place, same, has, once, first_of, last_of, next_in, appended}
use Rattle.mm_links.proofs.LinkLaws.{same_own, same_not, next_here, next_there, has_here, has_there, has_more, has_last, once_parts}
use Rattle.mm_links.proofs.Appending.{has_appended, has_stays, has_new}
use Rattle.mm_extents.specs.Heap.{Cell, extent, Heap}
use Rattle.mm_extents.specs.Changes.{loc, loc_or, LowOr, xnext_set}
use Rattle.mm_extents.specs.FreeExtents.{HasFree, next_passed, without_links}
use Rattle.mm_extents.specs.Dropping.{within, header_freed, IsUsed, joined, AreUsed, AreFreed}
use Rattle.mm_extents.proofs.FileLaws.{low_place}
use Rattle.mm_extents.proofs.Walks.{not_longer}
use Rattle.mm_extents.proofs.Writes.{changed_there}
use Rattle.mm_extents.proofs.DropSteps.{freed_here, freed_there, used_stays, links_stay, next_only}

has_none : (xs ys : List Place) (q : Place) → has xs q ≡ false → has ys q ≡ false → has (xs ++ ys) q ≡ false
has_none [] ys q a b = b
has_none (x ∷ xs) ys q a b = elim (cases_Bool (same x q)) [
  | inl y ↦ absurd (false≢true (sym a ∙ has_here x xs q y))
  | inr n ↦ has_there x (xs ++ ys) q n ∙ has_none xs ys q (sym (has_there x xs q n) ∙ a) b
]

off_before : (xs : List Place) (z q : Place) → has (appended xs z) q ≡ false → has xs q ≡ false
off_before xs z q b = elim (cases_Bool (has xs q)) [ inl y ↦ absurd (false≢true (sym b ∙ has_stays xs z q y)) | inr n ↦ n ]

passed_off : (o : Option Place) (z : DiskLoc) (H : Heap) (q : Place) → ((x : Place) → o ≡ Some x → same x q ≡ false) → next_passed o z H q ≡ H q
passed_off None z H q n = refl
passed_off (Some x) z H q n = changed_there x q (xnext_set z) H (n x refl)

-- how far the extents have become free ones
pub record IsDropped (now : Image) (db : List ℕ) (heap : Heap) (chain ps : List Place) (ends : FreeEnds) (steps : ℕ) (at : DiskLoc) : Type 0 where
  pub before : List Place
  pub rest : List Place
  pub is : ps ≡ before ++ rest
  pub count : length before ≡ steps
  pub t : Heap
  pub frees : HasFree now db t (chain ++ before) ends
  pub freed : AreFreed heap t db chain before
  pub left : AreUsed t db rest at
  pub as_before : (q : Place) → has rest q ≡ true → t q ≡ heap q

pub start : (image : Image) (db : List ℕ) (heap : Heap) (chain ps : List Place) (ends : FreeEnds) (first : DiskLoc) → HasFree image db heap chain ends → AreUsed heap db ps first → IsDropped image db heap chain ps ends 0 first
start image db heap chain ps ends first f u = record {
  before = [];
  rest = ps;
  is = refl;
  count = refl;
  t = heap;
  frees = subst (λ (xs : List Place). HasFree image db heap xs ends) (sym (append-nil chain)) f;
  freed = record { freed = λ p h on i. absurd (false≢true on); others = λ q o. refl; same_off = λ q a b o. refl };
  left = u;
  as_before = λ q on. refl;
}

module _ (now : Image) (db : List ℕ) (heap : Heap) (chain ps : List Place) (ends : FreeEnds) (steps : ℕ) (at : DiskLoc) (w : IsDropped now db heap chain ps ends steps at) where
  -- the extent that comes next
  pub used_first : (z : Place) → first_of w.rest ≡ Some z → has w.rest z ≡ true
  used_first z e = by w.rest e
    where
      by : (xs : List Place) → first_of xs ≡ Some z → has xs z ≡ true
      by [] f = absurd cc
      by (y ∷ ys) f = let same_y : y ≡ z = cc in ap (has (y ∷ ys)) (sym same_y) ∙ has_here y ys y (same_own y)

  pub low_next : LowOr (first_of w.rest)
  low_next = by (first_of w.rest) refl
    where
      by : (o : Option Place) → first_of w.rest ≡ o → LowOr o
      by None e = tt
      by (Some z) e = let x = w.left.each z (used_first z e) in low_place now w.t z (extent x.1.0.h) w.frees.files w.frees.shown x.1.0.is

  pub next_used : (z : Place) → first_of w.rest ≡ Some z → (n : ℕ) × ((u : IsUsed w.t db z n) × (u.h.xnext ≡ loc_or (next_in w.rest z)))
  next_used z e = w.left.each z (used_first z e)

  pub more_left : (z : Place) → first_of w.rest ≡ Some z → steps + 1 ≤ length ps
  more_left z e = by w.rest w.is e
    where
      by : (xs : List Place) → ps ≡ w.before ++ xs → first_of xs ≡ Some z → steps + 1 ≤ length ps
      by [] i f = absurd cc
      by (y ∷ ys) i f =
          let count = w.count in
          let long = ap length i ∙ length-append w.before (y ∷ ys) in
          omega (arith, count, long)

  pub dropped_all : first_of w.rest ≡ None → (t : Heap) × (HasFree now db t (chain ++ ps) ends × AreFreed heap t db chain ps)
  dropped_all e = by w.rest w.is e
    where
      by : (xs : List Place) → ps ≡ w.before ++ xs → first_of xs ≡ None → (t : Heap) × (HasFree now db t (chain ++ ps) ends × AreFreed heap t db chain ps)
      by [] i f =
          let all : w.before ≡ ps = sym (i ∙ append-nil w.before) in
          (w.t, (subst (λ (xs : List Place). HasFree now db w.t (chain ++ xs) ends) all w.frees, subst (λ (xs : List Place). AreFreed heap w.t db chain xs) all w.freed))
      by (y ∷ ys) i f = absurd cc

  -- one more
  module _ (z : Place) (n : ℕ) (u : IsUsed w.t db z n) (next : DiskLoc) (later : Image) (ends' : FreeEnds) (goes : next ≡ loc_or (next_in w.rest z))
      (f : HasFree later db (joined w.t db (chain ++ w.before) z n ends.last) (appended (chain ++ w.before) z) ends') where
    abbrev t' : Heap
    t' = joined w.t db (chain ++ w.before) z n ends.last

    t_here : t' z ≡ Some (extent (header_freed z db (pos n) ends.last))
    t_here = freed_here z n (header_freed z db (pos n) ends.last) (next_passed (last_of (chain ++ w.before)) (loc z) w.t)

    named : text_in (padded 128 db) ≡ db
    named =
        let x = f.on_chain z (has_new (chain ++ w.before) z) in
        let one : Some (extent x.0) ≡ Some (extent (header_freed z db (pos n) ends.last)) = sym x.1 ∙ t_here in
        let head : x.0 ≡ header_freed z db (pos n) ends.last = cc in
        ap (λ (h : ExtentHeader). text_in h.namespace) (sym head) ∙ x.2

    step : (xs : List Place) → w.rest ≡ z ∷ xs → IsDropped later db heap chain ps ends' (steps + 1) next
    step xs e =
        let parts = once_parts z xs (ap once (sym e) ∙ w.left.no_twice) in
        let whole : ps ≡ appended w.before z ++ xs = w.is ∙ ap (λ (ys : List Place). w.before ++ ys) e ∙ sym (append_assoc w.before (z ∷ []) xs) in
        let count = w.count in
        let long = length-append w.before (z ∷ []) in
        record {
          before = appended w.before z;
          rest = xs;
          is = whole;
          count = omega (arith, count, long);
          t = t';
          frees = subst (λ (ys : List Place). HasFree later db t' ys ends') (append_assoc chain w.before (z ∷ [])) f;
          freed = record {
            freed = λ p h on i. elim (has_appended w.before z p on) [
              | inl old ↦ old_freed p h old i
              | inr m ↦ new_freed p h m i
            ];
            others = λ q o.
                let mine = o z u.h n (has_new w.before z) (sym here ∙ u.is) u.long in
                links_stay now db w.t (chain ++ w.before) ends w.frees z n u named q mine.0 mine.1
                ∙ w.freed.others q (λ p h m on. o p h m (has_stays w.before z p on));
            same_off = λ q a b o.
                let ne = same_not z q (λ g. false≢true (sym b ∙ ap (has (appended w.before z)) (sym g) ∙ has_new w.before z)) in
                let off = off_before w.before z q b in
                freed_there z n (header_freed z db (pos n) ends.last) (next_passed (last_of (chain ++ w.before)) (loc z) w.t) q ne (o z u.h n (has_new w.before z) (sym here ∙ u.is) u.long)
                ∙ passed_off (last_of (chain ++ w.before)) (loc z) w.t q (λ x f. same_not x q (λ g. false≢true (sym (has_none chain w.before q a off) ∙ ap (has (chain ++ w.before)) (sym g) ∙ has_last (chain ++ w.before) x f)))
                ∙ w.freed.same_off q a off (λ p h m on. o p h m (has_stays w.before z p on));
          };
          left = record {
            head = goes ∙ ap loc_or (ap (λ (ys : List Place). next_in ys z) e ∙ next_here z xs z (same_own z));
            no_twice = parts.1;
            each = λ q on.
                let ne = apart xs parts.0 q on in
                let x = w.left.each q (ap (λ (ys : List Place). has ys q) e ∙ has_more z xs q on) in
                let v = x.1.0 in
                let stays = used_stays now db w.t (chain ++ w.before) ends w.frees z n u named q x.0 v ne in
                (x.0, (record { h = v.h; is = stays ∙ v.is; isnt_free = v.isnt_free; long = v.long }, x.1.1 ∙ ap loc_or (ap (λ (ys : List Place). next_in ys q) e ∙ next_there z xs q ne)));
          };
          as_before = λ q on.
              let ne = apart xs parts.0 q on in
              let more = ap (λ (ys : List Place). has ys q) e ∙ has_more z xs q on in
              let x = w.left.each q more in
              used_stays now db w.t (chain ++ w.before) ends w.frees z n u named q x.0 x.1.0 ne ∙ w.as_before q more;
        }
      where
        here : w.t z ≡ heap z
        here = w.as_before z (ap (λ (ys : List Place). has ys z) e ∙ has_here z xs z (same_own z))

        apart : (ys : List Place) → has ys z ≡ false → (q : Place) → has ys q ≡ true → same z q ≡ false
        apart ys no' q on = same_not z q (λ g. false≢true (sym no' ∙ ap (has ys) g ∙ on))

        old_freed : (p : Place) (h : ExtentHeader) → has w.before p ≡ true → heap p ≡ Some (extent h) → (next : DiskLoc) × ((prev : DiskLoc) × (t' p ≡ Some (extent (record (header_freed p db h.len prev) { xnext = next }))))
        old_freed p h on i =
            let x = w.freed.freed p h on i in
            let y = next_only now db w.t (chain ++ w.before) ends w.frees z n u named p (record (header_freed p db h.len x.1.0) { xnext = x.0 }) (on_both chain w.before p on) x.1.1 in
            (y.0, (x.1.0, y.1))
          where
            on_both : (xs ys : List Place) (q : Place) → has ys q ≡ true → has (xs ++ ys) q ≡ true
            on_both [] ys q on = on
            on_both (x ∷ xs) ys q on = has_more x (xs ++ ys) q (on_both xs ys q on)

        new_freed : (p : Place) (h : ExtentHeader) → p ≡ z → heap p ≡ Some (extent h) → (next : DiskLoc) × ((prev : DiskLoc) × (t' p ≡ Some (extent (record (header_freed p db h.len prev) { xnext = next }))))
        new_freed p h m i =
            let one : Some (extent u.h) ≡ Some (extent h) = sym u.is ∙ here ∙ ap heap (sym m) ∙ i in
            let head : u.h ≡ h = cc in
            let len : pos n ≡ h.len = sym u.long ∙ ap (λ (y : ExtentHeader). y.len) head in
            ((header_freed p db h.len ends.last).xnext, (ends.last, ap t' m ∙ t_here ∙ (λ j. Some (extent (header_freed (sym m j) db (len j) ends.last)))))

    pub stepped : first_of w.rest ≡ Some z → IsDropped later db heap chain ps ends' (steps + 1) next
    stepped e = by w.rest refl e
      where
        by : (xs : List Place) → w.rest ≡ xs → first_of xs ≡ Some z → IsDropped later db heap chain ps ends' (steps + 1) next
        by [] i g = absurd cc
        by (y ∷ ys) i g = let same_y : y ≡ z = cc in step ys (i ∙ ap (λ (x : Place). x ∷ ys) same_y)

-- no walk takes more steps than there are places
pub few_steps : (image now : Image) (db : List ℕ) (heap : Heap) (chain ps : List Place) (ends ends' : FreeEnds) (first : DiskLoc) (steps : ℕ) (at : DiskLoc) → HasFree image db heap chain ends → AreUsed heap db ps first
    → IsDropped now db heap chain ps ends' steps at → (steps ≤ 536870912) × (steps ≤ length ps)
few_steps image now db heap chain ps ends ends' first steps at f u w =
    let most = not_longer ps (λ p on. let x = u.each p on in low_place image heap p (extent x.1.0.h) f.files f.shown x.1.0.is) u.no_twice in
    let count = w.count in
    let long = ap length w.is ∙ length-append w.before w.rest in
    (omega (arith, most, count, long), omega (arith, count, long))
