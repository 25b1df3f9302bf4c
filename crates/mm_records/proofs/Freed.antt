-- A live record is taken out of its extent's chain and put on its deleted list.
use Rattle.std.proofs.Common.{◌≡◌, ℕ, ℤ, pos, negsuc, inl, inr, true, false, List, Option, Some, None, refl, sym, ◌∙◌, ap, subst}
use Rattle.std.specs.Prelude.{if◌then◌else◌}
use Rattle.std.proofs.lemmas.Bool.{cases_Bool, false≢true}
use Rattle.std.specs.Ordering.{nat_cmp, is_eq}
use Rattle.std.specs.Cmp.Lexicographic.{slice_cmp, nat_list_cmp_total}
use Rattle.std.proofs.lemmas.Cmp.{eq_by_cmp_equiv}
use Rattle.std.specs.declared.cmp.Ordering.{Ordering}
use Rattle.std.specs.declared.cmp.Ordering.TheVariants.{Less, Equal, Greater}
use Rattle.std.specs.FinMap.{slice_cmp-IsAntisymmetric, nat_cmp-IsAntisymmetric}
use Rattle.mm_frames.specs.declared.extent_header.ExtentHeader.{ExtentHeader}
use Rattle.mm_frames.specs.declared.rec_header.RecHeader.{RecHeader}
use Rattle.mm_links.specs.Links.{Place, same, has, once, first_of, last_of, next_in, without, is}
use Rattle.mm_links.proofs.LinkLaws.{same_is, same_not, not_same, if_true, if_false, has_next, has_before, before_of, before_once, not_behind_first, some_is, isnt_some, last_before, last_alone, last_stays, first_stays, first_moves}
use Rattle.mm_extents.specs.Heap.{extent, live, Heap, change}
use Rattle.mm_extents.specs.Changes.{loc, loc_or, ofs_or, next_set, prev_set, first_set, last_set}
use Rattle.mm_extents.proofs.Writes.{changed_here, changed_there}
use Rattle.mm_records.specs.Constants.{is_name}
use Rattle.mm_records.specs.Shape.{Shape, rec_next, rec_prev}
use Rattle.mm_records.specs.Stands.{RecordsStand, IsRecord}
use Rattle.mm_records.specs.Freeing.{loc_in, forward, backward, bypassed}
use Rattle.mm_records.proofs.Cells.{stays, core, ext_first, ext_last, core_next, core_prev, core_first, core_last, prev_next, prev_first, next_prev, next_last, next_first, prev_last, first_next, first_prev, first_last, last_next, last_prev, last_first, forward_stays, backward_stays, live_core, extent_core}

equal : (r : Ordering) → is_eq r ≡ true → r ≡ Equal
equal Less e = absurd (false≢true e)
equal Equal e = refl
equal Greater e = absurd (false≢true e)

pub name_is : (q m : List ℕ) → is_name q m ≡ true → q ≡ m
name_is q m e = slice_cmp-IsAntisymmetric nat_cmp-IsAntisymmetric q m (equal (slice_cmp nat_cmp q m) e)

pub name_own : (q m : List ℕ) → q ≡ m → is_name q m ≡ true
name_own q m e = subst (λ (n : List ℕ). is_name q n ≡ true) e ((eq_by_cmp_equiv nat_list_cmp_total).refl q)

some_same : {A : Type 0} (x y : A) → Some x ≡ Some y → x ≡ y
some_same x y e = cc

module _ {free : List ℕ} (s : Shape) (p : Place) (h : RecHeader) (room : List ℕ) (a : ℕ) (rs : RecordsStand free s) (here : s.heap p ≡ Some (live h room)) (ext : h.extent_ofs ≡ pos a) where
  abbrev e : Place
  e = (p.0, a)

  abbrev chain : List Place
  chain = s.records (p.0, a)

  abbrev fwd : Heap
  fwd = forward p.0 a h.prev_ofs h.next_ofs s.heap

  abbrev pub aft : Heap
  aft = bypassed p.0 a h.prev_ofs h.next_ofs s.heap

  on : has chain p ≡ true
  on = rs.all p h room a here ext

  one : once chain ≡ true
  one = (rs.linked (p.0, a)).no_twice

  pub file_of : (x : Place) → has chain x ≡ true → x.0 ≡ p.0
  file_of x hx = (rs.on_chain (p.0, a) x hx).file

  next_is : h.next_ofs ≡ ofs_or (next_in chain p)
  next_is = sym (ap rec_next here) ∙ (rs.linked (p.0, a)).behind p on

  prev_some : (x : Place) → next_in chain x ≡ Some p → h.prev_ofs ≡ pos x.1
  prev_some x f = sym (ap rec_prev here) ∙ (rs.linked (p.0, a)).before x p f

  prev_none : first_of chain ≡ Some p → h.prev_ofs ≡ negsuc 0
  prev_none f = sym (ap rec_prev here) ∙ (rs.linked (p.0, a)).first p f

  loc_at : (x : Place) → has chain x ≡ true → loc (p.0, x.1) ≡ loc x
  loc_at x hx = ap (λ (f : ℕ). loc (f, x.1)) (sym (file_of x hx))

  -- the link to the next one as a place
  next_loc : loc_in p.0 h.next_ofs ≡ loc_or (next_in chain p)
  next_loc = ap (loc_in p.0) next_is ∙ by (next_in chain p) refl
    where
      by : (o : Option Place) → next_in chain p ≡ o → loc_in p.0 (ofs_or o) ≡ loc_or o
      by None f = refl
      by (Some x) f = loc_at x (has_next chain p x f)

  prev_loc : (x : Place) → next_in chain x ≡ Some p → loc_in p.0 h.prev_ofs ≡ loc x
  prev_loc x f = ap (loc_in p.0) (prev_some x f) ∙ loc_at x (has_before chain x p f)

  -- where the link to the record stands
  pub data Ahead : Type 0 where
    in_extent : first_of chain ≡ Some p → fwd ≡ change (p.0, a) (first_set (loc_in p.0 h.next_ofs)) s.heap → Ahead
    in_record : (x : Place) → next_in chain x ≡ Some p → fwd ≡ change x (next_set h.next_ofs) s.heap → Ahead

  pub ahead : Ahead
  ahead = elim (before_of chain p one on) [
    | inl f ↦ in_extent f (ap (λ (z : ℤ). forward p.0 a z h.next_ofs s.heap) (prev_none f))
    | inr b ↦ in_record b.0 b.1 (ap (λ (z : ℤ). forward p.0 a z h.next_ofs s.heap) (prev_some b.0 b.1) ∙ ap (λ (f : ℕ). change (f, b.0.1) (next_set h.next_ofs) s.heap) (sym (file_of b.0 (has_before chain b.0 p b.1))))
  ]

  pub data Behind : Type 0 where
    in_extent' : next_in chain p ≡ None → aft ≡ change (p.0, a) (last_set (loc_in p.0 h.prev_ofs)) fwd → Behind
    in_record' : (y : Place) → next_in chain p ≡ Some y → aft ≡ change y (prev_set h.prev_ofs) fwd → Behind

  pub behind : Behind
  behind = by (next_in chain p) refl
    where
      by : (o : Option Place) → next_in chain p ≡ o → Behind
      by None f = in_extent' f (ap (λ (z : ℤ). backward p.0 a h.prev_ofs z fwd) (next_is ∙ ap ofs_or f))
      by (Some y) f = in_record' y f (ap (λ (z : ℤ). backward p.0 a h.prev_ofs z fwd) (next_is ∙ ap ofs_or f) ∙ ap (λ (g : ℕ). change (g, y.1) (prev_set h.prev_ofs) fwd) (sym (file_of y (has_next chain p y f))))

  -- what isn't a link stays
  pub core_aft : (q : Place) → core (aft q) ≡ core (s.heap q)
  core_aft q = backward_stays core core_prev core_last p.0 a h.prev_ofs h.next_ofs fwd q ∙ forward_stays core core_next core_first p.0 a h.prev_ofs h.next_ofs s.heap q

  live_of : (x : Place) → has chain x ≡ true → IsRecord s.heap (p.0, a) x
  live_of x hx = rs.on_chain (p.0, a) x hx

  -- the links forward
  pub next_aft : (q : Place) → rec_next (aft q) ≡ (if is (next_in chain q) p then rec_next (s.heap p) else rec_next (s.heap q))
  next_aft q = backward_stays rec_next next_prev next_last p.0 a h.prev_ofs h.next_ofs fwd q ∙ by ahead
    where
      by : Ahead → rec_next (fwd q) ≡ (if is (next_in chain q) p then rec_next (s.heap p) else rec_next (s.heap q))
      by (in_extent f i) = ap (λ (H : Heap). rec_next (H q)) i ∙ stays rec_next (first_set (loc_in p.0 h.next_ofs)) (next_first (loc_in p.0 h.next_ofs)).law (p.0, a) s.heap q
          ∙ sym (if_false (is (next_in chain q) p) (rec_next (s.heap p)) (rec_next (s.heap q)) (isnt_some (next_in chain q) p (λ g. not_behind_first chain p q one f g)))
      by (in_record x f i) = ap (λ (H : Heap). rec_next (H q)) i ∙ elim (cases_Bool (same x q)) [
        | inl y ↦
            let r = live_of x (has_before chain x p f) in
            let xq = same_is x q y in
            ap rec_next (ap (λ (z : Place). change x (next_set h.next_ofs) s.heap z) (sym xq) ∙ changed_here x (next_set h.next_ofs) s.heap (live r.h r.room) r.there)
            ∙ sym (ap rec_next here) ∙ sym (if_true (is (next_in chain q) p) (rec_next (s.heap p)) (rec_next (s.heap q)) (some_is (next_in chain q) p (ap (next_in chain) (sym xq) ∙ f)))
        | inr n ↦ ap rec_next (changed_there x q (next_set h.next_ofs) s.heap n)
            ∙ sym (if_false (is (next_in chain q) p) (rec_next (s.heap p)) (rec_next (s.heap q)) (isnt_some (next_in chain q) p (λ g. not_same x q n (before_once chain p x q one f g))))
      ]

  -- the links back
  pub prev_aft : (q : Place) → rec_prev (aft q) ≡ (if is (next_in chain p) q then rec_prev (s.heap p) else rec_prev (s.heap q))
  prev_aft q = by behind
    where
      fwd_same : rec_prev (fwd q) ≡ rec_prev (s.heap q)
      fwd_same = forward_stays rec_prev prev_next prev_first p.0 a h.prev_ofs h.next_ofs s.heap q

      by : Behind → rec_prev (aft q) ≡ (if is (next_in chain p) q then rec_prev (s.heap p) else rec_prev (s.heap q))
      by (in_extent' f i) = ap (λ (H : Heap). rec_prev (H q)) i ∙ stays rec_prev (last_set (loc_in p.0 h.prev_ofs)) (prev_last (loc_in p.0 h.prev_ofs)).law (p.0, a) fwd q ∙ fwd_same
          ∙ sym (if_false (is (next_in chain p) q) (rec_prev (s.heap p)) (rec_prev (s.heap q)) (ap (λ (o : Option Place). is o q) f))
      by (in_record' x f i) = ap (λ (H : Heap). rec_prev (H q)) i ∙ elim (cases_Bool (same x q)) [
        | inl y ↦
            let r = live_of x (has_next chain p x f) in
            let xq = same_is x q y in
            let there = live_core (fwd x) r.h r.room (forward_stays core core_next core_first p.0 a h.prev_ofs h.next_ofs s.heap x ∙ ap core r.there) in
            ap rec_prev (ap (λ (z : Place). change x (prev_set h.prev_ofs) fwd z) (sym xq) ∙ changed_here x (prev_set h.prev_ofs) fwd (live there.h r.room) there.is)
            ∙ sym (ap rec_prev here) ∙ sym (if_true (is (next_in chain p) q) (rec_prev (s.heap p)) (rec_prev (s.heap q)) (some_is (next_in chain p) q (f ∙ ap (λ (z : Place). Some z) xq)))
        | inr n ↦ ap rec_prev (changed_there x q (prev_set h.prev_ofs) fwd n) ∙ fwd_same
            ∙ sym (if_false (is (next_in chain p) q) (rec_prev (s.heap p)) (rec_prev (s.heap q)) (isnt_some (next_in chain p) q (λ g. not_same x q n (some_same x q (sym f ∙ g)))))
      ]

  -- the first and the last that the extent names
  pub first_aft : (hh : ExtentHeader) → s.heap (p.0, a) ≡ Some (extent hh) → hh.first_record ≡ loc_or (first_of chain) → ext_first (aft (p.0, a)) ≡ loc_or (first_of (without p chain))
  first_aft hh there names = backward_stays ext_first first_prev first_last p.0 a h.prev_ofs h.next_ofs fwd (p.0, a) ∙ by ahead
    where
      by : Ahead → ext_first (fwd (p.0, a)) ≡ loc_or (first_of (without p chain))
      by (in_extent f i) = ap ext_first (ap (λ (H : Heap). H (p.0, a)) i ∙ changed_here (p.0, a) (first_set (loc_in p.0 h.next_ofs)) s.heap (extent hh) there) ∙ next_loc ∙ ap loc_or (sym (first_moves chain p one f))
      by (in_record x f i) = ap (λ (H : Heap). ext_first (H (p.0, a))) i ∙ stays ext_first (next_set h.next_ofs) (first_next h.next_ofs).law x s.heap (p.0, a) ∙ ap ext_first there ∙ names ∙ ap loc_or (sym (first_stays chain p x one f))

  pub last_aft : (hh : ExtentHeader) → s.heap (p.0, a) ≡ Some (extent hh) → hh.last_record ≡ loc_or (last_of chain) → ext_last (aft (p.0, a)) ≡ loc_or (last_of (without p chain))
  last_aft hh there names = by behind
    where
      fwd_same : ext_last (fwd (p.0, a)) ≡ ext_last (s.heap (p.0, a))
      fwd_same = forward_stays ext_last last_next last_first p.0 a h.prev_ofs h.next_ofs s.heap (p.0, a)

      ends : next_in chain p ≡ None → loc_in p.0 h.prev_ofs ≡ loc_or (last_of (without p chain))
      ends f = elim (before_of chain p one on) [
        | inl g ↦ ap (loc_in p.0) (prev_none g) ∙ ap loc_or (sym (last_alone chain p one f g))
        | inr b ↦ prev_loc b.0 b.1 ∙ ap loc_or (sym (last_before chain p b.0 one f b.1))
      ]

      by : Behind → ext_last (aft (p.0, a)) ≡ loc_or (last_of (without p chain))
      by (in_extent' f i) =
          let like = extent_core (fwd (p.0, a)) hh (forward_stays core core_next core_first p.0 a h.prev_ofs h.next_ofs s.heap (p.0, a) ∙ ap core there) in
          ap ext_last (ap (λ (H : Heap). H (p.0, a)) i ∙ changed_here (p.0, a) (last_set (loc_in p.0 h.prev_ofs)) fwd (extent like.h) like.is) ∙ ends f
      by (in_record' y f i) = ap (λ (H : Heap). ext_last (H (p.0, a))) i ∙ stays ext_last (prev_set h.prev_ofs) (last_prev h.prev_ofs).law y fwd (p.0, a) ∙ fwd_same ∙ ap ext_last there ∙ names ∙ ap loc_or (sym (last_stays chain p y one f))

  -- other extents
  pub first_other : (q : Place) → same q (p.0, a) ≡ false → ext_first (aft q) ≡ ext_first (s.heap q)
  first_other q ne = backward_stays ext_first first_prev first_last p.0 a h.prev_ofs h.next_ofs fwd q ∙ by ahead
    where
      by : Ahead → ext_first (fwd q) ≡ ext_first (s.heap q)
      by (in_extent f i) = ap ext_first (ap (λ (H : Heap). H q) i ∙ changed_there (p.0, a) q (first_set (loc_in p.0 h.next_ofs)) s.heap (same_not (p.0, a) q (λ g. not_same q (p.0, a) ne (sym g))))
      by (in_record x f i) = ap (λ (H : Heap). ext_first (H q)) i ∙ stays ext_first (next_set h.next_ofs) (first_next h.next_ofs).law x s.heap q

  pub last_other : (q : Place) → same q (p.0, a) ≡ false → ext_last (aft q) ≡ ext_last (s.heap q)
  last_other q ne = by behind
    where
      fwd_same : ext_last (fwd q) ≡ ext_last (s.heap q)
      fwd_same = forward_stays ext_last last_next last_first p.0 a h.prev_ofs h.next_ofs s.heap q

      by : Behind → ext_last (aft q) ≡ ext_last (s.heap q)
      by (in_extent' f i) = ap ext_last (ap (λ (H : Heap). H q) i ∙ changed_there (p.0, a) q (last_set (loc_in p.0 h.prev_ofs)) fwd (same_not (p.0, a) q (λ g. not_same q (p.0, a) ne (sym g)))) ∙ fwd_same
      by (in_record' y f i) = ap (λ (H : Heap). ext_last (H q)) i ∙ stays ext_last (prev_set h.prev_ofs) (last_prev h.prev_ofs).law y fwd q ∙ fwd_same
