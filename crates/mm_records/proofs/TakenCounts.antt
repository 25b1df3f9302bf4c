-- The counts and the map of namespaces after a block was taken for a record.
use Rattle.std.proofs.Common.{◌≡◌, ℕ, pos, ◌+◌, ◌<◌, inl, inr, Bool, true, false, List, [], ◌∷◌, length, Option, Some, None, refl, sym, ◌∙◌, ap, subst, arith}
use Rattle.std.specs.Prelude.{if◌then◌else◌, ◌==◌, sum_by, slice_index_or}
use Rattle.std.proofs.lemmas.Bool.{cases_Bool, false≢true, eqb-true, eq-eqb}
use Rattle.mm_base.specs.Places.{null}
use Rattle.mm_frames.specs.Texts.{text_in}
use Rattle.mm_frames.specs.declared.extent_header.ExtentHeader.{ExtentHeader}
use Rattle.mm_frames.specs.declared.deleted_header.DeletedHeader.{DeletedHeader}
use Rattle.mm_frames.specs.declared.details.Details.{Details}
use Rattle.mm_links.specs.Links.{Place, StandsBefore, same, has, once, first_of, last_of, next_in, appended, without}
use Rattle.mm_links.proofs.LinkLaws.{same_own, if_true, if_false, has_here, has_there, without_here, without_there, first_moves, first_stays}
use Rattle.mm_links.proofs.Appending.{has_new, once_appended}
use Rattle.mm_extents.specs.Heap.{Cell, extent, live, deleted}
use Rattle.mm_extents.specs.Changes.{loc_or}
use Rattle.mm_extents.specs.Chains.{ExtentsStand}
use Rattle.mm_records.specs.Constants.{constants_of, is_name}
use Rattle.mm_records.specs.Shape.{Shape, list_for}
use Rattle.mm_records.specs.Stands.{RecordsStand, ListsStand, DetailsStand, room_of, walk, len_at}
use Rattle.mm_records.specs.Map.{ofs_of, extent_of, owner, live_room}
use Rattle.mm_records.specs.Taking.{taken_shape, IsTaken}
use Rattle.mm_records.proofs.Freed.{name_own}
use Rattle.mm_records.proofs.ConstantLaws.{constants_stay}
use Rattle.mm_records.proofs.Counts.{walk_other, walk_without, length_sum}
use Rattle.mm_records.proofs.Bare.{bare}
use Rattle.mm_records.proofs.TakenStands.{new_here, other, alike, ground_same, off_chain, room_other, ext_len_same, list_other, only_list}

without_appended : (xs : List Place) (p : Place) → has xs p ≡ false → without p (appended xs p) ≡ xs
without_appended [] p h = without_here p [] p (same_own p)
without_appended (x ∷ xs) p h = elim (cases_Bool (same x p)) [
  | inl y ↦ absurd (false≢true (sym h ∙ has_here x xs p y))
  | inr n ↦ without_there x (appended xs p) p n ∙ ap (λ (ys : List Place). x ∷ ys) (without_appended xs p (sym (has_there x xs p n) ∙ h))
]

bare_owner : (o : Option Cell) → owner (bare o) ≡ owner o
bare_owner None = refl
bare_owner (Some (extent h)) = refl
bare_owner (Some (live h room)) = refl
bare_owner (Some (deleted h rest)) = refl

bare_live : (o : Option Cell) → live_room (bare o) ≡ live_room o
bare_live None = refl
bare_live (Some (extent h)) = refl
bare_live (Some (live h room)) = refl
bare_live (Some (deleted h rest)) = refl

bare_extent : (p : Place) (o : Option Cell) → extent_of p (bare o) ≡ extent_of p o
bare_extent p None = refl
bare_extent p (Some (extent h)) = refl
bare_extent p (Some (live h room)) = refl
bare_extent p (Some (deleted h rest)) = refl

none_either : {A : Type 0} (b : Bool) (o : Option A) → o ≡ None → (if b then o else None) ≡ None
none_either true o e = e
none_either false o e = refl

module _ {free : List ℕ} (s : Shape) (p : Place) (h : DeletedHeader) (rest : List ℕ) (a : ℕ) (hh : ExtentHeader) (before : Option Place) (es : ExtentsStand s.heap s.extents) (rs : RecordsStand free s) (ls : ListsStand s)
    (here : s.heap p ≡ Some (deleted h rest)) (ext : h.extent_ofs ≡ pos a) (there : s.heap (p.0, a) ≡ Some (extent hh)) (stands : StandsBefore (s.lists (text_in hh.namespace) (list_for (16 + length rest))) before p) where
  abbrev name : List ℕ
  name = text_in hh.namespace

  abbrev list : List Place
  list = s.lists (text_in hh.namespace) (list_for (16 + length rest))

  abbrev new : Shape
  new = taken_shape p a before h.next_deleted s

  records_of : (f : Place) → same f (p.0, a) ≡ true → new.records f ≡ appended (s.records f) p
  records_of f y = if_true (same f (p.0, a)) (appended (s.records f) p) (s.records f) y

  records_other : (f : Place) → same f (p.0, a) ≡ false → new.records f ≡ s.records f
  records_other f n = if_false (same f (p.0, a)) (appended (s.records f) p) (s.records f) n

  gone : (f : Place) → has (s.records f) p ≡ false
  gone f = off_chain s p h rest a hh before es rs ls here ext there stands f

  at : (f : Place) → same f (p.0, a) ≡ true → s.records f ≡ without p (new.records f)
  at f y = sym (ap (without p) (records_of f y) ∙ without_appended (s.records f) p (gone f))

  off : (f : Place) → same f (p.0, a) ≡ false → s.records f ≡ new.records f
  off f n = sym (records_other f n)

  none : (f : Place) → same f (p.0, a) ≡ false → has (new.records f) p ≡ false
  none f n = ap (λ (xs : List Place). has xs p) (records_other f n) ∙ gone f

  rooms : (q : Place) → same q p ≡ false → room_of (s.heap q) ≡ room_of (new.heap q)
  rooms q ne = sym (room_other s p h rest a hh before es rs ls here ext there stands q ne)

  own_chain : new.records (p.0, a) ≡ appended (s.records (p.0, a)) p
  own_chain = records_of (p.0, a) (same_own (p.0, a))

  one_now : once (new.records (p.0, a)) ≡ true
  one_now = ap once own_chain ∙ once_appended (s.records (p.0, a)) p (rs.linked (p.0, a)).no_twice (gone (p.0, a))

  on_now : has (new.records (p.0, a)) p ≡ true
  on_now = ap (λ (xs : List Place). has xs p) own_chain ∙ has_new (s.records (p.0, a)) p

  pub count_more : length (walk s name) + 1 ≡ length (walk new name)
  count_more =
      let old = length_sum (walk s name) in
      let young = length_sum (walk new name) in
      let sum = walk_without p (p.0, a) (λ _. 1) (λ _. 1) new.records s.records (λ _ _. refl) at off none (s.extents name) (es.linked name).no_twice (es.all (p.0, a) hh there) one_now on_now in
      omega (arith, old, young, sum)

  pub size_more : sum_by (λ q. room_of (s.heap q)) (walk s name) + length rest ≡ sum_by (λ q. room_of (new.heap q)) (walk new name)
  size_more =
      let sum = walk_without p (p.0, a) (λ q. room_of (new.heap q)) (λ q. room_of (s.heap q)) new.records s.records rooms at off none (s.extents name) (es.linked name).no_twice (es.all (p.0, a) hh there) one_now on_now in
      let own = ap room_of (new_here s p h rest a hh before es rs ls here ext there stands) in
      omega (arith, sum, own)

  len_same : (o : Option Place) → len_at new.heap o ≡ len_at s.heap o
  len_same None = refl
  len_same (Some q) = ext_len_same s p h rest a hh before es rs ls here ext there stands q

  -- the head of the list that the block was on
  head_none : before ≡ None → h.next_deleted ≡ loc_or (first_of (without p list))
  head_none f =
      let first : first_of list ≡ Some p = subst (λ (o : Option Place). StandsBefore list o p) f stands in
      let d = ls.on_list name (list_for (16 + length rest)) p (ls.all p h rest a hh here ext there) in
      let cells : Some (deleted d.h d.rest) ≡ Some (deleted h rest) = sym d.there ∙ here in
      let heads : d.h ≡ h = cc in
      ap (λ (z : DeletedHeader). z.next_deleted) (sym heads) ∙ d.names_next ∙ ap loc_or (sym (first_moves list p (ls.no_twice name (list_for (16 + length rest))) first))

  head_some : (x : Place) → before ≡ Some x → first_of list ≡ first_of (without p list)
  head_some x f =
      let next : next_in list x ≡ Some p = subst (λ (o : Option Place). StandsBefore list o p) f stands in
      sym (first_stays list p x (ls.no_twice name (list_for (16 + length rest))) next)

  other_list : (i : ℕ) → (i == list_for (16 + length rest)) ≡ false → has (s.lists name i) p ≡ false
  other_list i n = elim (cases_Bool (has (s.lists name i) p)) [
    | inl y ↦ absurd (false≢true (sym n ∙ eq-eqb i (list_for (16 + length rest)) (only_list s p h rest a hh before es rs ls here ext there stands name i y).1))
    | inr m ↦ m
  ]

  pub own_details : (d d' : Details) → DetailsStand s name d → d'.first_extent ≡ d.first_extent → d'.last_extent ≡ d.last_extent
      → (before ≡ None → slice_index_or d'.deleted (list_for (16 + length rest)) null ≡ h.next_deleted)
      → ((x : Place) → before ≡ Some x → slice_index_or d'.deleted (list_for (16 + length rest)) null ≡ slice_index_or d.deleted (list_for (16 + length rest)) null)
      → ((i : ℕ) → i < 19 → (i == list_for (16 + length rest)) ≡ false → slice_index_or d'.deleted i null ≡ slice_index_or d.deleted i null)
      → ((n : ℕ) → d.nrecords ≡ pos n → d'.nrecords ≡ pos (n + 1)) → ((n : ℕ) → d.datasize ≡ pos n → d'.datasize ≡ pos (n + length rest))
      → d'.last_extent_size ≡ d.last_extent_size → constants_of d' ≡ constants_of d → DetailsStand new name d'
  own_details d d' ds ef el en eb eo er ez es' ec = record {
    first = ef ∙ ds.first;
    last = el ∙ ds.last;
    heads = λ i lt. elim (cases_Bool (i == list_for (16 + length rest))) [
      | inl y ↦ let e = eqb-true i (list_for (16 + length rest)) y in
          subst (λ (j : ℕ). slice_index_or d'.deleted j null ≡ loc_or (first_of (new.lists name j))) (sym e) (by before refl (subst (λ (j : ℕ). j < 19) e lt))
      | inr n ↦ eo i lt n ∙ ds.heads i lt ∙ ap (λ (xs : List Place). loc_or (first_of xs)) (sym (list_other s p h rest a hh before es rs ls here ext there stands name i (other_list i n)))
    ];
    nrecords = er (length (walk s name)) ds.nrecords ∙ ap (λ (n : ℕ). pos n) count_more;
    datasize = ez (sum_by (λ q. room_of (s.heap q)) (walk s name)) ds.datasize ∙ ap (λ (n : ℕ). pos n) size_more;
    last_size = es' ∙ ds.last_size ∙ sym (len_same (last_of (s.extents name)));
    constants = constants_stay name d d' ec ds.constants;
  }
    where
      by : (o : Option Place) → before ≡ o → list_for (16 + length rest) < 19 → slice_index_or d'.deleted (list_for (16 + length rest)) null ≡ loc_or (first_of (without p list))
      by None f lt = en f ∙ head_none f
      by (Some x) f lt = eb x f ∙ ds.heads (list_for (16 + length rest)) lt ∙ ap loc_or (head_some x f)

  pub other_details : (m : List ℕ) (d : Details) → (m ≡ name → ⊥) → DetailsStand s m d → DetailsStand new m d
  other_details m d ne ds = record {
    first = ds.first;
    last = ds.last;
    heads = λ i lt. ds.heads i lt ∙ ap (λ (xs : List Place). loc_or (first_of xs)) (sym (list_other s p h rest a hh before es rs ls here ext there stands m i (no_list i)));
    nrecords = ds.nrecords ∙ ap (λ (n : ℕ). pos n) (length_sum (walk s m) ∙ walk_other p (p.0, a) (λ _. 1) (λ _. 1) new.records s.records (λ _ _. refl) at off none (s.extents m) apart ∙ sym (length_sum (walk new m)));
    datasize = ds.datasize ∙ ap (λ (n : ℕ). pos n) (walk_other p (p.0, a) (λ q. room_of (new.heap q)) (λ q. room_of (s.heap q)) new.records s.records rooms at off none (s.extents m) apart);
    last_size = ds.last_size ∙ sym (len_same (last_of (s.extents m)));
    constants = ds.constants;
  }
    where
      no_list : (i : ℕ) → has (s.lists m i) p ≡ false
      no_list i = elim (cases_Bool (has (s.lists m i) p)) [ inl y ↦ absurd (ne (only_list s p h rest a hh before es rs ls here ext there stands m i y).0) | inr n ↦ n ]

      apart : has (s.extents m) (p.0, a) ≡ false
      apart = elim (cases_Bool (has (s.extents m) (p.0, a))) [
        | inl y ↦ let t = es.on_chain m (p.0, a) y in absurd (ne (sym t.2 ∙ ap text_in (same_header t.0 hh (sym t.1 ∙ there))))
        | inr n ↦ n
      ]
        where
          same_header : (g k : ExtentHeader) → Some (extent g) ≡ Some (extent k) → g.namespace ≡ k.namespace
          same_header g k e = let f : g ≡ k = cc in ap (λ (x : ExtentHeader). x.namespace) f

  -- ---- the map

  owners : (q : Place) → owner (new.heap q) ≡ owner (s.heap q)
  owners q = alike s p h rest a hh before es rs ls here ext there stands owner bare_owner refl q

  pub is_taken : IsTaken s new name p rest
  is_taken = record {
    fresh = λ m. none_either (is_name (owner (s.heap (extent_of p (s.heap p)))) m) (live_room (s.heap p)) (ap live_room here);
    here =
        let at_extent : extent_of p (new.heap p) ≡ (p.0, a) = ap (extent_of p) (new_here s p h rest a hh before es rs ls here ext there stands) ∙ (λ i. (p.0, ofs_of (ext i))) in
        let named : owner (new.heap (extent_of p (new.heap p))) ≡ name = ap (λ (x : Place). owner (new.heap x)) at_extent ∙ owners (p.0, a) ∙ ap owner there in
        if_true (is_name (owner (new.heap (extent_of p (new.heap p)))) name) (live_room (new.heap p)) None (name_own (owner (new.heap (extent_of p (new.heap p)))) name named) ∙ ap live_room (new_here s p h rest a hh before es rs ls here ext there stands);
    others = λ m q ne.
        let c = other s p h rest a hh before es rs ls here ext there stands q ne in
        let rooms : live_room (new.heap q) ≡ live_room (s.heap q) = sym (bare_live (new.heap q)) ∙ ap live_room c ∙ bare_live (s.heap q) in
        let places : extent_of q (new.heap q) ≡ extent_of q (s.heap q) = sym (bare_extent q (new.heap q)) ∙ ap (extent_of q) c ∙ bare_extent q (s.heap q) in
        let names : owner (new.heap (extent_of q (new.heap q))) ≡ owner (s.heap (extent_of q (s.heap q))) = owners (extent_of q (new.heap q)) ∙ ap (λ (x : Place). owner (s.heap x)) places in
        λ i. if is_name (names i) m then rooms i else None;
    of = (p.0, a);
    of_name = es.all (p.0, a) hh there;
    extents = λ m. refl;
    records = λ e. refl;
    lists = λ m i. refl;
    layout = ground_same s p h rest a hh before es rs ls here ext there stands;
  }
