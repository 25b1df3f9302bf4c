-- The counts of namespaces after a record was freed.
use Rattle.std.proofs.Common.{◌≡◌, ℕ, pos, ◌+◌, ◌<◌, inl, inr, Bool, true, false, List, ◌∷◌, length, Option, Some, None, refl, sym, ◌∙◌, ap, arith}
use Rattle.std.specs.Prelude.{◌&&◌, ◌==◌, sum_by, slice_index_or}
use Rattle.std.proofs.lemmas.Bool.{cases_Bool, false≢true}
use Rattle.mm_base.specs.Places.{null}
use Rattle.mm_frames.specs.declared.extent_header.ExtentHeader.{ExtentHeader}
use Rattle.mm_frames.specs.declared.rec_header.RecHeader.{RecHeader}
use Rattle.mm_frames.specs.declared.details.Details.{Details}
use Rattle.mm_links.specs.Links.{Place, same, has, first_of, last_of, without}
use Rattle.mm_links.proofs.LinkLaws.{same_not, not_same, if_true, if_false}
use Rattle.mm_extents.specs.Heap.{Cell, extent, live, deleted}
use Rattle.mm_extents.specs.Changes.{loc, loc_or, freed}
use Rattle.mm_extents.proofs.Writes.{changed_there}
use Rattle.mm_extents.specs.Chains.{ExtentsStand}
use Rattle.mm_frames.specs.Texts.{text_in}
use Rattle.mm_records.specs.Constants.{constants_of, is_name}
use Rattle.mm_records.specs.Shape.{Shape, list_for}
use Rattle.mm_records.specs.Stands.{RecordsStand, ListsStand, DetailsStand, room_of, walk, len_at}
use Rattle.mm_records.specs.Freeing.{bypassed, freed_shape}
use Rattle.mm_records.proofs.Cells.{core}
use Rattle.mm_records.proofs.Freed.{core_aft, name_is, name_own}
use Rattle.mm_records.proofs.FreedStands.{elsewhere, ext_len_same}
use Rattle.mm_records.proofs.ConstantLaws.{constants_stay}
use Rattle.mm_records.proofs.Counts.{walk_other, walk_without, length_sum}

core_room : (o : Option Cell) → room_of (core o) ≡ room_of o
core_room None = refl
core_room (Some (extent h)) = refl
core_room (Some (live h room)) = refl
core_room (Some (deleted h rest)) = refl

module _ {free : List ℕ} (s : Shape) (p : Place) (h : RecHeader) (room : List ℕ) (a : ℕ) (hh : ExtentHeader) (es : ExtentsStand s.heap s.extents) (rs : RecordsStand free s) (ls : ListsStand s)
    (here : s.heap p ≡ Some (live h room)) (ext : h.extent_ofs ≡ pos a) (there : s.heap (p.0, a) ≡ Some (extent hh)) where
  abbrev name : List ℕ
  name = text_in hh.namespace

  abbrev new : Shape
  new = freed_shape name a p h (16 + length room) s

  rooms : (q : Place) → same q p ≡ false → room_of (new.heap q) ≡ room_of (s.heap q)
  rooms q ne =
      ap room_of (changed_there p q (freed (loc_or (first_of (s.lists name (list_for (16 + length room)))))) (bypassed p.0 a h.prev_ofs h.next_ofs s.heap) (same_not p q (λ f. not_same q p ne (sym f))))
      ∙ sym (core_room (bypassed p.0 a h.prev_ofs h.next_ofs s.heap q)) ∙ ap room_of (core_aft s p h room a rs here ext q) ∙ core_room (s.heap q)

  at : (f : Place) → same f (p.0, a) ≡ true → new.records f ≡ without p (s.records f)
  at f y = if_true (same f (p.0, a)) (without p (s.records f)) (s.records f) y

  off : (f : Place) → same f (p.0, a) ≡ false → new.records f ≡ s.records f
  off f n = if_false (same f (p.0, a)) (without p (s.records f)) (s.records f) n

  on : has (s.records (p.0, a)) p ≡ true
  on = rs.all p h room a here ext

  pub none : (f : Place) → same f (p.0, a) ≡ false → has (s.records f) p ≡ false
  none f n = elim (cases_Bool (has (s.records f) p)) [
    | inl y ↦ absurd (false≢true (sym (elsewhere s p h room a hh es rs ls here ext there f p n y) ∙ on))
    | inr m ↦ m
  ]

  pub count_less : length (walk new name) + 1 ≡ length (walk s name)
  count_less =
      let old = length_sum (walk s name) in
      let young = length_sum (walk new name) in
      let sum = walk_without p (p.0, a) (λ _. 1) (λ _. 1) s.records new.records (λ _ _. refl) at off none (s.extents name) (es.linked name).no_twice (es.all (p.0, a) hh there) (rs.linked (p.0, a)).no_twice on in
      omega (arith, old, young, sum)

  pub size_less : sum_by (λ q. room_of (new.heap q)) (walk new name) + length room ≡ sum_by (λ q. room_of (s.heap q)) (walk s name)
  size_less =
      let sum = walk_without p (p.0, a) (λ q. room_of (s.heap q)) (λ q. room_of (new.heap q)) s.records new.records rooms at off none (s.extents name) (es.linked name).no_twice (es.all (p.0, a) hh there) (rs.linked (p.0, a)).no_twice on in
      let own = ap room_of here in
      omega (arith, sum, own)

  len_same : (o : Option Place) → len_at new.heap o ≡ len_at s.heap o
  len_same None = refl
  len_same (Some q) = ext_len_same s p h room a hh es rs ls here ext there q

  -- the details of the namespace
  pub own_details : (d d' : Details) → DetailsStand s name d → d'.first_extent ≡ d.first_extent → d'.last_extent ≡ d.last_extent
      → ((i : ℕ) → i < 19 → (i == list_for (16 + length room)) ≡ true → slice_index_or d'.deleted i null ≡ loc p)
      → ((i : ℕ) → i < 19 → (i == list_for (16 + length room)) ≡ false → slice_index_or d'.deleted i null ≡ slice_index_or d.deleted i null)
      → ((n : ℕ) → d.nrecords ≡ pos (n + 1) → d'.nrecords ≡ pos n)
      → ((n : ℕ) → d.datasize ≡ pos (n + length room) → d'.datasize ≡ pos n)
      → d'.last_extent_size ≡ d.last_extent_size → constants_of d' ≡ constants_of d
      → DetailsStand new name d'
  own_details d d' ds ef el eh eo en ez es' ec = record {
    first = ef ∙ ds.first;
    last = el ∙ ds.last;
    heads = λ i lt. elim (cases_Bool (i == list_for (16 + length room))) [
      | inl y ↦ eh i lt y ∙ sym (ap (λ (xs : List Place). loc_or (first_of xs)) (if_true (is_name name name && i == list_for (16 + length room)) (p ∷ s.lists name i) (s.lists name i) (ap (λ (b : Bool). b && i == list_for (16 + length room)) (name_own name name refl) ∙ y)))
      | inr n ↦ eo i lt n ∙ ds.heads i lt ∙ sym (ap (λ (xs : List Place). loc_or (first_of xs)) (if_false (is_name name name && i == list_for (16 + length room)) (p ∷ s.lists name i) (s.lists name i) (ap (λ (b : Bool). b && i == list_for (16 + length room)) (name_own name name refl) ∙ n)))
    ];
    nrecords = en (length (walk new name)) (ds.nrecords ∙ ap (λ (n : ℕ). pos n) (sym count_less));
    datasize = ez (sum_by (λ q. room_of (new.heap q)) (walk new name)) (ds.datasize ∙ ap (λ (n : ℕ). pos n) (sym size_less));
    last_size = es' ∙ ds.last_size ∙ sym (len_same (last_of (s.extents name)));
    constants = constants_stay name d d' ec ds.constants;
  }

  -- those of another
  pub other_details : (m : List ℕ) (d : Details) → (m ≡ name → ⊥) → DetailsStand s m d → DetailsStand new m d
  other_details m d ne ds = record {
    first = ds.first;
    last = ds.last;
    heads = λ i lt. ds.heads i lt ∙ sym (ap (λ (xs : List Place). loc_or (first_of xs)) (if_false (is_name m name && i == list_for (16 + length room)) (p ∷ s.lists m i) (s.lists m i) (ap (λ (b : Bool). b && i == list_for (16 + length room)) no_name)));
    nrecords = ds.nrecords ∙ ap (λ (n : ℕ). pos n) (length_sum (walk s m) ∙ sym (walk_other p (p.0, a) (λ _. 1) (λ _. 1) s.records new.records (λ _ _. refl) at off none (s.extents m) apart) ∙ sym (length_sum (walk new m)));
    datasize = ds.datasize ∙ ap (λ (n : ℕ). pos n) (sym (walk_other p (p.0, a) (λ q. room_of (s.heap q)) (λ q. room_of (new.heap q)) s.records new.records rooms at off none (s.extents m) apart));
    last_size = ds.last_size ∙ sym (len_same (last_of (s.extents m)));
    constants = ds.constants;
  }
    where
      no_name : is_name m name ≡ false
      no_name = elim (cases_Bool (is_name m name)) [ inl y ↦ absurd (ne (name_is m name y)) | inr n ↦ n ]

      apart : has (s.extents m) (p.0, a) ≡ false
      apart = elim (cases_Bool (has (s.extents m) (p.0, a))) [
        | inl y ↦ let t = es.on_chain m (p.0, a) y in
            absurd (ne (sym t.2 ∙ ap text_in (same_header t.0 hh (sym t.1 ∙ there))))
        | inr n ↦ n
      ]
        where
          same_header : (g k : ExtentHeader) → Some (extent g) ≡ Some (extent k) → g.namespace ≡ k.namespace
          same_header g k e = let f : g ≡ k = cc in ap (λ (x : ExtentHeader). x.namespace) f
