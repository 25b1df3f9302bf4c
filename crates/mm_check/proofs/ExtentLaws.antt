-- What the chains of phases 3 and 4 say of extents.
use Rattle.std.proofs.Common.{◌≡◌, ℕ, ℤ, pos, negsuc, ◌+◌, ◌%◌, ◌<◌, ◌≤◌, inl, inr, true, false, List, [], ◌∷◌, length, Option, Some, None, refl, sym, ◌∙◌, ap, subst, arith}
use Rattle.std.specs.Prelude.{◌&&◌, ◌==◌}
use Rattle.std.proofs.lemmas.Bool.{cases_Bool, false≢true, eqb-true}
use Rattle.mm_base.specs.declared.place.DiskLoc.{DiskLoc}
use Rattle.mm_ranges.specs.Overlay.{Image, bytes_at}
use Rattle.mm_links.specs.Links.{Place, same, has}
use Rattle.mm_links.proofs.LinkLaws.{both, either, same_is, same_own, has_here, has_more}
use Rattle.mm_extents.specs.Changes.{loc, loc_or}
use Rattle.mm_records.proofs.Freed.{name_own, name_is}
use Rattle.mm_walk.specs.declared.walk.Link.{Link}
use Rattle.mm_walk.specs.declared.walk.Link.TheVariants.{End, To}
use Rattle.mm_walk.specs.Walk.{Leads}
use Rattle.mm_walk.specs.Linked.{RightOr, ReadsLinks}
use Rattle.mm_walk.specs.Tiles.{first_gap}
use Rattle.mm_walk.proofs.TileLaws.{step, ends, not_eq}
use Rattle.mm_check.specs.RecordChain.{link_in, place_link, names_place}
use Rattle.mm_check.specs.ExtentChain.{ext_at, nat_of, ext_size, IsExtentHere, is_pages, is_extent_here, leads_on, read_extent_of, file_reading, areas, IsNamedExtent, is_named_extent, head_by, extent_head, chain_reading, InFile}
use Rattle.mm_check.proofs.RecordLaws.{if_yes, if_no, nat_lt_of, nat_le_of, nat_le_true, eq_of, and_of, loc_numbers, loc_end, null_file, loc_is, names_place_true}
use Rattle.mm_check.proofs.RecordsBack.{loc_fits, names_own}

-- ---- phase 3

is_pages_true : (z : ℤ) → is_pages z ≡ true → (n : ℕ) × (z ≡ pos n) × (n % 4096 ≡ 0) × (4096 ≤ n)
is_pages_true (pos n) e = let t = both _ _ e in (n, refl, eqb-true (n % 4096) 0 t.0, nat_le_true 4096 n t.1)
is_pages_true (negsuc n) e = absurd (false≢true e)

is_pages_of : (z : ℤ) (n : ℕ) → z ≡ pos n → n % 4096 ≡ 0 → 4096 ≤ n → is_pages z ≡ true
is_pages_of (pos m) n e f g = let h : m ≡ n = cc in subst (λ (k : ℕ). is_pages (pos k) ≡ true) (sym h) (and_of _ _ (eq_of (n % 4096) 0 f) (nat_le_of 4096 n g))
is_pages_of (negsuc m) n e f g = absurd cc

module _ (image : Image) (file unused : ℕ) where
  pub extent_of_test : (p : Place) → is_extent_here image unused p ≡ true → IsExtentHere image unused p
  extent_of_test p h =
      let a = both _ _ h in let b = both _ _ a.1 in let c = both _ _ b.1 in let d = both _ _ c.1 in
      let l = is_pages_true (ext_at image p).len d.0 in
      record {
        header = nat_le_true _ _ a.0;
        magic = eqb-true (ext_at image p).magic 0x41424344 b.0;
        own_place = names_place_true (ext_at image p).my_loc (Some p) c.0;
        n = l.0;
        long = l.1;
        pages = l.2;
        some = l.3;
        inside = subst (λ (k : ℕ). p.1 + k ≤ unused) (ap nat_of l.1) (nat_le_true _ _ d.1);
      }

  pub test_of_extent : (p : Place) → p.0 < 8 → unused ≤ 67108864 → IsExtentHere image unused p → is_extent_here image unused p ≡ true
  test_of_extent p low short x =
      let i = x.inside in let s = x.some in
      and_of _ _ (nat_le_of _ _ x.header)
      (and_of _ _ (eq_of _ _ x.magic)
      (and_of _ _ (ap (λ (d : DiskLoc). names_place d (Some p)) x.own_place ∙ names_own (Some p) (λ q e. let same : p ≡ q = cc in subst (λ (y : Place). (y.0 < 8) × (y.1 < 67108864)) same (low, omega (arith, i, s, short))))
      (and_of _ _ (is_pages_of _ x.n x.long x.pages x.some) (nat_le_of _ _ (subst (λ (k : ℕ). p.1 + k ≤ unused) (sym (ap nat_of x.long)) x.inside)))))

  leads_end : (at : ℕ) → leads_on file unused at ≡ End → at ≡ unused
  leads_end at e = elim (cases_Bool (at == unused)) [
    | inl y ↦ eqb-true at unused y
    | inr n ↦ absurd (let f : To (file, at) ≡ End = sym (if_no _ _ _ n) ∙ e in cc)
  ]

  leads_to : (at : ℕ) (p : Place) → leads_on file unused at ≡ To p → (p ≡ (file, at)) × ((at == unused) ≡ false)
  leads_to at p e = elim (cases_Bool (at == unused)) [
    | inl y ↦ absurd (let f : End ≡ To p = sym (if_yes _ _ _ y) ∙ e in cc)
    | inr n ↦ (let f : To (file, at) ≡ To p = sym (if_no _ _ _ n) ∙ e in let g : (file, at) ≡ p = cc in sym g, n)
  ]

  read_here : (before : Option Place) (p : Place) (l : Link) → read_extent_of image file unused before p ≡ Some l → (p.0 ≡ file) × (is_extent_here image unused p ≡ true) × (l ≡ leads_on file unused (p.1 + ext_size image p))
  read_here before p l h = elim (cases_Bool ((p.0 == file) && is_extent_here image unused p)) [
    | inl y ↦ let t = both _ _ y in let f : Some (leads_on file unused (p.1 + ext_size image p)) ≡ Some l = sym (if_yes _ _ _ y) ∙ h in (eqb-true p.0 file t.0, t.1, let g : leads_on file unused (p.1 + ext_size image p) ≡ l = cc in sym g)
    | inr n ↦ absurd (let f : None ≡ Some l = sym (if_no _ _ _ n) ∙ h in cc)
  ]

  -- extents that follow one another up to the unused rest have no gap
  pub no_gap_of_leads : (before : Option Place) (at : ℕ) (ps : List Place) → Leads (file_reading image file unused) before (leads_on file unused at) ps End → first_gap at (areas image ps) unused ≡ None
  no_gap_of_leads before at [] l = if_yes _ _ _ (eq_of at unused (leads_end at l))
  no_gap_of_leads before at (p ∷ ps) l =
      let t = leads_to at p l.0 in
      let r = read_here before p l.1 l.2 in
      if_yes _ _ _ (eq_of at p.1 (sym (ap (λ (q : Place). q.1) t.0))) ∙ no_gap_of_leads (Some p) (p.1 + ext_size image p) ps (subst (λ (k : Link). Leads (file_reading image file unused) (Some p) k ps End) r.2 l.3)

  -- each of them is right, in its file
  pub right_of_leads : (before : Option Place) (at : ℕ) (ps : List Place) (p : Place) → Leads (file_reading image file unused) before (leads_on file unused at) ps End → has ps p ≡ true → (p.0 ≡ file) × IsExtentHere image unused p
  right_of_leads before at [] p l h = absurd (false≢true h)
  right_of_leads before at (x ∷ xs) p l h =
      let r = read_here before x l.1 l.2 in
      elim (either (same x p) (has xs p) h) [
        | inl y ↦ subst (λ (q : Place). (q.0 ≡ file) × IsExtentHere image unused q) (same_is x p y) (r.0, extent_of_test x r.1)
        | inr t ↦ right_of_leads (Some x) (x.1 + ext_size image x) xs p (subst (λ (k : Link). Leads (file_reading image file unused) (Some x) k xs End) r.2 l.3) t
      ]

  -- ---- and the other way: extents of the file that have no gap are its chain
  pub leads_of_no_gap : file < 8 → unused ≤ 67108864 → (before : Option Place) (at : ℕ) (ps : List Place) → ((p : Place) → has ps p ≡ true → (p.0 ≡ file) × IsExtentHere image unused p) → first_gap at (areas image ps) unused ≡ None
      → Leads (file_reading image file unused) before (leads_on file unused at) ps End
  leads_of_no_gap low short before at [] right e = if_yes _ _ _ (eq_of at unused (ends at unused e))
  leads_of_no_gap low short before at (p ∷ ps) right e =
      let own = right p (has_here p ps p (same_own p)) in
      let s = step at (p.1, ext_size image p) (areas image ps) unused e in
      let n = own.1.n in let long = own.1.long in let least = own.1.some in let i = own.1.inside in
      let here : at ≡ p.1 = s.0 in (
        if_no _ _ _ (not_eq at unused (omega (arith, here, i, least))) ∙ ap To (λ j. (sym own.0 j, here j)),
        leads_on file unused (p.1 + ext_size image p),
        if_yes _ _ _ (and_of _ _ (eq_of p.0 file own.0) (test_of_extent p (subst (λ (f : ℕ). f < 8) (sym own.0) low) short own.1)),
        leads_of_no_gap low short (Some p) (p.1 + ext_size image p) ps (λ q h. right q (has_more p ps q h)) s.1,
      )

-- ---- phase 4

named_of : (image : Image) (all : List Place) (field : List ℕ) (p : Place) → is_named_extent image all field p ≡ true → IsNamedExtent image all field p
named_of image all field p h = let t = both _ _ h in record { there = t.0; named = name_is (ext_at image p).namespace field t.1 }

of_named : (image : Image) (all : List Place) (field : List ℕ) (p : Place) → IsNamedExtent image all field p → is_named_extent image all field p ≡ true
of_named image all field p x = and_of _ _ x.there (name_own (ext_at image p).namespace field x.named)

-- each place of a whole chain is one of phase 3 with the name
pub named_of_leads : (image : Image) (all : List Place) (field : List ℕ) (node : Place) (first last : DiskLoc) (before : Option Place) (link : Link) (ps : List Place) (p : Place)
    → Leads (chain_reading image all field node first last) before link ps End → has ps p ≡ true → IsNamedExtent image all field p
named_of_leads image all field node first last before link [] p l h = absurd (false≢true h)
named_of_leads image all field node first last before link (x ∷ xs) p l h = elim (either (same x p) (has xs p) h) [
  | inl y ↦ subst (IsNamedExtent image all field) (same_is x p y) (elim (cases_Bool (is_named_extent image all field x && names_place (ext_at image x).xprev before)) [
    | inl t ↦ named_of image all field x (both _ _ t).0
    | inr n ↦ absurd (let f : None ≡ Some l.1 = sym (if_no _ _ _ n) ∙ l.2 in cc)
  ])
  | inr t ↦ named_of_leads image all field node first last (Some x) l.1 xs p l.3 t
]

-- the places of phase 3 lie in data files
abbrev pub AllInside : Image → List Place → Type 0
AllInside image all = (p : Place) → has all p ≡ true → InFile image p

module _ (image : Image) (all : List Place) (inside : AllInside image all) (field : List ℕ) where
  -- a place of a data file is where its eight bytes lead
  pub place_own : (p : Place) → InFile image p → place_link image (loc p) ≡ To p
  place_own p i =
      let n = loc_fits p i.data_file i.low in let l = i.inside in
      (λ j. link_in image (n.0 j) (n.1 j)) ∙ if_yes _ _ _ (nat_lt_of p.0 8 i.data_file) ∙ if_yes _ _ _ (nat_lt_of p.1 (length (bytes_at image p.0)) (omega (arith, l)))

  low_right : (o : Option Place) → RightOr (IsNamedExtent image all field) o → (p : Place) → o ≡ Some p → (p.0 < 8) × (p.1 < 67108864)
  low_right None w p e = absurd cc
  low_right (Some q) w p e = let same_place : q ≡ p = cc in subst (λ (y : Place). (y.0 < 8) × (y.1 < 67108864)) same_place (let i = inside q w.there in (i.data_file, i.low))

  pub chain_links : (node : Place) (first last : DiskLoc) → ReadsLinks (chain_reading image all field node first last) loc_or (IsNamedExtent image all field) (λ p. (ext_at image p).xnext) (λ p. (ext_at image p).xprev) (place_link image)
  chain_links node first last = record {
    sound = λ before p l h. elim (cases_Bool (is_named_extent image all field p && names_place (ext_at image p).xprev before)) [
      | inl y ↦
          let t = both _ _ y in
          let f : Some (place_link image (ext_at image p).xnext) ≡ Some l = sym (if_yes _ _ _ y) ∙ h in
          (named_of image all field p t.0, names_place_true _ before t.1, cc)
      | inr n ↦ absurd (let f : None ≡ Some l = sym (if_no _ _ _ n) ∙ h in cc)
    ];
    complete = λ before p x w e. if_yes _ _ _ (and_of _ _ (of_named image all field p x) (ap (λ (d : DiskLoc). names_place d before) e ∙ names_own before (low_right before w)));
    ends = λ d e. null_file d (loc_end image d e);
    leads = λ d p e. let t = loc_numbers image d p e in loc_is d p t.0 t.1;
    none = refl;
    some = λ p x. place_own p (inside p x.there);
  }

  -- a head that names an extent of phase 3, or none, leads there
  pub head_own : (o : Option Place) → ((p : Place) → o ≡ Some p → has all p ≡ true) → extent_head all (loc_or o) ≡ place_link image (loc_or o)
  head_own None h = refl
  head_own (Some p) h =
      let there = h p refl in let i = inside p there in let n = loc_fits p i.data_file i.low in
      (λ j. head_by all (n.0 j) (n.1 j)) ∙ if_yes _ _ _ there ∙ sym (place_own p i)
