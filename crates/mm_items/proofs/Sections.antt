-- Parts of a section, each of which fits its database's image, may come next.
use Rattle.std.proofs.Common.{◌≡◌, inl, inr, ℕ, ◌+◌, ◌<◌, ◌≤◌, Bool, true, false, cond, ◌&&◌, ◌||◌, List, [], ◌∷◌, ◌++◌, length, map, Option, None, Some, refl, sym, ◌∙◌, ap, subst, append_assoc}
use mathlib.Core.Bool.{true≢false}
use Rattle.std.specs.Prelude.{◌==◌}
use Rattle.std.specs.List.{list_all}
use Rattle.std.specs.Ordering.{eq_by_cmp}
use Rattle.std.specs.FinMap.{get}
use Rattle.std.proofs.lemmas.Bool.{cases_Bool, and_parts}
use Rattle.std.proofs.lemmas.List.{append-nil}
use Rattle.mm_outside.specs.Image.{name_cmp}
use Rattle.mm_outside.proofs.Places.{one_name}
use Rattle.mm_ranges.specs.Limits.{is_file, is_allowed, may_be_made}
use Rattle.mm_ranges.specs.Overlay as ranges
use Rattle.mm_ranges.specs.declared.part.Made.{Made}
use Rattle.mm_ranges.specs.declared.part.Piece.{Piece}
use Rattle.mm_ranges.specs.declared.part.Part.{Part}
use Rattle.mm_views.specs.State.{PartFits}
use Rattle.mm_crash.specs.Overlay.{Entry, Makes, Puts, is_own, put, over, is_made, makes, size, size_after, Fits, IsMadeOnce}
use Rattle.mm_crash.specs.Journal.{entries_of_part, entries_of_parts}
use Rattle.mm_crash.proofs.Overlay.{neither, none_of, over-append, size_then, fits_both}
use Rattle.mm_items.specs.Next.{MayCome}
use Rattle.mm_items.specs.Files.{TellsApart, Images, with_part, with_parts, PartsFit, AreLaid}
use Rattle.mm_items.proofs.Next.{has_own, once_both, may_come}

-- ---- entries of other files count for nothing

over_others : (q : List ℕ) (entries : List Entry) (content : Option (List ℕ)) → has_own q entries ≡ false → over entries q content ≡ content
over_others q [] content none = refl
over_others q (e ∷ entries) content none =
    let parts = neither (is_own q e) (has_own q entries) none in
    ap (λ (b : Bool). over entries q (cond b (put e.act content) content)) parts.0 ∙ over_others q entries content parts.1

fits_others : (q : List ℕ) (entries : List Entry) (k : ℕ) → has_own q entries ≡ false → Fits q k entries
fits_others q [] k none = tt
fits_others q (e ∷ entries) k none =
    let parts = neither (is_own q e) (has_own q entries) none in
    ((λ own. absurd (true≢false (sym own ∙ parts.0))), fits_others q entries _ parts.1)

once_others : (q : List ℕ) (entries : List Entry) → has_own q entries ≡ false → IsMadeOnce q entries
once_others q [] none = tt
once_others q (e ∷ entries) none =
    let parts = neither (is_own q e) (has_own q entries) none in
    ((λ own. absurd (true≢false (sym own ∙ parts.0))), once_others q entries parts.1)

made_others : (q : List ℕ) (entries : List Entry) → has_own q entries ≡ false → is_made q entries ≡ false
made_others q [] none = refl
made_others q (e ∷ entries) none =
    let parts = neither (is_own q e) (has_own q entries) none in
    none_of _ _ (ap (λ (b : Bool). b && makes e.act) parts.0) (made_others q entries parts.1)

others_both : (q : List ℕ) (a b : List Entry) → has_own q a ≡ false → has_own q b ≡ false → has_own q (a ++ b) ≡ false
others_both q [] b x y = y
others_both q (e ∷ a) b x y = let parts = neither (is_own q e) (has_own q a) x in none_of _ _ parts.0 (others_both q a b parts.1 y)

module _ (is_db : List ℕ → Bool) (name : List ℕ → ℕ → List ℕ) (tells : TellsApart is_db name) (base : List ℕ → Option (List ℕ)) where
  -- a file that an entry of the part is of is one of its database
  pub record IsFileOf (q n : List ℕ) : Type 0 where
    pub number : ℕ
    pub file : is_file number ≡ true
    pub is : q ≡ name n number

  makes_of : (n : List ℕ) → Made → Entry
  makes_of n m = record { file = name n m.file; act = Makes m.len }

  puts_of : (n : List ℕ) → Piece → Entry
  puts_of n p = record { file = name n p.file; act = Puts p.at p.bytes }

  module _ (part : Part) where
    abbrev entries : List Entry
    entries = entries_of_part name part

    in_made : (q : List ℕ) (ms : List Made) → list_all may_be_made ms ≡ true → (rest : List Entry) → (has_own q rest ≡ true → IsFileOf q part.name) → has_own q (map (λ (m : Made). let e : Entry = record { file = name part.name m.file; act = Makes m.len } in e) ms ++ rest) ≡ true → IsFileOf q part.name
    in_made q [] all rest next some = next some
    in_made q (m ∷ ms) all rest next some =
        let parts = and_parts (may_be_made m) (list_all may_be_made ms) all in
        elim (cases_Bool (eq_by_cmp name_cmp q (name part.name m.file))) [
          | inl own ↦ record { number = m.file; file = (and_parts (is_file m.file) _ parts.0).0; is = one_name q (name part.name m.file) own }
          | inr other ↦ in_made q ms parts.1 rest next (sym (ap (λ (b : Bool). b || has_own q (map (λ (x : Made). let e : Entry = record { file = name part.name x.file; act = Makes x.len } in e) ms ++ rest)) other) ∙ some)
        ]

    in_pieces : (q : List ℕ) (ps : List Piece) → list_all is_allowed (ranges.ranges_of ps) ≡ true → has_own q (map (λ (p : Piece). let e : Entry = record { file = name part.name p.file; act = Puts p.at p.bytes } in e) ps) ≡ true → IsFileOf q part.name
    in_pieces q [] all some = absurd (true≢false (sym some))
    in_pieces q (p ∷ ps) all some =
        let parts = and_parts (is_allowed (p.file, p.at, length p.bytes)) (list_all is_allowed (ranges.ranges_of ps)) all in
        elim (cases_Bool (eq_by_cmp name_cmp q (name part.name p.file))) [
          | inl own ↦ record { number = p.file; file = (and_parts (is_file p.file) _ parts.0).0; is = one_name q (name part.name p.file) own }
          | inr other ↦ in_pieces q ps parts.1 (sym (ap (λ (b : Bool). b || has_own q (map (λ (x : Piece). let e : Entry = record { file = name part.name x.file; act = Puts x.at x.bytes } in e) ps)) other) ∙ some)
        ]

    other_made : (n : List ℕ) → is_db n ≡ true → is_db part.name ≡ true → eq_by_cmp name_cmp n part.name ≡ false → (f : ℕ) (ms : List Made) → has_own (name n f) (map (λ (m : Made). let e : Entry = record { file = name part.name m.file; act = Makes m.len } in e) ms) ≡ false
    other_made n is own apart f [] = refl
    other_made n is own apart f (m ∷ ms) = none_of _ _ (tells.apart n part.name is own apart f m.file) (other_made n is own apart f ms)

    other_pieces : (n : List ℕ) → is_db n ≡ true → is_db part.name ≡ true → eq_by_cmp name_cmp n part.name ≡ false → (f : ℕ) (ps : List Piece) → has_own (name n f) (map (λ (p : Piece). let e : Entry = record { file = name part.name p.file; act = Puts p.at p.bytes } in e) ps) ≡ false
    other_pieces n is own apart f [] = refl
    other_pieces n is own apart f (p ∷ ps) = none_of _ _ (tells.apart n part.name is own apart f p.file) (other_pieces n is own apart f ps)

    other_db : (n : List ℕ) → is_db n ≡ true → is_db part.name ≡ true → eq_by_cmp name_cmp n part.name ≡ false → (f : ℕ) → has_own (name n f) entries ≡ false
    other_db n is own apart f = others_both (name n f) _ _ (other_made n is own apart f part.made) (other_pieces n is own apart f part.pieces)

    -- ---- one part

    module _ (before : List Entry) (images : Images) (laid : AreLaid is_db name base before images) (own : is_db part.name ≡ true) (allowed : list_all is_allowed (ranges.ranges_of part.pieces) ≡ true) (fits : PartFits (images part.name) part) where
      comes : (f : ℕ) → is_file f ≡ true → MayCome name before (base (name part.name f)) (images part.name) part f
      comes f is = may_come name part.name f (λ g file. tells.same part.name own f g is file) before (base (name part.name f)) (images part.name) part.made part.pieces (laid.once (name part.name f)) (laid.inside (name part.name f)) (laid.reads part.name own f is) fits allowed

      once_here : (q : List ℕ) → IsMadeOnce q (before ++ entries)
      once_here q = elim (cases_Bool (has_own q entries)) [
        | inl some ↦
            let file : IsFileOf q part.name = in_made q part.made fits.allowed _ (in_pieces q part.pieces allowed) some in
            subst (λ (x : List ℕ). IsMadeOnce x (before ++ entries)) (sym file.is) (comes file.number file.file).once
        | inr none ↦ once_both q before entries (laid.once q) (once_others q entries none) (λ made. absurd (true≢false (sym made ∙ made_others q entries none)))
      ]

      inside_here : (q : List ℕ) → Fits q (size (base q)) (before ++ entries)
      inside_here q = elim (cases_Bool (has_own q entries)) [
        | inl some ↦
            let file : IsFileOf q part.name = in_made q part.made fits.allowed _ (in_pieces q part.pieces allowed) some in
            subst (λ (x : List ℕ). Fits x (size (base x)) (before ++ entries)) (sym file.is) (comes file.number file.file).inside
        | inr none ↦ fits_both before entries q (size (base q)) (laid.inside q) (fits_others q entries _ none)
      ]

      reads_here : (n : List ℕ) → is_db n ≡ true → (f : ℕ) → is_file f ≡ true → over (before ++ entries) (name n f) (base (name n f)) ≡ get (with_part part images n) f
      reads_here n is f file = elim (cases_Bool (eq_by_cmp name_cmp n part.name)) [
        | inl same ↦
            let e : n ≡ part.name = one_name n part.name same in
            ap (λ (x : List ℕ). over (before ++ entries) (name x f) (base (name x f))) e ∙ (comes f file).reads
            ∙ sym (ap (λ (x : List ℕ). get (ranges.over part (images x)) f) e) ∙ sym (ap (λ (b : Bool). get (cond b (ranges.over part (images n)) (images n)) f) same)
        | inr apart ↦
            over-append before entries (name n f) (base (name n f)) ∙ over_others (name n f) entries _ (other_db n is own apart f) ∙ laid.reads n is f file
            ∙ sym (ap (λ (b : Bool). get (cond b (ranges.over part (images n)) (images n)) f) apart)
      ]

      part_laid : AreLaid is_db name base (before ++ entries) (with_part part images)
      part_laid = record { once = once_here; inside = inside_here; reads = reads_here }

  -- ---- all parts of a section

  pub parts_laid : (parts : List Part) (before : List Entry) (images : Images) → AreLaid is_db name base before images → PartsFit is_db images parts → AreLaid is_db name base (before ++ entries_of_parts name parts) (with_parts parts images)
  parts_laid [] before images laid fit = subst (λ (l : List Entry). AreLaid is_db name base l images) (sym (append-nil before)) laid
  parts_laid (part ∷ parts) before images laid fit =
      let first = part_laid part before images laid fit.0 fit.1.0 fit.1.1.0 in
      subst (λ (l : List Entry). AreLaid is_db name base l (with_parts parts (with_part part images))) (append_assoc before (entries_of_part name part) (entries_of_parts name parts))
      (parts_laid parts (before ++ entries_of_part name part) (with_part part images) first fit.1.1.1)
