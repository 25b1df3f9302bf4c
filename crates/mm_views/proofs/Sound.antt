-- What holds of the views at all times is kept by each call.
use Rattle.std.proofs.Common.{◌≡◌, inl, inr, ℕ, ◌+◌, ◌-◌, ◌^◌, ◌<◌, ◌≤◌, Bool, true, false, cond, List, [], ◌∷◌, ◌++◌, length, drop, Option, Some, None, refl, sym, ◌∙◌, ap, subst, arith, lit<}
use Rattle.std.proofs.lemmas.Bool.{cases_Bool, eqb-true, eq-eqb, both_ways, false≢true, or_cases, or_parts, or_from, or_left, or_right, and_from, le-leb, lt-ltb}
use Rattle.std.proofs.lemmas.Bool.Decides.{nat_tests}
use Rattle.std.proofs.lemmas.List.{length-take, length-drop}
use Rattle.std.specs.Prelude.{◌==◌, ◌||◌, ◌&&◌, nat_le, nat_lt, unwrap_or, replicate}
use Rattle.std.specs.FinMap.{get, insert, empty, get-empty}
use Rattle.std.specs.List.{list_all}
use Rattle.std.specs.Ordering.{nat_cmp}
use Rattle.mm_bytes.specs.Files.{overwritten, read_from}
use Rattle.mm_ranges.specs.Limits.{is_file, most_of, is_allowed, is_rising, may_be_made, IsAllowed}
use Rattle.mm_ranges.specs.Places.{Range, is_in, is_covered, is_range, is_normal, Covers, inserted, merged}
use Rattle.mm_ranges.specs.Overlay.{Image, bytes_at, laid, laid_over, with_made, over, over_all, piece_of, pieces_of, ranges_of, SameOutside, FileSame, AreInside, IsInside}
use Rattle.mm_ranges.specs.declared.part.Piece.{Piece}
use Rattle.mm_ranges.specs.declared.part.Made.{Made}
use Rattle.mm_ranges.specs.declared.part.Part.{Part}
use Rattle.mm_ranges.proofs.Order.{normal_parts, range_from, spaced_of_normal}
use Rattle.mm_ranges.proofs.Inserting.{covered-inserted, covered-merged, is_normal-inserted, is_normal-merged}
use Rattle.mm_bytes.proofs.Files.{length-overwritten}
use Rattle.mm_ranges.proofs.Overlaying.{get-laid, laid_whole, laid_own, laid_covered, laid_over_same, ranges_of-pieces_of, same_outside_trans, same_outside_weaker, same_outside_refl, same_outside_sym, same_outside_none}
use Rattle.mm_views.specs.Made.{is_made, with_one, with_all, without_made, made_in}
use Rattle.mm_views.specs.State.{State, Drafting, part_of, drafting_of, closed_from, applied_with, ranges_in, IsCovered, PiecesInside, PartFits, PartsFit, FileAllowed, KeepsLimits, AreMade, IsSound, IsDraft}
use Rattle.mm_views.proofs.Making.{get-with_made, without_made-with_made, is_made-with_one, is_rising-with_one, allowed-with_one, with_made-with_one, is_made-with_all, is_rising-with_all, allowed-with_all, with_made-with_all, AreApart, same_made, zeros_of}
use Rattle.mm_views.proofs.Lengths.{length-laid, pieces_inside_same, are_inside_same, pieces_inside_rest, same_lengths, absent_same, absent-laid_over, pieces_inside-put, are_inside-put, laid_over-put, are_inside-made, limits_same, limits_put, small, allowed_inside, none_of_same, not_made, length_of_same}

-- ---- what is covered lies inside

pub covered_inside : (image : Image) (rs : List Range) (f p : ℕ) → AreInside image rs → is_covered rs f p ≡ true → p < length (bytes_at image f)
covered_inside image [] f p h c = absurd (both_ways false refl c)
covered_inside image (r ∷ rs) f p h c = elim (or_cases (is_in f p r) (is_covered rs f p) c) [
  | inl here ↦
      let same : r.0 ≡ f = eqb-true r.0 f (fst_of _ _ here) in
      subst (λ (k : ℕ). p < length (bytes_at image k)) same (below r f p here h.1)
  | inr later ↦ covered_inside image rs f p h.2 later
]
  where
    fst_of : (a b : Bool) → (a && b) ≡ true → a ≡ true
    fst_of true b e = refl
    fst_of false b e = e

    below : (r : Range) (f p : ℕ) → is_in f p r ≡ true → r.1 + r.2 ≤ length (bytes_at image r.0) → p < length (bytes_at image r.0)
    below r f p i le = grind (arith, nat_tests)

last_in : (r : Range) → is_range r ≡ true → is_in r.0 (r.1 + r.2 - 1) r ≡ true
last_in r h = grind (arith, nat_tests)

pub some_places : (r : Range) → is_range r ≡ true → 0 < r.2
some_places r h = grind (arith, nat_tests)

pub are_inside_from : (image : Image) (rs : List Range) → is_normal rs ≡ true → ((f p : ℕ) → is_covered rs f p ≡ true → p < length (bytes_at image f)) → AreInside image rs
are_inside_from image [] n h = tt
are_inside_from image (r ∷ rs) n h =
    let parts = normal_parts r rs n in
    let some : 0 < r.2 = some_places r parts.range in
    let last : r.1 + r.2 - 1 < length (bytes_at image r.0) = h r.0 (r.1 + r.2 - 1) (or_left _ (is_covered rs r.0 (r.1 + r.2 - 1)) (last_in r parts.range)) in
    (some, omega (arith, some, last), are_inside_from image rs parts.rest (λ f p c. h f p (or_right (is_in f p r) _ c)))

pub inside_inserted : (image : Image) (r : Range) (rs : List Range) → is_range r ≡ true → is_normal rs ≡ true → IsInside image r → AreInside image rs → AreInside image (inserted r rs)
inside_inserted image r rs fits n here h = are_inside_from image (inserted r rs) (is_normal-inserted r rs fits n) (λ f p c.
    covered_inside image (r ∷ rs) f p (some_places r fits, here, h) (sym (covered-inserted r rs f p (spaced_of_normal rs n)) ∙ c))

pub inside_merged : (image : Image) (rs ss : List Range) → is_normal rs ≡ true → is_normal ss ≡ true → AreInside image rs → AreInside image ss → AreInside image (merged rs ss)
inside_merged image rs ss n m h k = are_inside_from image (merged rs ss) (is_normal-merged rs ss n m) (λ f p c.
    elim (or_cases (is_covered ss f p) (is_covered rs f p) (sym (covered-merged rs ss f p (spaced_of_normal rs n) (spaced_of_normal ss m)) ∙ c)) [ inl a ↦ covered_inside image ss f p k a | inr a ↦ covered_inside image rs f p h a ])

pub covers_inside : (image : Image) (rs : List Range) (file at len : ℕ) → AreInside image rs → 0 < len → Covers rs file at len → at + len ≤ length (bytes_at image file)
covers_inside image rs file at len h some covers =
    let last : at + len - 1 < length (bytes_at image file) = covered_inside image rs file (at + len - 1) h (covers (at + len - 1) (omega arith) (omega arith)) in
    omega (arith, last, some)

-- ---- pieces and ranges

length-piece_of : (r : Range) (image : Image) → IsInside image r → length (read_from r.1 r.2 (bytes_at image r.0)) ≡ r.2
length-piece_of r image h = length-take r.2 (drop r.1 (bytes_at image r.0)) ∙ omega (arith, length-drop r.1 (bytes_at image r.0), h)

pub pieces_inside-pieces_of : (rs : List Range) (image : Image) → AreInside image rs → PiecesInside image (pieces_of rs image)
pieces_inside-pieces_of [] image h = tt
pieces_inside-pieces_of (r ∷ rs) image h =
    let count : length (read_from r.1 r.2 (bytes_at image r.0)) ≡ r.2 = length-piece_of r image h.1 in
    (subst (λ (n : ℕ). 0 < n) (sym count) h.0, subst (λ (n : ℕ). r.1 + n ≤ length (bytes_at image r.0)) (sym count) h.1, pieces_inside-pieces_of rs image h.2)

pub covers_own : (rs : List Range) (file at len : ℕ) → Covers ((file, at, len) ∷ rs) file at len
covers_own rs file at len = λ i low high. or_left _ (is_covered rs file i) (and_from (file == file) _ (eq-eqb file file refl) (and_from (nat_le at i) (nat_lt i (at + len)) (le-leb at i low) (lt-ltb i (at + len) high)))

pub laid_outside : (ps : List Piece) (image : Image) → PiecesInside image ps → SameOutside (ranges_of ps) image (laid_over ps image)
laid_outside [] image h = same_outside_refl [] image
laid_outside (p ∷ ps) image h =
    same_outside_trans ((p.file, p.at, length p.bytes) ∷ []) (ranges_of ps) (ranges_of (p ∷ ps)) image (laid p.file p.at p.bytes image) (laid_over ps (laid p.file p.at p.bytes image))
    (λ f i out. let both = or_parts (is_in f i (p.file, p.at, length p.bytes)) (is_covered (ranges_of ps) f i) out in (or_from _ false both.0 refl, both.1))
    (laid_covered ((p.file, p.at, length p.bytes) ∷ []) p.file p.at p.bytes image h.0 h.1 (covers_own [] p.file p.at (length p.bytes)))
    (laid_outside ps (laid p.file p.at p.bytes image) (pieces_inside_rest p ps image h))

-- ---- the draft

-- but at the declared places the draft's image is the private one with its files made
pub draft_same : (saved : List Piece) (d : Drafting) → IsDraft saved d → SameOutside d.declared (with_made d.made d.views.private) d.image
draft_same saved d h = same_outside_sym d.declared d.image (with_made d.made d.views.private)
    (subst (λ (b : Image). SameOutside d.declared d.image b) h.undone
    (same_outside_weaker (ranges_of saved) d.declared d.image (laid_over saved d.image) (λ f i out. h.saved_covers f i ∙ out) (laid_outside saved d.image h.saved_inside)))

-- the private image is there again once the pieces are laid back and the files taken out
pub draft_back : (saved : List Piece) (d : Drafting) → IsDraft saved d → without_made d.made (laid_over saved d.image) ≡ d.views.private
draft_back saved d h = ap (without_made d.made) h.undone ∙ without_made-with_made d.made d.views.private h.made.rising h.made.new_files

pub drafted : (s : State) → IsSound s → IsDraft [] (drafting_of s)
drafted s h = record {
  sound = h;
  undone = refl;
  saved_inside = tt;
  saved_covers = λ f p. refl;
  normal = refl;
  inside = tt;
  made = record { rising = refl; allowed = refl; new_files = λ file made. absurd (false≢true made) };
  limits = h.limits;
}

pub declared_more : (saved : List Piece) (d : Drafting) (r : Range) (is_reserved : Bool) → IsDraft saved d → is_range r ≡ true → IsInside d.image r → IsDraft (piece_of d.image r ∷ saved) (record d { declared = inserted r d.declared; is_reserved = is_reserved })
declared_more saved d r is_reserved h fits here =
    let count : length (read_from r.1 r.2 (bytes_at d.image r.0)) ≡ r.2 = length-piece_of r d.image here in
    record {
      sound = h.sound;
      undone = ap (laid_over saved) (laid_own r d.image (some_places r fits) here) ∙ h.undone;
      saved_inside = (subst (λ (n : ℕ). 0 < n) (sym count) (some_places r fits), subst (λ (n : ℕ). r.1 + n ≤ length (bytes_at d.image r.0)) (sym count) here, h.saved_inside);
      saved_covers = λ f p. ap (λ (n : ℕ). is_in f p (r.0, r.1, n) || is_covered (ranges_of saved) f p) count ∙ ap (λ b. is_in f p r || b) (h.saved_covers f p) ∙ sym (covered-inserted r d.declared f p (spaced_of_normal d.declared h.normal));
      normal = is_normal-inserted r d.declared fits h.normal;
      inside = inside_inserted d.image r d.declared fits h.normal here h.inside;
      made = h.made;
      limits = h.limits;
    }

pub written : (saved : List Piece) (d : Drafting) (file at : ℕ) (bytes : List ℕ) (is_reserved : Bool) → IsDraft saved d → 0 < length bytes → Covers d.declared file at (length bytes) → IsDraft saved (record d { image = laid file at bytes d.image; is_reserved = is_reserved })
written saved d file at bytes is_reserved h some covers =
    let here = covers_inside d.image d.declared file at (length bytes) h.inside some covers in
    let lengths = length-laid file at bytes d.image here in
    let step : SameOutside d.declared d.image (laid file at bytes d.image) = laid_covered d.declared file at bytes d.image some here covers in
    record {
      sound = h.sound;
      undone = sym (laid_over_same saved d.image (laid file at bytes d.image) (same_outside_weaker d.declared (ranges_of saved) d.image (laid file at bytes d.image) (λ f i out. sym (h.saved_covers f i) ∙ out) step)) ∙ h.undone;
      saved_inside = pieces_inside_same (laid file at bytes d.image) d.image saved lengths h.saved_inside;
      saved_covers = h.saved_covers;
      normal = h.normal;
      inside = are_inside_same (laid file at bytes d.image) d.image d.declared lengths h.inside;
      made = h.made;
      limits = limits_same d.declared d.image (laid file at bytes d.image) step h.limits;
    }

-- a file that is absent in the draft's image isn't made by it, nor is it in the private image
pub record IsAbsent (d : Drafting) (file : ℕ) : Type 0 where
  pub not_made : is_made d.made file ≡ false
  pub not_private : get d.views.private file ≡ None

pub draft_absent : (saved : List Piece) (d : Drafting) (file : ℕ) → IsDraft saved d → get d.image file ≡ None → IsAbsent d file
draft_absent saved d file h none = by_test (is_made d.made file) refl
    (sym (get-with_made d.made d.views.private file h.made.rising) ∙ ap (λ (image : Image). get image file) (sym h.undone) ∙ absent-laid_over saved d.image file h.saved_inside none)
  where
    by_test : (t : Bool) → is_made d.made file ≡ t → cond t (Some (zeros_of d.made file)) (get d.views.private file) ≡ None → IsAbsent d file
    by_test true e k = absurd (some_none (zeros_of d.made file) k)
      where
        some_none : (b : List ℕ) → Some b ≡ None → ⊥
        some_none b e = cc
    by_test false e k = record { not_made = e; not_private = k }

pub file_added : (saved : List Piece) (d : Drafting) (m : Made) (is_reserved : Bool) → IsDraft saved d → get d.image m.file ≡ None → may_be_made m ≡ true → is_file m.file ≡ true → length {A = ℕ} (replicate m.len 0) ≤ most_of m.file
    → IsDraft saved (record d { image = insert d.image m.file (replicate m.len 0); made = with_one m d.made; is_reserved = is_reserved })
file_added saved d m is_reserved h none may is le =
    let absent = draft_absent saved d m.file h none in
    record {
      sound = h.sound;
      undone = laid_over-put saved d.image m.file (replicate m.len 0) h.saved_inside none ∙ ap (λ (image : Image). insert image m.file (replicate m.len 0)) h.undone
          ∙ sym (with_made-with_one m d.made d.views.private h.made.rising absent.not_made);
      saved_inside = pieces_inside-put d.image saved m.file (replicate m.len 0) none h.saved_inside;
      saved_covers = h.saved_covers;
      normal = h.normal;
      inside = are_inside-put d.image d.declared m.file (replicate m.len 0) none h.inside;
      made = record {
        rising = is_rising-with_one m d.made h.made.rising absent.not_made;
        allowed = allowed-with_one m d.made h.made.allowed may;
        new_files = λ file made. elim (or_cases (m.file == file) (is_made d.made file) (sym (is_made-with_one m d.made file) ∙ made)) [
          | inl same ↦ ap (get d.views.private) (sym (eqb-true m.file file same)) ∙ absent.not_private
          | inr old ↦ h.made.new_files file old
        ];
      };
      limits = limits_put d.image m.file (replicate m.len 0) h.limits is le;
    }

-- ---- adopt

-- what the draft leaves
abbrev pub adopted : Drafting → State
adopted d = record { shared = d.views.shared; private = d.image; made = with_all d.views.made d.made; opened = merged d.views.opened d.declared; closed = d.views.closed; is_ready = false }

-- a file that was made before is in the private image
made_there : (s : State) (file : ℕ) → IsSound s → is_made s.made file ≡ true → get s.private file ≡ None → ⊥
made_there s file h made none =
    some_none (zeros_of s.made file)
    (sym (get-with_made s.made (over_all s.closed s.shared) file h.made.rising ∙ ap (λ t. cond t (Some (zeros_of s.made file)) (get (over_all s.closed s.shared) file)) made)
    ∙ absent_same s.opened (with_made s.made (over_all s.closed s.shared)) s.private file h.differs none)
  where
    some_none : (b : List ℕ) → Some b ≡ None → ⊥
    some_none b e = cc

made_apart : (saved : List Piece) (d : Drafting) → IsDraft saved d → AreApart d.views.made d.made
made_apart saved d h file made = elim (cases_Bool (is_made d.views.made file)) [
  | inl before ↦ absurd (made_there d.views file h.sound before (h.made.new_files file made))
  | inr out ↦ out
]

-- a file that the draft makes isn't in what is closed
made_absent : (saved : List Piece) (d : Drafting) (file : ℕ) → IsDraft saved d → is_made d.made file ≡ true → get (over_all d.views.closed d.views.shared) file ≡ None
made_absent saved d file h made =
    let s = d.views in
    let base = over_all s.closed s.shared in
    sym (get-with_made s.made base file h.sound.made.rising ∙ ap (λ t. cond t (Some (zeros_of s.made file)) (get base file)) (made_apart saved d h file made))
    ∙ absent_same s.opened (with_made s.made base) s.private file h.sound.differs (h.made.new_files file made)

pub sound_adopted : (saved : List Piece) (d : Drafting) → IsDraft saved d → IsSound (adopted d)
sound_adopted saved d h =
    let s = h.sound in
    let base = over_all d.views.closed d.views.shared in
    let same = draft_same saved d h in
    let apart = made_apart saved d h in
    record {
      differs = subst (λ (image : Image). SameOutside (merged d.views.opened d.declared) image d.image) (sym (with_made-with_all d.views.made d.made base s.made.rising h.made.rising apart))
          (same_outside_trans d.views.opened d.declared (merged d.views.opened d.declared) (with_made d.made (with_made d.views.made base)) (with_made d.made d.views.private) d.image
          (λ f i out. let both = or_parts (is_covered d.declared f i) (is_covered d.views.opened f i) (sym (covered-merged d.views.opened d.declared f i (spaced_of_normal d.views.opened s.normal) (spaced_of_normal d.declared h.normal)) ∙ out) in (both.1, both.0))
          (same_made d.views.opened d.made (with_made d.views.made base) d.views.private s.differs) same);
      normal = is_normal-merged d.views.opened d.declared s.normal h.normal;
      inside = inside_merged d.image d.views.opened d.declared s.normal h.normal
          (are_inside_same d.image (with_made d.made d.views.private) d.views.opened (λ q. sym (same_lengths d.declared (with_made d.made d.views.private) d.image same q)) (are_inside-made d.views.private d.made d.views.opened h.made.rising h.made.new_files s.inside)) h.inside;
      made = record {
        rising = is_rising-with_all d.views.made d.made s.made.rising h.made.rising apart;
        allowed = allowed-with_all d.views.made d.made s.made.allowed h.made.allowed;
        new_files = λ file made. elim (or_cases (is_made d.made file) (is_made d.views.made file) (sym (is_made-with_all d.views.made d.made file) ∙ made)) [
          | inl new ↦ made_absent saved d file h new
          | inr old ↦ s.made.new_files file old
        ];
      };
      fits = s.fits;
      limits = h.limits;
    }

-- ---- close

pub over_all-push : (ps : List Part) (p : Part) (image : Image) → over_all (ps ++ p ∷ []) image ≡ over p (over_all ps image)
over_all-push [] p image = refl
over_all-push (q ∷ ps) p image = over_all-push ps p (over q image)

parts_fit-push : (image : Image) (ps : List Part) (p : Part) → PartsFit image ps → PartFits (over_all ps image) p → PartsFit image (ps ++ p ∷ [])
parts_fit-push image [] p h k = (k, tt)
parts_fit-push image (q ∷ ps) p h k = (h.0, parts_fit-push (over q image) ps p h.1 k)

pub part_fits : (s : State) → IsSound s → PartFits (over_all s.closed s.shared) (part_of s)
part_fits s h = record {
  rising = h.made.rising;
  allowed = h.made.allowed;
  new_files = h.made.new_files;
  inside = pieces_inside_same (with_made s.made (over_all s.closed s.shared)) s.private (pieces_of s.opened s.private) (same_lengths s.opened (with_made s.made (over_all s.closed s.shared)) s.private h.differs)
      (pieces_inside-pieces_of s.opened s.private h.inside);
}

pub part_allowed : (s : State) → IsSound s → IsAllowed (part_of s)
part_allowed s h =
    let places = ranges_of-pieces_of s.opened s.private h.inside in
    record {
      made_rising = h.made.rising;
      made_allowed = h.made.allowed;
      ranges_normal = ap is_normal places ∙ h.normal;
      ranges_allowed = ap (list_all is_allowed) places ∙ allowed_inside s.private s.opened h.limits h.inside;
    }

pub whole_closed : (s : State) → IsSound s → over_all (s.closed ++ part_of s ∷ []) s.shared ≡ s.private
whole_closed s h = over_all-push s.closed (part_of s) s.shared ∙ laid_whole s.opened (with_made s.made (over_all s.closed s.shared)) s.private h.inside h.differs

pub sound_closed : (s : State) → IsSound s → IsSound (closed_from s)
sound_closed s h = record {
  differs = subst (λ (image : Image). SameOutside [] image s.private) (sym (whole_closed s h)) (same_outside_refl [] s.private);
  normal = refl;
  inside = tt;
  made = record { rising = refl; allowed = refl; new_files = λ file made. absurd (false≢true made) };
  fits = parts_fit-push s.shared s.closed (part_of s) h.fits (part_fits s h);
  limits = h.limits;
}

-- ---- apply

pub sound_applied_with : (s : State) (ps : List Part) → s.closed ≡ ps → IsSound s → IsSound (applied_with s ps)
sound_applied_with s [] e h = h
sound_applied_with s (p ∷ ps) e h =
    let fits : PartsFit s.shared (p ∷ ps) = subst (PartsFit s.shared) e h.fits in
    record {
      differs = subst (λ (xs : List Part). SameOutside s.opened (with_made s.made (over_all xs s.shared)) s.private) e h.differs;
      normal = h.normal;
      inside = h.inside;
      made = subst (λ (xs : List Part). AreMade (over_all xs s.shared) s.made) e h.made;
      fits = fits.1;
      limits = h.limits;
    }

-- ---- coverage

is_covered-append : (rs ss : List Range) (f p : ℕ) → is_covered (rs ++ ss) f p ≡ (is_covered rs f p || is_covered ss f p)
is_covered-append [] ss f p = refl
is_covered-append (r ∷ rs) ss f p = ap (λ b. is_in f p r || b) (is_covered-append rs ss f p) ∙ assoc (is_in f p r) (is_covered rs f p) (is_covered ss f p)
  where
    assoc : (a b c : Bool) → (a || (b || c)) ≡ ((a || b) || c)
    assoc true b c = refl
    assoc false b c = refl

is_made-append : (ms ns : List Made) (file : ℕ) → is_made (ms ++ ns) file ≡ (is_made ms file || is_made ns file)
is_made-append [] ns file = refl
is_made-append (m ∷ ms) ns file = ap (λ b. m.file == file || b) (is_made-append ms ns file) ∙ assoc (m.file == file) (is_made ms file) (is_made ns file)
  where
    assoc : (a b c : Bool) → (a || (b || c)) ≡ ((a || b) || c)
    assoc true b c = refl
    assoc false b c = refl

file_same_trans : (p q r : ℕ → Bool) (a b c : Option (List ℕ)) → ((i : ℕ) → r i ≡ false → (p i ≡ false) × (q i ≡ false)) → FileSame p a b → FileSame q b c → FileSame r a c
file_same_trans p q r None None None f s t = tt
file_same_trans p q r None None (Some c) f s t = t
file_same_trans p q r None (Some b) c f s t = absurd s
file_same_trans p q r (Some a) None c f s t = absurd s
file_same_trans p q r (Some a) (Some b) None f s t = t
file_same_trans p q r (Some a) (Some b) (Some c) f s t = (s.0 ∙ t.0, λ i out. let parts = f i out in s.1 i parts.0 ∙ t.1 i parts.1)

get_not_made : (ms : List Made) (image : Image) (file : ℕ) → is_rising ms ≡ true → is_made ms file ≡ false → get (with_made ms image) file ≡ get image file
get_not_made ms image file h out = get-with_made ms image file h ∙ ap (λ t. cond t (Some (zeros_of ms file)) (get image file)) out

-- parts change a file that they don't make only at their places
parts_outside : (ps : List Part) (image : Image) (file : ℕ) → PartsFit image ps → is_made (made_in ps) file ≡ false → FileSame (is_covered (ranges_in ps) file) (get image file) (get (over_all ps image) file)
parts_outside [] image file h out = same_outside_refl [] image file
parts_outside (p ∷ ps) image file h out =
    let outs = or_parts (is_made p.made file) (is_made (made_in ps) file) (sym (is_made-append p.made (made_in ps) file) ∙ out) in
    let here : FileSame (is_covered (ranges_of p.pieces) file) (get image file) (get (over p image) file) =
    subst (λ (o : Option (List ℕ)). FileSame (is_covered (ranges_of p.pieces) file) o (get (over p image) file)) (get_not_made p.made image file h.0.rising outs.0)
    (laid_outside p.pieces (with_made p.made image) h.0.inside file) in
    file_same_trans (is_covered (ranges_of p.pieces) file) (is_covered (ranges_in ps) file) (is_covered (ranges_in (p ∷ ps)) file) (get image file) (get (over p image) file) (get (over_all ps (over p image)) file)
    (λ i no. or_parts (is_covered (ranges_of p.pieces) file i) (is_covered (ranges_in ps) file i) (sym (is_covered-append (ranges_of p.pieces) (ranges_in ps) file i) ∙ no))
    here (parts_outside ps (over p image) file h.1 outs.1)

pub covered_sound : (s : State) → IsSound s → IsCovered s
covered_sound s h file out =
    let outs = or_parts (is_made s.made file) (is_made (made_in s.closed) file) (sym (is_made-append s.made (made_in s.closed) file) ∙ out) in
    let base = over_all s.closed s.shared in
    file_same_trans (is_covered (ranges_in s.closed) file) (is_covered s.opened file) (is_covered (s.opened ++ ranges_in s.closed) file) (get s.shared file) (get base file) (get s.private file)
    (λ i no. let both = or_parts (is_covered s.opened file i) (is_covered (ranges_in s.closed) file i) (sym (is_covered-append s.opened (ranges_in s.closed) file i) ∙ no) in (both.1, both.0))
    (parts_outside s.closed s.shared file h.fits outs.1)
    (subst (λ (o : Option (List ℕ)). FileSame (is_covered s.opened file) o (get s.private file)) (get_not_made s.made base file h.made.rising outs.0) (h.differs file))

-- ---- the shared image's files

-- a file that is there isn't made by the parts, and is there after them
present : (ps : List Part) (image : Image) (file : ℕ) → PartsFit image ps → (get image file ≡ None → ⊥) → (is_made (made_in ps) file ≡ false) × (get (over_all ps image) file ≡ None → ⊥)
present [] image file h there = (refl, there)
present (p ∷ ps) image file h there =
    let out = not_made image p.made file h.0.new_files there in
    let here : FileSame (is_covered (ranges_of p.pieces) file) (get image file) (get (over p image) file) =
    subst (λ (o : Option (List ℕ)). FileSame (is_covered (ranges_of p.pieces) file) o (get (over p image) file)) (get_not_made p.made image file h.0.rising out)
    (laid_outside p.pieces (with_made p.made image) h.0.inside file) in
    let rest = present ps (over p image) file h.1 (λ none. there (none_of_same (is_covered (ranges_of p.pieces) file) (get image file) (get (over p image) file) here none)) in
    (is_made-append p.made (made_in ps) file ∙ or_from (is_made p.made file) (is_made (made_in ps) file) out rest.0, rest.1)

shared_not_made : (s : State) (file : ℕ) → IsSound s → (get s.shared file ≡ None → ⊥) → is_made (s.made ++ made_in s.closed) file ≡ false
shared_not_made s file h there =
    let both = present s.closed s.shared file h.fits there in
    is_made-append s.made (made_in s.closed) file ∙ or_from (is_made s.made file) (is_made (made_in s.closed) file) (not_made (over_all s.closed s.shared) s.made file h.made.new_files both.1) both.0

pub shared_small : (s : State) (file : ℕ) → IsSound s → length (bytes_at s.shared file) < 2 ^ 32
shared_small s file h = by_file (get s.shared file) refl
  where
    by_file : (o : Option (List ℕ)) → get s.shared file ≡ o → length (bytes_at s.shared file) < 2 ^ 32
    by_file None e = subst (λ (o : Option (List ℕ)). length (unwrap_or o []) < 2 ^ 32) (sym e) (lit< tt)
    by_file (Some b) e =
        let same = covered_sound s h file (shared_not_made s file h (λ none. some_none b (sym e ∙ none))) in
        subst (λ n. n < 2 ^ 32) (sym (length_of_same (is_covered (s.opened ++ ranges_in s.closed) file) (get s.shared file) (get s.private file) same)) (small s.private file h.limits)
      where
        some_none : (b : List ℕ) → Some b ≡ None → ⊥
        some_none b e = cc

-- ---- load and fill

-- where nothing is made, opened or closed the images are one
pub images_equal : (s : State) → IsSound s → s.made ≡ [] → s.opened ≡ [] → s.closed ≡ [] → s.shared ≡ s.private
images_equal s h made opened closed =
    same_outside_none s.shared s.private
    (subst (λ (rs : List Range). SameOutside rs s.shared s.private) opened
    (subst (λ (ms : List Made). SameOutside s.opened (with_made ms s.shared) s.private) made
    (subst (λ (ps : List Part). SameOutside s.opened (with_made s.made (over_all ps s.shared)) s.private) closed h.differs)))

-- two images that are one are sound, with nothing between them
pub sound_equal : (a b : Image) (is_ready : Bool) → a ≡ b → KeepsLimits b → IsSound (record { shared = a; private = b; made = []; opened = []; closed = []; is_ready = is_ready })
sound_equal a b is_ready e h = record {
  differs = subst (λ (image : Image). SameOutside [] image b) (sym e) (same_outside_refl [] b);
  normal = refl;
  inside = tt;
  made = record { rising = refl; allowed = refl; new_files = λ file made. absurd (false≢true made) };
  fits = tt;
  limits = h;
}

pub limits_empty : KeepsLimits empty
limits_empty file = subst (FileAllowed file) (sym (get-empty nat_cmp file)) tt

-- bytes laid over a file that is there keep the limits
pub limits_laid : (image : Image) (file at : ℕ) (bytes old : List ℕ) → get image file ≡ Some old → at + length bytes ≤ length old → KeepsLimits image → KeepsLimits (laid file at bytes image)
limits_laid image file at bytes old there inside h q = subst (FileAllowed q) (sym (get-laid file at bytes image q)) (by_test (q == file) refl)
  where
    is_old : bytes_at image file ≡ old
    is_old = ap (λ (o : Option (List ℕ)). unwrap_or o []) there

    by_test : (t : Bool) → (q == file) ≡ t → FileAllowed q (cond t (Some (overwritten at bytes (bytes_at image file))) (get image q))
    by_test true e =
        let own : FileAllowed q (Some old) = subst (FileAllowed q) (ap (get image) (eqb-true q file e) ∙ there) (h q) in
        let count : length (overwritten at bytes (bytes_at image file)) ≡ length old = ap (λ (l : List ℕ). length (overwritten at bytes l)) is_old ∙ length-overwritten at bytes old ∙ omega (arith, inside) in
        (own.0, subst (λ n. n ≤ most_of q) (sym count) own.1)
    by_test false e = h q

-- a range inside a file of a draft is a range
pub range_inside : (saved : List Piece) (d : Drafting) (r : Range) → IsDraft saved d → r.0 < 2 ^ 32 → 0 < r.2 → IsInside d.image r → is_range r ≡ true
range_inside saved d r h file some inside = let most = small d.image r.0 h.limits in range_from r.0 r.1 r.2 file some (omega (arith, most, inside))
