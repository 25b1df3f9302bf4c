-- A part that fits an image may come next over the files that read it.
use Rattle.std.proofs.Common.{◌≡◌, inl, inr, ℕ, ◌+◌, ◌<◌, ◌≤◌, Bool, true, false, cond, ◌&&◌, ◌||◌, List, [], ◌∷◌, ◌++◌, length, map, replicate, Option, None, Some, refl, sym, ◌∙◌, ap, subst, arith}
use mathlib.Core.Bool.{true≢false}
use Rattle.std.specs.Prelude.{◌==◌, nat_lt, unwrap_or, is_some}
use Rattle.std.specs.List.{list_all}
use Rattle.std.specs.Ordering.{eq_by_cmp}
use Rattle.std.specs.Cmp.{nat_cmp_total, unsigned_tied}
use Rattle.std.specs.FinMap.{get, insert, get-insert}
use Rattle.std.proofs.lemmas.Bool.{cases_Bool, and_parts}
use Rattle.std.proofs.lemmas.Bool.Decides.{nat_tests}
use Rattle.mm_bytes.specs.Files.{overwritten}
use Rattle.mm_outside.specs.Image.{name_cmp}
use Rattle.mm_ranges.specs.Limits.{is_file, is_allowed, is_lowest, is_rising, may_be_made}
use Rattle.mm_ranges.specs.Overlay as ranges
use Rattle.mm_ranges.specs.declared.part.Made.{Made}
use Rattle.mm_ranges.specs.declared.part.Piece.{Piece}
use Rattle.mm_ranges.specs.declared.part.Part.{Part}
use Rattle.mm_views.specs.Made as views
use Rattle.mm_views.specs.State.{PiecesInside, PartFits}
use Rattle.mm_crash.specs.Overlay.{Entry, Act, Makes, Puts, is_own, put, over, makes, is_made, size, size_after, Fits, LiesIn, IsMadeOnce}
use Rattle.mm_crash.specs.Journal.{entries_of_part}
use Rattle.mm_crash.proofs.Overlay.{none_of, over-append, there-over, size_then, size-over, fits_both}
use Rattle.mm_items.specs.Next.{MayCome}

get-put : (image : ranges.Image) (file : ℕ) (bytes : List ℕ) (q : ℕ) → get (insert image file bytes) q ≡ cond (q == file) (Some bytes) (get image q)
get-put image file bytes q = get-insert nat_cmp_total image file bytes q ∙ ap (λ t. cond t (Some bytes) (get image q)) (unsigned_tied q file)

-- ---- one list of entries behind another

-- no entry is of the file
abbrev pub has_own : List ℕ → List Entry → Bool
has_own q [] = false
has_own q (e ∷ entries) = is_own q e || has_own q entries

-- where an absent file stays absent, no entry is of it
absent_still : (q : List ℕ) (entries : List Entry) (content : Option (List ℕ)) → over entries q content ≡ None → has_own q entries ≡ false
absent_still q [] content none = refl
absent_still q (e ∷ entries) content none = by (is_own q e) (absent_still q entries) none
  where
    some_left : (rest : List Entry) (bytes : List ℕ) → over rest q (Some bytes) ≡ None → ⊥
    some_left rest bytes gone = true≢false (sym (there-over rest q (Some bytes) (inr refl)) ∙ ap is_some gone)

    some_put : (act : Act) (rest : List Entry) → over rest q (put act content) ≡ None → ⊥
    some_put (Makes len) rest gone = some_left rest (replicate len 0) gone
    some_put (Puts offset bytes) rest gone = some_left rest (overwritten offset bytes (unwrap_or content [])) gone

    by : (b : Bool) → ((c : Option (List ℕ)) → over entries q c ≡ None → has_own q entries ≡ false) → over entries q (cond b (put e.act content) content) ≡ None → (b || has_own q entries) ≡ false
    by true next gone = absurd (some_put e.act entries gone)
    by false next gone = next content gone

made_both : (q : List ℕ) (a b : List Entry) → is_made q a ≡ false → is_made q b ≡ false → is_made q (a ++ b) ≡ false
made_both q [] b x y = y
made_both q (e ∷ a) b x y = let parts = Rattle.mm_crash.proofs.Overlay.neither (is_own q e && makes e.act) (is_made q a) x in none_of _ _ parts.0 (made_both q a b parts.1 y)

-- an entry stands before none that makes its file, within the first and from there to the second
pub once_both : (q : List ℕ) (a b : List Entry) → IsMadeOnce q a → IsMadeOnce q b → (is_made q b ≡ true → has_own q a ≡ false) → IsMadeOnce q (a ++ b)
once_both q [] b x y apart = y
once_both q (e ∷ a) b x y apart = (here, once_both q a b x.1 y (λ made. (Rattle.mm_crash.proofs.Overlay.neither (is_own q e) (has_own q a) (apart made)).1))
  where
    here : is_own q e ≡ true → is_made q (a ++ b) ≡ false
    here own = elim (cases_Bool (is_made q b)) [
      | inl made ↦ absurd (true≢false (sym own ∙ (Rattle.mm_crash.proofs.Overlay.neither (is_own q e) (has_own q a) (apart made)).0))
      | inr isnt ↦ made_both q a b (x.0 own) isnt
    ]

-- ---- one database's part, and one of its files

module _ (name : List ℕ → ℕ → List ℕ) (n : List ℕ) (f : ℕ) (same : (g : ℕ) → is_file g ≡ true → eq_by_cmp name_cmp (name n f) (name n g) ≡ (f == g)) where
  abbrev q : List ℕ
  q = name n f

  abbrev make_of : Made → Entry
  make_of m = record { file = name n m.file; act = Makes m.len }

  abbrev put_of : Piece → Entry
  put_of p = record { file = name n p.file; act = Puts p.at p.bytes }

  made_file : (m : Made) → may_be_made m ≡ true → is_file m.file ≡ true
  made_file m all = (and_parts (is_file m.file) _ all).0

  piece_file : (p : Piece) → is_allowed (p.file, p.at, length p.bytes) ≡ true → is_file p.file ≡ true
  piece_file p all = (and_parts (is_file p.file) _ all).0

  laid_made : (ms : List Made) → list_all may_be_made ms ≡ true → (image : ranges.Image) → over (map make_of ms) q (get image f) ≡ get (ranges.with_made ms image) f
  laid_made [] all image = refl
  laid_made (m ∷ ms) all image =
      let parts = and_parts (may_be_made m) (list_all may_be_made ms) all in
      ap (over (map make_of ms) q) (ap (λ b. cond b (Some (replicate m.len 0)) (get image f)) (same m.file (made_file m parts.0)) ∙ sym (get-put image m.file (replicate m.len 0) f))
      ∙ laid_made ms parts.1 (insert image m.file (replicate m.len 0))

  one_piece : (p : Piece) (image : ranges.Image) (b : Bool) → (f == p.file) ≡ b → cond b (Some (overwritten p.at p.bytes (unwrap_or (get image f) []))) (get image f) ≡ cond b (Some (overwritten p.at p.bytes (ranges.bytes_at image p.file))) (get image f)
  one_piece p image true e = let here : f ≡ p.file = grind (arith, nat_tests) in ap (λ k. Some (overwritten p.at p.bytes (ranges.bytes_at image k))) here
  one_piece p image false e = refl

  laid_pieces : (ps : List Piece) → list_all is_allowed (ranges.ranges_of ps) ≡ true → (image : ranges.Image) → over (map put_of ps) q (get image f) ≡ get (ranges.laid_over ps image) f
  laid_pieces [] all image = refl
  laid_pieces (p ∷ ps) all image =
      let parts = and_parts (is_allowed (p.file, p.at, length p.bytes)) (list_all is_allowed (ranges.ranges_of ps)) all in
      let bytes : List ℕ = overwritten p.at p.bytes (ranges.bytes_at image p.file) in
      ap (over (map put_of ps) q) (ap (λ b. cond b (Some (overwritten p.at p.bytes (unwrap_or (get image f) []))) (get image f)) (same p.file (piece_file p parts.0)) ∙ one_piece p image (f == p.file) refl ∙ sym (get-put image p.file bytes f))
      ∙ laid_pieces ps parts.1 (insert image p.file bytes)

  -- ---- the ranges lie inside

  made_fits : (ms : List Made) (k : ℕ) → Fits q k (map make_of ms)
  made_fits [] k = tt
  made_fits (m ∷ ms) k = ((λ own. tt), made_fits ms _)

  pieces_fit : (ps : List Piece) → list_all is_allowed (ranges.ranges_of ps) ≡ true → (image : ranges.Image) → PiecesInside image ps → Fits q (size (get image f)) (map put_of ps)
  pieces_fit [] all image inside = tt
  pieces_fit (p ∷ ps) all image inside =
      let parts = and_parts (is_allowed (p.file, p.at, length p.bytes)) (list_all is_allowed (ranges.ranges_of ps)) all in
      (here p (same p.file (piece_file p parts.0)) inside.0 inside.1, subst (λ k. Fits q k (map put_of ps)) (sym (stays (is_own q (put_of p)))) (pieces_fit ps parts.1 image inside.2))
    where
      stays : (b : Bool) → cond b (size (get image f)) (size (get image f)) ≡ size (get image f)
      stays true = refl
      stays false = refl

      here : (x : Piece) → eq_by_cmp name_cmp (name n f) (name n x.file) ≡ (f == x.file) → 0 < length x.bytes → x.at + length x.bytes ≤ length (ranges.bytes_at image x.file) → is_own q (put_of x) ≡ true → LiesIn (Puts x.at x.bytes) (size (get image f))
      here x e some le own =
          let test : (f == x.file) ≡ true = sym e ∙ own in
          let is : f ≡ x.file = grind (arith, nat_tests) in
          (some, omega (arith, le, ap (λ k. length (ranges.bytes_at image k)) is))

  -- ---- a file is made once

  pieces_make_none : (ps : List Piece) → is_made q (map put_of ps) ≡ false
  pieces_make_none [] = refl
  pieces_make_none (p ∷ ps) = none_of _ _ (by (is_own q (put_of p))) (pieces_make_none ps)
    where
      by : (b : Bool) → (b && false) ≡ false
      by true = refl
      by false = refl

  pieces_once : (ps : List Piece) → IsMadeOnce q (map put_of ps)
  pieces_once [] = tt
  pieces_once (p ∷ ps) = ((λ own. pieces_make_none ps), pieces_once ps)

  -- what comes behind a made file in rising number is another file
  later_made : (ms : List Made) (least : ℕ) → list_all may_be_made ms ≡ true → f < least → is_rising ms ≡ true → ((m : Made) (rest : List Made) → ms ≡ m ∷ rest → least ≤ m.file) → is_made q (map make_of ms) ≡ false
  later_made [] least all lt rising from = refl
  later_made (m ∷ ms) least all lt rising from =
      let parts = and_parts (may_be_made m) (list_all may_be_made ms) all in
      let order = and_parts (is_lowest m ms) (is_rising ms) rising in
      let le : least ≤ m.file = from m ms refl in
      let other : (f == m.file) ≡ false = grind (arith, nat_tests) in
      none_of _ _ (ap (λ (b : Bool). b && true) (same m.file (made_file m parts.0) ∙ other)) (later_made ms (m.file + 1) parts.1 (omega (arith, lt, le)) order.1 (λ k rest e. above m ms k rest e order.0))
    where
      above : (x : Made) (xs : List Made) (k : Made) (rest : List Made) → xs ≡ k ∷ rest → is_lowest x xs ≡ true → x.file + 1 ≤ k.file
      above x xs k rest e low = let test : nat_lt x.file k.file ≡ true = sym (ap (is_lowest x) e) ∙ low in let lt_k : x.file < k.file = grind (arith, nat_tests) in omega (arith, lt_k)

  made_once : (ms : List Made) → list_all may_be_made ms ≡ true → is_rising ms ≡ true → IsMadeOnce q (map make_of ms)
  made_once [] all rising = tt
  made_once (m ∷ ms) all rising =
      let parts = and_parts (may_be_made m) (list_all may_be_made ms) all in
      let order = and_parts (is_lowest m ms) (is_rising ms) rising in (
        (λ own.
            let test : (f == m.file) ≡ true = sym (same m.file (made_file m parts.0)) ∙ own in
            let is : f ≡ m.file = grind (arith, nat_tests) in
            later_made ms (m.file + 1) parts.1 (omega (arith, is)) order.1 (λ k rest e. above m ms k rest e order.0)),
        made_once ms parts.1 order.1,
      )
    where
      above : (x : Made) (xs : List Made) (k : Made) (rest : List Made) → xs ≡ k ∷ rest → is_lowest x xs ≡ true → x.file + 1 ≤ k.file
      above x xs k rest e low = let test : nat_lt x.file k.file ≡ true = sym (ap (is_lowest x) e) ∙ low in let lt_k : x.file < k.file = grind (arith, nat_tests) in omega (arith, lt_k)

  -- a file that is made is among those that are to be new
  made_there : (ms : List Made) → list_all may_be_made ms ≡ true → is_made q (map make_of ms) ≡ true → views.is_made ms f ≡ true
  made_there [] all made = absurd (true≢false (sym made))
  made_there (m ∷ ms) all made =
      let parts = and_parts (may_be_made m) (list_all may_be_made ms) all in
      elim (cases_Bool (f == m.file)) [
        | inl is ↦ let test : (m.file == f) ≡ true = grind (arith, nat_tests) in ap (λ (b : Bool). b || views.is_made ms f) test
        | inr isnt ↦
            let rest : is_made q (map make_of ms) ≡ true = sym (ap (λ (b : Bool). (b && true) || is_made q (map make_of ms)) (same m.file (made_file m parts.0) ∙ isnt)) ∙ made in
            Rattle.mm_crash.proofs.Overlay.either_one (m.file == f) (views.is_made ms f) (made_there ms parts.1 rest)
      ]

  -- ---- the part, behind what was laid before

  module _ (before : List Entry) (base : Option (List ℕ)) (image : ranges.Image) (made : List Made) (pieces : List Piece) (once : IsMadeOnce q before) (inside : Fits q (size base) before) (reads : over before q base ≡ get image f)
      (fits : PartFits image (record { name = n; made = made; pieces = pieces })) (allowed : list_all is_allowed (ranges.ranges_of pieces) ≡ true) where
    abbrev part : Part
    part = record { name = n; made = made; pieces = pieces }

    abbrev entries : List Entry
    entries = map make_of made ++ map put_of pieces

    entries_once : IsMadeOnce q entries
    entries_once = once_both q (map make_of made) (map put_of pieces) (made_once made fits.allowed fits.rising) (pieces_once pieces) (λ some. absurd (true≢false (sym some ∙ pieces_make_none pieces)))

    entries_new : is_made q entries ≡ true → has_own q before ≡ false
    entries_new some =
        let isnt : is_made q (map make_of made) ≡ true = elim (cases_Bool (is_made q (map make_of made))) [ inl is ↦ is | inr none ↦ absurd (true≢false (sym some ∙ made_both q (map make_of made) (map put_of pieces) none (pieces_make_none pieces))) ] in
        absent_still q before base (reads ∙ fits.new_files f (made_there made fits.allowed isnt))

    made_size : size_then q (map make_of made) (size (get image f)) ≡ size (get (ranges.with_made made image) f)
    made_size = sym (size-over (map make_of made) q (get image f) (made_fits made _)) ∙ ap size (laid_made made fits.allowed image)

    entries_fit : Fits q (size (get image f)) entries
    entries_fit = fits_both (map make_of made) (map put_of pieces) q (size (get image f)) (made_fits made _) (subst (λ k. Fits q k (map put_of pieces)) (sym made_size) (pieces_fit pieces allowed (ranges.with_made made image) fits.inside))

    entries_read : over entries q (get image f) ≡ get (ranges.over part image) f
    entries_read = over-append (map make_of made) (map put_of pieces) q (get image f) ∙ ap (over (map put_of pieces) q) (laid_made made fits.allowed image) ∙ laid_pieces pieces allowed (ranges.with_made made image)

    before_size : size_then q before (size base) ≡ size (get image f)
    before_size = sym (size-over before q base inside) ∙ ap size reads

    -- it may come next, and the file then reads the image with it
    pub may_come : MayCome name before base image part f
    may_come = record {
      once = once_both q before entries once entries_once entries_new;
      inside = fits_both before entries q (size base) inside (subst (λ k. Fits q k entries) (sym before_size) entries_fit);
      reads = over-append before entries q base ∙ ap (over entries q) reads ∙ entries_read;
    }
