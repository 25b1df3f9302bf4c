-- Which files are there, and how long, stays where pieces lie inside.
use Rattle.std.proofs.Common.{◌≡◌, inl, inr, ℕ, ◌+◌, ◌^◌, ◌<◌, ◌≤◌, Bool, true, false, cond, List, [], ◌∷◌, length, Option, Some, None, refl, sym, ◌∙◌, ap, subst, arith, lit<}
use Rattle.std.proofs.lemmas.Bool.{cases_Bool, eqb-true, ne_eqb}
use Rattle.std.proofs.lemmas.Bool.Decides.{nat_tests}
use Rattle.std.specs.Prelude.{◌==◌, ◌&&◌, unwrap_or, IsSome}
use Rattle.std.specs.Option.{option_map}
use Rattle.std.specs.List.{list_all}
use Rattle.std.specs.FinMap.{get, insert}
use Rattle.mm_bytes.specs.Files.{overwritten}
use Rattle.mm_ranges.specs.Places.{Range, is_covered}
use Rattle.mm_ranges.specs.Limits.{is_file, most_of, is_allowed, is_rising}
use Rattle.mm_ranges.specs.Overlay.{Image, bytes_at, laid, laid_over, with_made, SameOutside, FileSame, AreInside}
use Rattle.mm_ranges.specs.declared.part.Piece.{Piece}
use Rattle.mm_ranges.specs.declared.part.Made.{Made}
use Rattle.mm_bytes.proofs.Files.{length-overwritten}
use Rattle.mm_ranges.proofs.Overlaying.{get-laid}
use Rattle.mm_views.specs.Made.{is_made, AreNew}
use Rattle.mm_views.specs.State.{PiecesInside, FileAllowed, KeepsLimits}
use Rattle.mm_views.proofs.Making.{get-put, get-with_made, same_image, zeros_of}

-- the files have the same lengths
abbrev pub SameLengths : Image → Image → Type 0
SameLengths a b = (file : ℕ) → length (bytes_at a file) ≡ length (bytes_at b file)

-- ---- lengths

length_picked : (t : Bool) (a b c : Option (List ℕ)) → (t ≡ true → length (unwrap_or a []) ≡ length (unwrap_or b [])) → length (unwrap_or (cond t a b) []) ≡ length (unwrap_or b [])
length_picked true a b c f = f refl
length_picked false a b c f = refl

pub length-laid : (file at : ℕ) (bytes : List ℕ) (image : Image) → at + length bytes ≤ length (bytes_at image file) → SameLengths (laid file at bytes image) image
length-laid file at bytes image inside = λ q.
    ap (λ (o : Option (List ℕ)). length (unwrap_or o [])) (get-laid file at bytes image q)
    ∙ length_picked (q == file) _ (get image q) None (λ e. length-overwritten at bytes (bytes_at image file) ∙ omega arith ∙ ap (λ (f : ℕ). length (bytes_at image f)) (sym (eqb-true q file e)))

pub pieces_inside_same : (a b : Image) (ps : List Piece) → SameLengths a b → PiecesInside b ps → PiecesInside a ps
pieces_inside_same a b [] s h = tt
pieces_inside_same a b (p ∷ ps) s h = (h.0, subst (λ (n : ℕ). p.at + length p.bytes ≤ n) (sym (s p.file)) h.1, pieces_inside_same a b ps s h.2)

pub are_inside_same : (a b : Image) (rs : List Range) → SameLengths a b → AreInside b rs → AreInside a rs
are_inside_same a b [] s h = tt
are_inside_same a b (r ∷ rs) s h = (h.0, subst (λ (n : ℕ). r.1 + r.2 ≤ n) (sym (s r.0)) h.1, are_inside_same a b rs s h.2)

-- after one of them the others still lie inside
pub pieces_inside_rest : (p : Piece) (ps : List Piece) (image : Image) → PiecesInside image (p ∷ ps) → PiecesInside (laid p.file p.at p.bytes image) ps
pieces_inside_rest p ps image h = pieces_inside_same (laid p.file p.at p.bytes image) image ps (length-laid p.file p.at p.bytes image h.1) h.2

pub length_of_same : (p : ℕ → Bool) (a b : Option (List ℕ)) → FileSame p a b → length (unwrap_or a []) ≡ length (unwrap_or b [])
length_of_same p None None s = refl
length_of_same p None (Some b) s = absurd s
length_of_same p (Some a) None s = absurd s
length_of_same p (Some a) (Some b) s = s.0

pub same_lengths : (rs : List Range) (a b : Image) → SameOutside rs a b → SameLengths a b
same_lengths rs a b s = λ q. length_of_same (is_covered rs q) (get a q) (get b q) (s q)

-- ---- which files are there

pub none_of_same : (p : ℕ → Bool) (a b : Option (List ℕ)) → FileSame p a b → b ≡ None → a ≡ None
none_of_same p None b s e = refl
none_of_same p (Some a) None s e = absurd s
none_of_same p (Some a) (Some b) s e = absurd (some_none b e)
  where
    some_none : (b : List ℕ) → Some b ≡ None → ⊥
    some_none b e = cc

pub absent_same : (rs : List Range) (a b : Image) (file : ℕ) → SameOutside rs a b → get b file ≡ None → get a file ≡ None
absent_same rs a b file s e = none_of_same (is_covered rs file) (get a file) (get b file) (s file) e

-- a file that has bytes is there
pub some_bytes : (image : Image) (file n : ℕ) → 0 < n → n ≤ length (bytes_at image file) → get image file ≡ None → ⊥
some_bytes image file n some le e = let none = ap (λ (o : Option (List ℕ)). length (unwrap_or o [])) e in omega (arith, some, le, none)

pub some_file : (image : Image) (file n : ℕ) → 0 < n → n ≤ length (bytes_at image file) → IsSome (get image file)
some_file image file n some le = by_file (get image file) refl
  where
    by_file : (o : Option (List ℕ)) → get image file ≡ o → IsSome o
    by_file None e = absurd (some_bytes image file n some le e)
    by_file (Some b) e = refl

-- a piece that lies inside is in no absent file
pub other_file : (image : Image) (p : Piece) (ps : List Piece) (file : ℕ) → PiecesInside image (p ∷ ps) → get image file ≡ None → (p.file ≡ file → ⊥)
other_file image p ps file h none e = some_bytes image p.file (p.at + length p.bytes) (let some = h.0 in omega arith) h.1 (ap (get image) e ∙ none)

pub absent-laid : (p : Piece) (image : Image) (file : ℕ) → (p.file ≡ file → ⊥) → get (laid p.file p.at p.bytes image) file ≡ get image file
absent-laid p image file apart =
    get-laid p.file p.at p.bytes image file
    ∙ ap (λ t. cond t (Some (overwritten p.at p.bytes (bytes_at image p.file))) (get image file)) (ne_eqb file p.file (λ e. apart (sym e)))

pub absent-laid_over : (ps : List Piece) (image : Image) (file : ℕ) → PiecesInside image ps → get image file ≡ None → get (laid_over ps image) file ≡ None
absent-laid_over [] image file h none = none
absent-laid_over (p ∷ ps) image file h none =
    absent-laid_over ps (laid p.file p.at p.bytes image) file (pieces_inside_rest p ps image h) (absent-laid p image file (other_file image p ps file h none) ∙ none)

-- ---- a file is put in that was absent
other_bytes : (image : Image) (file q : ℕ) (bytes : List ℕ) → (q ≡ file → ⊥) → bytes_at (insert image file bytes) q ≡ bytes_at image q
other_bytes image file q bytes apart = ap (λ (o : Option (List ℕ)). unwrap_or o []) (get-put image file bytes q ∙ ap (λ t. cond t (Some bytes) (get image q)) (ne_eqb q file apart))

pub pieces_inside-put : (image : Image) (ps : List Piece) (file : ℕ) (bytes : List ℕ) → get image file ≡ None → PiecesInside image ps → PiecesInside (insert image file bytes) ps
pieces_inside-put image [] file bytes none h = tt
pieces_inside-put image (p ∷ ps) file bytes none h = (
  h.0,
  subst (λ (l : List ℕ). p.at + length p.bytes ≤ length l) (sym (other_bytes image file p.file bytes (other_file image p ps file h none))) h.1,
  pieces_inside-put image ps file bytes none h.2,
)

pub are_inside-put : (image : Image) (rs : List Range) (file : ℕ) (bytes : List ℕ) → get image file ≡ None → AreInside image rs → AreInside (insert image file bytes) rs
are_inside-put image [] file bytes none h = tt
are_inside-put image (r ∷ rs) file bytes none h = (
  h.0,
  subst (λ (l : List ℕ). r.1 + r.2 ≤ length l) (sym (other_bytes image file r.0 bytes (λ e. some_bytes image r.0 (r.1 + r.2) (let some = h.0 in omega arith) h.1 (ap (get image) e ∙ none)))) h.1,
  are_inside-put image rs file bytes none h.2,
)

laid-put : (p : Piece) (image : Image) (file : ℕ) (bytes : List ℕ) → (p.file ≡ file → ⊥) → laid p.file p.at p.bytes (insert image file bytes) ≡ insert (laid p.file p.at p.bytes image) file bytes
laid-put p image file bytes apart = same_image (laid p.file p.at p.bytes (insert image file bytes)) (insert (laid p.file p.at p.bytes image) file bytes) (λ q.
    get-laid p.file p.at p.bytes (insert image file bytes) q
    ∙ ap (λ (l : List ℕ). cond (q == p.file) (Some (overwritten p.at p.bytes l)) (get (insert image file bytes) q)) (other_bytes image file p.file bytes apart)
    ∙ ap (cond (q == p.file) (Some (overwritten p.at p.bytes (bytes_at image p.file)))) (get-put image file bytes q)
    ∙ swapped (q == p.file) (q == file) (Some (overwritten p.at p.bytes (bytes_at image p.file))) (Some bytes) (get image q) (λ a b. apart (sym (eqb-true q p.file a) ∙ eqb-true q file b))
    ∙ sym (get-put (laid p.file p.at p.bytes image) file bytes q ∙ ap (cond (q == file) (Some bytes)) (get-laid p.file p.at p.bytes image q)))
  where
    swapped : (t u : Bool) (x y z : Option (List ℕ)) → (t ≡ true → u ≡ true → ⊥) → cond t x (cond u y z) ≡ cond u y (cond t x z)
    swapped true true x y z f = absurd (f refl refl)
    swapped true false x y z f = refl
    swapped false true x y z f = refl
    swapped false false x y z f = refl

pub laid_over-put : (ps : List Piece) (image : Image) (file : ℕ) (bytes : List ℕ) → PiecesInside image ps → get image file ≡ None → laid_over ps (insert image file bytes) ≡ insert (laid_over ps image) file bytes
laid_over-put [] image file bytes h none = refl
laid_over-put (p ∷ ps) image file bytes h none =
    let apart = other_file image p ps file h none in
    ap (laid_over ps) (laid-put p image file bytes apart)
    ∙ laid_over-put ps (laid p.file p.at p.bytes image) file bytes (pieces_inside_rest p ps image h) (absent-laid p image file apart ∙ none)

-- ---- files are made that were absent
pub not_made : (image : Image) (ms : List Made) (file : ℕ) → AreNew image ms → (get image file ≡ None → ⊥) → is_made ms file ≡ false
not_made image ms file new_files there = elim (cases_Bool (is_made ms file)) [ inl made ↦ absurd (there (new_files file made)) | inr out ↦ out ]

pub are_inside-made : (image : Image) (ms : List Made) (rs : List Range) → is_rising ms ≡ true → AreNew image ms → AreInside image rs → AreInside (with_made ms image) rs
are_inside-made image ms [] h new_files inside = tt
are_inside-made image ms (r ∷ rs) h new_files inside =
    let out = not_made image ms r.0 new_files (some_bytes image r.0 (r.1 + r.2) (let some = inside.0 in omega arith) inside.1) in (
      inside.0,
      subst (λ (o : Option (List ℕ)). r.1 + r.2 ≤ length (unwrap_or o [])) (sym (get-with_made ms image r.0 h ∙ ap (λ t. cond t (Some (zeros_of ms r.0)) (get image r.0)) out)) inside.1,
      are_inside-made image ms rs h new_files inside.2,
    )

-- ---- limits

allowed_same : (file : ℕ) (p : ℕ → Bool) (a b : Option (List ℕ)) → FileSame p a b → FileAllowed file a → FileAllowed file b
allowed_same file p None None s h = tt
allowed_same file p None (Some b) s h = absurd s
allowed_same file p (Some a) None s h = tt
allowed_same file p (Some a) (Some b) s h = (h.0, subst (λ n. n ≤ most_of file) s.0 h.1)

pub limits_same : (rs : List Range) (a b : Image) → SameOutside rs a b → KeepsLimits a → KeepsLimits b
limits_same rs a b s h file = allowed_same file (is_covered rs file) (get a file) (get b file) (s file) (h file)

pub limits_put : (image : Image) (file : ℕ) (bytes : List ℕ) → KeepsLimits image → is_file file ≡ true → length bytes ≤ most_of file → KeepsLimits (insert image file bytes)
limits_put image file bytes h is le q = subst (FileAllowed q) (sym (get-put image file bytes q)) (by_test (q == file) refl)
  where
    by_test : (t : Bool) → (q == file) ≡ t → FileAllowed q (cond t (Some bytes) (get image q))
    by_test true e = let same : q ≡ file = eqb-true q file e in (ap is_file same ∙ is, subst (λ n. length bytes ≤ most_of n) (sym same) le)
    by_test false e = h q

most_small : (file n : ℕ) → n ≤ most_of file → n < 2 ^ 32
most_small file n le = grind (arith, nat_tests)

pub small : (image : Image) (file : ℕ) → KeepsLimits image → length (bytes_at image file) < 2 ^ 32
small image file h = by_file (get image file) (h file)
  where
    by_file : (o : Option (List ℕ)) → FileAllowed file o → length (unwrap_or o []) < 2 ^ 32
    by_file None a = lit< tt
    by_file (Some b) a = most_small file (length b) a.1

-- a range that lies inside its file is allowed
pub allowed_inside : (image : Image) (rs : List Range) → KeepsLimits image → AreInside image rs → list_all is_allowed rs ≡ true
allowed_inside image [] h inside = refl
allowed_inside image (r ∷ rs) h inside = both (is_allowed r) (list_all is_allowed rs) (by_file r (get image r.0) (h r.0) inside.0 inside.1) (allowed_inside image rs h inside.2)
  where
    both : (a b : Bool) → a ≡ true → b ≡ true → (a && b) ≡ true
    both true true e f = refl
    both true false e f = f
    both false b e f = e

    fits : (r : Range) (n : ℕ) → is_file r.0 ≡ true → n ≤ most_of r.0 → r.1 + r.2 ≤ n → is_allowed r ≡ true
    fits r n is le inside = grind (arith, nat_tests)

    by_file : (r : Range) (o : Option (List ℕ)) → FileAllowed r.0 o → 0 < r.2 → r.1 + r.2 ≤ length (unwrap_or o []) → is_allowed r ≡ true
    by_file r None a some le = absurd (omega arith)
    by_file r (Some b) a some le = fits r (length b) a.0 a.1 le

-- what the length of a file says
pub len_told : (o : Option (List ℕ)) (n : ℕ) → Some n ≡ option_map length o → n ≡ length (unwrap_or o [])
len_told None n e = cc
len_told (Some b) n e = cc
