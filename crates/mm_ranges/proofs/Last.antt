-- Pieces laid over one after another are laid over place by place.
use Rattle.std.proofs.Common.{◌≡◌, ℕ, ◌+◌, ◌-◌, max, Bool, true, false, cond, List, [], ◌∷◌, length, get_or, Option, Some, None, refl, sym, ◌∙◌, ap, arith}
use Rattle.std.specs.Prelude.{◌&&◌, ◌||◌, nat_le, nat_lt, ◌==◌, unwrap_or, is_some}
use Rattle.std.specs.Option.{option_or}
use Rattle.std.specs.Cmp.{nat_cmp_total}
use Rattle.std.specs.FinMap.{get, same_map, nat_cmp-IsAntisymmetric}
use Rattle.std.proofs.lemmas.Bool.{eqb-true, eq-eqb}
use Rattle.std.proofs.lemmas.Bool.Decides.{nat_tests}
use Rattle.std.proofs.lemmas.List.{ext_get_or}
use Rattle.mm_bytes.specs.Files.{overwritten}
use Rattle.mm_ranges.specs.Places.{is_in}
use Rattle.mm_ranges.specs.Overlay.{Image, bytes_at, byte_at, laid, laid_over, last_byte, last_end, has_piece, LiesOver}
use Rattle.mm_ranges.specs.declared.part.Piece.{Piece}
use Rattle.mm_bytes.proofs.Files.{get_or-overwritten, get_or-overwritten_in, length-overwritten}
use Rattle.mm_ranges.proofs.Overlaying.{get-laid}

module _ (p : Piece) (image : Image) where
  own : Bool → ℕ → Option ℕ
  own t at = cond t (Some (get_or p.bytes (at - p.at) 0)) None

  bytes-laid : (file : ℕ) → bytes_at (laid p.file p.at p.bytes image) file ≡ cond (file == p.file) (overwritten p.at p.bytes (bytes_at image p.file)) (bytes_at image file)
  bytes-laid file = ap (λ (o : Option (List ℕ)). unwrap_or o []) (get-laid p.file p.at p.bytes image file) ∙ into (file == p.file)
    where
      into : (t : Bool) → unwrap_or (cond t (Some (overwritten p.at p.bytes (bytes_at image p.file))) (get image file)) [] ≡ cond t (overwritten p.at p.bytes (bytes_at image p.file)) (bytes_at image file)
      into true = refl
      into false = refl

  -- the bytes of a file after the piece is laid over it
  byte-laid : (file at : ℕ) → byte_at (laid p.file p.at p.bytes image) file at ≡ unwrap_or (cond (is_in file at (p.file, p.at, length p.bytes)) (Some (get_or p.bytes (at - p.at) 0)) None) (byte_at image file at)
  byte-laid file at = ap (λ (l : List ℕ). get_or l at 0) (bytes-laid file) ∙ by_file (file == p.file) refl
    where
      here : (file == p.file) ≡ true → is_in file at (p.file, p.at, length p.bytes) ≡ (nat_le p.at at && nat_lt at (p.at + length p.bytes))
      here e = ap (λ b. b && (nat_le p.at at && nat_lt at (p.at + length p.bytes))) (eq-eqb p.file file (sym (eqb-true file p.file e)))

      elsewhere : (file == p.file) ≡ false → is_in file at (p.file, p.at, length p.bytes) ≡ false
      elsewhere e = other p.file file at p.at (length p.bytes) e
        where
          other : (f q i a n : ℕ) → (q == f) ≡ false → is_in q i (f, a, n) ≡ false
          other f q i a n e = grind (arith, nat_tests)

      by_place : (t : Bool) → (nat_le p.at at && nat_lt at (p.at + length p.bytes)) ≡ t
          → get_or (overwritten p.at p.bytes (bytes_at image p.file)) at 0 ≡ unwrap_or (cond t (Some (get_or p.bytes (at - p.at) 0)) None) (get_or (bytes_at image p.file) at 0)
      by_place true e = get_or-overwritten_in p.at p.bytes (bytes_at image p.file) at (grind (arith, nat_tests, e)) (grind (arith, nat_tests, e))
      by_place false e = get_or-overwritten p.at p.bytes (bytes_at image p.file) at e

      by_file : (t : Bool) → (file == p.file) ≡ t
          → get_or (cond t (overwritten p.at p.bytes (bytes_at image p.file)) (bytes_at image file)) at 0 ≡ unwrap_or (cond (is_in file at (p.file, p.at, length p.bytes)) (Some (get_or p.bytes (at - p.at) 0)) None) (byte_at image file at)
      by_file true e =
          by_place (nat_le p.at at && nat_lt at (p.at + length p.bytes)) refl
          ∙ ap (λ b. unwrap_or (cond b (Some (get_or p.bytes (at - p.at) 0)) None) (get_or (bytes_at image p.file) at 0)) (sym (here e))
          ∙ ap (λ f. unwrap_or (cond (is_in file at (p.file, p.at, length p.bytes)) (Some (get_or p.bytes (at - p.at) 0)) None) (byte_at image f at)) (sym (eqb-true file p.file e))
      by_file false e = ap (λ b. unwrap_or (cond b (Some (get_or p.bytes (at - p.at) 0)) None) (byte_at image file at)) (sym (elsewhere e))

  length-laid_file : (file : ℕ) → length (bytes_at (laid p.file p.at p.bytes image) file) ≡ max (length (bytes_at image file)) (cond (p.file == file) (p.at + length p.bytes) 0)
  length-laid_file file = ap (λ (l : List ℕ). length l) (bytes-laid file) ∙ by_file (file == p.file) refl
    where
      turned : (a b : ℕ) (t : Bool) → (a == b) ≡ t → (b == a) ≡ t
      turned a b true e = grind (arith, nat_tests)
      turned a b false e = grind (arith, nat_tests)

      by_file : (t : Bool) → (file == p.file) ≡ t
          → length (cond t (overwritten p.at p.bytes (bytes_at image p.file)) (bytes_at image file)) ≡ max (length (bytes_at image file)) (cond (p.file == file) (p.at + length p.bytes) 0)
      by_file true e =
          length-overwritten p.at p.bytes (bytes_at image p.file)
          ∙ ap (λ f. max (length (bytes_at image f)) (p.at + length p.bytes)) (sym (eqb-true file p.file e))
          ∙ ap (λ b. max (length (bytes_at image file)) (cond b (p.at + length p.bytes) 0)) (sym (turned file p.file true e))
      by_file false e = zero_max (length (bytes_at image file)) ∙ ap (λ b. max (length (bytes_at image file)) (cond b (p.at + length p.bytes) 0)) (sym (turned file p.file false e))
        where
          zero_max : (n : ℕ) → n ≡ max n 0
          zero_max n = omega arith

  there-laid : (file : ℕ) → is_some (get (laid p.file p.at p.bytes image) file) ≡ (p.file == file || is_some (get image file))
  there-laid file = ap (λ (o : Option (List ℕ)). is_some o) (get-laid p.file p.at p.bytes image file) ∙ by_file (file == p.file) (p.file == file) (turned file p.file)
    where
      turned : (a b : ℕ) → (a == b) ≡ (b == a)
      turned a b = grind (arith, nat_tests)

      by_file : (t u : Bool) → t ≡ u → is_some (cond t (Some (overwritten p.at p.bytes (bytes_at image p.file))) (get image file)) ≡ (u || is_some (get image file))
      by_file true true e = refl
      by_file true false e = cc
      by_file false true e = cc
      by_file false false e = refl

-- Pieces laid over one after another: the last that has a place decides.
pub laid_over_lies : (pieces : List Piece) (image : Image) → LiesOver pieces image (laid_over pieces image)
laid_over_lies [] image = record { bytes = λ file at. refl; lengths = λ file. zero_max (length (bytes_at image file)); files = λ file. refl }
  where
    zero_max : (n : ℕ) → n ≡ max n 0
    zero_max n = omega arith
laid_over_lies (p ∷ pieces) image =
    let more = laid_over_lies pieces (laid p.file p.at p.bytes image) in
    record {
      bytes = λ file at. more.bytes file at ∙ ap (unwrap_or (last_byte pieces file at)) (byte-laid p image file at) ∙ chosen (last_byte pieces file at) (cond (is_in file at (p.file, p.at, length p.bytes)) (Some (get_or p.bytes (at - p.at) 0)) None) (byte_at image file at);
      lengths = λ file. more.lengths file ∙ ap (λ n. max n (last_end pieces file)) (length-laid_file p image file) ∙ max_assoc (length (bytes_at image file)) (cond (p.file == file) (p.at + length p.bytes) 0) (last_end pieces file);
      files = λ file. more.files file ∙ ap (λ b. has_piece pieces file || b) (there-laid p image file) ∙ or-swap (has_piece pieces file) (p.file == file) (is_some (get image file));
    }
  where
    chosen : (o q : Option ℕ) (n : ℕ) → unwrap_or o (unwrap_or q n) ≡ unwrap_or (option_or o q) n
    chosen None q n = refl
    chosen (Some x) q n = refl

    max_assoc : (a b c : ℕ) → max (max a b) c ≡ max a (max b c)
    max_assoc a b c = omega arith

    or-swap : (a b c : Bool) → (a || (b || c)) ≡ ((b || a) || c)
    or-swap true true c = refl
    or-swap true false c = refl
    or-swap false true c = refl
    or-swap false false c = refl

same_file : (a b : Option (List ℕ)) → is_some a ≡ is_some b → length (unwrap_or a []) ≡ length (unwrap_or b []) → ((at : ℕ) → get_or (unwrap_or a []) at 0 ≡ get_or (unwrap_or b []) at 0) → a ≡ b
same_file None None s l h = refl
same_file None (Some b) s l h = cc
same_file (Some a) None s l h = cc
same_file (Some a) (Some b) s l h = ap Some (ext_get_or 0 a b l (λ i lt. h i))

-- No other image is so.
pub lies_over_one : (pieces : List Piece) (image new : Image) → LiesOver pieces image new → new ≡ laid_over pieces image
lies_over_one pieces image new h =
    let is = laid_over_lies pieces image in
    same_map nat_cmp_total nat_cmp-IsAntisymmetric new (laid_over pieces image) (λ file.
    same_file (get new file) (get (laid_over pieces image) file) (h.files file ∙ sym (is.files file)) (h.lengths file ∙ sym (is.lengths file)) (λ at. h.bytes file at ∙ sym (is.bytes file at)))
