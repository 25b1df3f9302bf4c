-- Pieces laid over images that agree but at some places.
use Rattle.std.proofs.Common.{◌≡◌, inl, inr, ℕ, ◌+◌, ◌<◌, ◌≤◌, min, max, Bool, true, false, cond, List, [], ◌∷◌, length, drop, Option, Some, None, refl, sym, ◌∙◌, ap, subst, arith}
use Rattle.std.proofs.lemmas.Bool.{cases_Bool, or_from, both_ways, eqb-true, eqb-false, ne_eqb, eq-eqb, cond_both}
use Rattle.std.proofs.lemmas.Bool.Decides.{nat_tests}
use Rattle.std.proofs.lemmas.List.{length-take, length-drop, ext_get_or}
use Rattle.std.specs.Prelude.{nat_le, nat_lt, ◌==◌, ◌&&◌, ◌||◌, unwrap_or}
use Rattle.std.specs.Cmp.{nat_cmp_total, unsigned_tied}
use Rattle.std.specs.FinMap.{get, get-insert, same_map, nat_cmp-IsAntisymmetric}
use Rattle.mm_bytes.specs.Files.{overwritten, read_from}
use Rattle.mm_bytes.proofs.Files.{get_or-overwritten, get_or-overwritten_in, length-overwritten, overwritten_own, read_from-overwritten}
use Rattle.mm_ranges.specs.Places.{Range, is_covered, Covers}
use Rattle.mm_ranges.specs.Overlay.{Image, bytes_at, laid, laid_over, pieces_of, ranges_of, FileSame, SameOutside, IsInside, AreInside}
use Rattle.mm_ranges.specs.declared.part.Piece.{Piece}

-- ---- files

pub get-laid : (file at : ℕ) (bytes : List ℕ) (image : Image) (q : ℕ) → get (laid file at bytes image) q ≡ cond (q == file) (Some (overwritten at bytes (bytes_at image file))) (get image q)
get-laid file at bytes image q = get-insert nat_cmp_total image file (overwritten at bytes (bytes_at image file)) q ∙ ap (λ b. cond b (Some (overwritten at bytes (bytes_at image file))) (get image q)) (unsigned_tied q file)

-- images that agree everywhere are one
file_same_nowhere : (a b : Option (List ℕ)) → FileSame (λ _. false) a b → a ≡ b
file_same_nowhere None None s = refl
file_same_nowhere None (Some b) s = absurd s
file_same_nowhere (Some a) None s = absurd s
file_same_nowhere (Some a) (Some b) s = ap Some (ext_get_or 0 a b s.0 (λ i lt. s.1 i refl))

pub same_outside_none : (a b : Image) → SameOutside [] a b → a ≡ b
same_outside_none a b s = same_map nat_cmp_total nat_cmp-IsAntisymmetric a b (λ q. file_same_nowhere (get a q) (get b q) (s q))

file_same_weaker : (p q : ℕ → Bool) (a b : Option (List ℕ)) → ((i : ℕ) → q i ≡ false → p i ≡ false) → FileSame p a b → FileSame q a b
file_same_weaker p q None None f s = tt
file_same_weaker p q None (Some b) f s = s
file_same_weaker p q (Some a) None f s = s
file_same_weaker p q (Some a) (Some b) f s = (s.0, λ i out. s.1 i (f i out))

file_same_trans : (p q r : ℕ → Bool) (a b c : Option (List ℕ)) → ((i : ℕ) → r i ≡ false → (p i ≡ false) × (q i ≡ false)) → FileSame p a b → FileSame q b c → FileSame r a c
file_same_trans p q r None None None f s t = tt
file_same_trans p q r None None (Some c) f s t = t
file_same_trans p q r None (Some b) c f s t = absurd s
file_same_trans p q r (Some a) None c f s t = absurd s
file_same_trans p q r (Some a) (Some b) None f s t = t
file_same_trans p q r (Some a) (Some b) (Some c) f s t = (s.0 ∙ t.0, λ i out. let parts = f i out in s.1 i parts.0 ∙ t.1 i parts.1)

file_same_sym : (p : ℕ → Bool) (a b : Option (List ℕ)) → FileSame p a b → FileSame p b a
file_same_sym p None None s = tt
file_same_sym p None (Some b) s = s
file_same_sym p (Some a) None s = s
file_same_sym p (Some a) (Some b) s = (sym s.0, λ i out. sym (s.1 i out))

pub same_outside_trans : (rs ss ts : List Range) (a b c : Image) → ((f i : ℕ) → is_covered ts f i ≡ false → (is_covered rs f i ≡ false) × (is_covered ss f i ≡ false)) → SameOutside rs a b → SameOutside ss b c → SameOutside ts a c
same_outside_trans rs ss ts a b c f s t = λ q. file_same_trans (is_covered rs q) (is_covered ss q) (is_covered ts q) (get a q) (get b q) (get c q) (f q) (s q) (t q)

pub same_outside_weaker : (rs ss : List Range) (a b : Image) → ((f i : ℕ) → is_covered ss f i ≡ false → is_covered rs f i ≡ false) → SameOutside rs a b → SameOutside ss a b
same_outside_weaker rs ss a b f s = λ q. file_same_weaker (is_covered rs q) (is_covered ss q) (get a q) (get b q) (f q) (s q)

file_same_refl : (p : ℕ → Bool) (a : Option (List ℕ)) → FileSame p a a
file_same_refl p None = tt
file_same_refl p (Some a) = (refl, λ i out. refl)

pub same_outside_refl : (rs : List Range) (a : Image) → SameOutside rs a a
same_outside_refl rs a = λ q. file_same_refl (is_covered rs q) (get a q)

pub same_outside_sym : (rs : List Range) (a b : Image) → SameOutside rs a b → SameOutside rs b a
same_outside_sym rs a b s = λ q. file_same_sym (is_covered rs q) (get a q) (get b q) (s q)

-- ---- the same bytes laid over both take their places out of the difference

bytes_same : (p : ℕ → Bool) (at : ℕ) (bytes : List ℕ) (a b : Option (List ℕ)) → FileSame (λ i. (nat_le at i && nat_lt i (at + length bytes)) || p i) a b
    → FileSame p (Some (overwritten at bytes (unwrap_or a []))) (Some (overwritten at bytes (unwrap_or b [])))
bytes_same p at bytes None None s = (refl, λ i out. refl)
bytes_same p at bytes None (Some b) s = absurd s
bytes_same p at bytes (Some a) None s = absurd s
bytes_same p at bytes (Some a) (Some b) s = (
  length-overwritten at bytes a ∙ ap (λ n. max n (at + length bytes)) s.0 ∙ sym (length-overwritten at bytes b),
  λ i out. elim (cases_Bool (nat_le at i && nat_lt i (at + length bytes))) [
    | inl within ↦
        let from : at ≤ i = grind (arith, nat_tests, within) in
        let to : i < at + length bytes = grind (arith, nat_tests, within) in
        get_or-overwritten_in at bytes a i from to ∙ sym (get_or-overwritten_in at bytes b i from to)
    | inr outside ↦ get_or-overwritten at bytes a i outside ∙ s.1 i (or_from _ (p i) outside out) ∙ sym (get_or-overwritten at bytes b i outside)
  ],
)

pick : (p : ℕ → Bool) (t : Bool) (x y x' y' : Option (List ℕ)) → (t ≡ true → FileSame p x y) → (t ≡ false → FileSame p x' y') → FileSame p (cond t x x') (cond t y y')
pick p true x y x' y' f g = f refl
pick p false x y x' y' f g = g refl

other_file : (q file : ℕ) → (q == file) ≡ false → (file == q) ≡ false
other_file q file e = ne_eqb file q (λ h. eqb-false q file e (sym h))

out_of_both : (t w c : Bool) → (w || c) ≡ false → (t && w || c) ≡ false
out_of_both true w c e = e
out_of_both false true c e = absurd (both_ways true e refl)
out_of_both false false c e = e

out_of_other : (t w c : Bool) → t ≡ false → c ≡ false → (t && w || c) ≡ false
out_of_other true w c e f = absurd (both_ways true e refl)
out_of_other false w c e f = f

pub laid_same : (rs : List Range) (file at : ℕ) (bytes : List ℕ) (a b : Image) → SameOutside ((file, at, length bytes) ∷ rs) a b → SameOutside rs (laid file at bytes a) (laid file at bytes b)
laid_same rs file at bytes a b s = λ q. subst (λ (o : Option (List ℕ)). FileSame (is_covered rs q) o (get (laid file at bytes b) q)) (sym (get-laid file at bytes a q))
    (subst (λ (o : Option (List ℕ)). FileSame (is_covered rs q) (cond (q == file) (Some (overwritten at bytes (bytes_at a file))) (get a q)) o) (sym (get-laid file at bytes b q)) (at_file q))
  where
    at_file : (q : ℕ) → FileSame (is_covered rs q) (cond (q == file) (Some (overwritten at bytes (bytes_at a file))) (get a q)) (cond (q == file) (Some (overwritten at bytes (bytes_at b file))) (get b q))
    at_file q = pick (is_covered rs q) (q == file) (Some (overwritten at bytes (bytes_at a file))) (Some (overwritten at bytes (bytes_at b file))) (get a q) (get b q)
        (λ e. subst (λ (f : ℕ). FileSame (is_covered rs f) (Some (overwritten at bytes (bytes_at a file))) (Some (overwritten at bytes (bytes_at b file)))) (sym (eqb-true q file e))
        (bytes_same (is_covered rs file) at bytes (get a file) (get b file)
        (file_same_weaker (is_covered ((file, at, length bytes) ∷ rs) file) (λ i. (nat_le at i && nat_lt i (at + length bytes)) || is_covered rs file i) (get a file) (get b file)
        (λ i out. out_of_both (file == file) (nat_le at i && nat_lt i (at + length bytes)) (is_covered rs file i) out) (s file))))
        (λ e. file_same_weaker (is_covered ((file, at, length bytes) ∷ rs) q) (is_covered rs q) (get a q) (get b q)
        (λ i out. out_of_other (file == q) (nat_le at i && nat_lt i (at + length bytes)) (is_covered rs q i) (other_file q file e) out) (s q))

-- pieces laid over two images that agree but at their places make one
pub laid_over_same : (pieces : List Piece) (a b : Image) → SameOutside (ranges_of pieces) a b → laid_over pieces a ≡ laid_over pieces b
laid_over_same [] a b s = same_outside_none a b s
laid_over_same (piece ∷ pieces) a b s = laid_over_same pieces _ _ (laid_same (ranges_of pieces) piece.file piece.at piece.bytes a b s)

-- ---- an image's own bytes, laid over it

own_file : (o : Option (List ℕ)) (at len : ℕ) → 0 < len → at + len ≤ length (unwrap_or o []) → Some (overwritten at (read_from at len (unwrap_or o [])) (unwrap_or o [])) ≡ o
own_file None at len some inside = absurd (omega arith)
own_file (Some old) at len some inside = ap Some (overwritten_own at len old inside)

cond_same : (t : Bool) (x y : Option (List ℕ)) → (t ≡ true → x ≡ y) → cond t x y ≡ y
cond_same true x y f = f refl
cond_same false x y f = refl

pub laid_own : (r : Range) (image : Image) → 0 < r.2 → IsInside image r → laid r.0 r.1 (read_from r.1 r.2 (bytes_at image r.0)) image ≡ image
laid_own r image some inside = same_map nat_cmp_total nat_cmp-IsAntisymmetric _ _ (λ q.
    get-laid r.0 r.1 (read_from r.1 r.2 (bytes_at image r.0)) image q
    ∙ cond_same (q == r.0) _ _ (λ e. own_file (get image r.0) r.1 r.2 some inside ∙ ap (get image) (sym (eqb-true q r.0 e))))

pub laid_over_own : (rs : List Range) (image : Image) → AreInside image rs → laid_over (pieces_of rs image) image ≡ image
laid_over_own [] image h = refl
laid_over_own (r ∷ rs) image h = ap (laid_over (pieces_of rs image)) (laid_own r image h.0 h.1) ∙ laid_over_own rs image h.2

pub ranges_of-pieces_of : (rs : List Range) (image : Image) → AreInside image rs → ranges_of (pieces_of rs image) ≡ rs
ranges_of-pieces_of [] image h = refl
ranges_of-pieces_of (r ∷ rs) image h =
    let count : length (read_from r.1 r.2 (bytes_at image r.0)) ≡ r.2 = length-take r.2 (drop r.1 (bytes_at image r.0)) ∙ inside_count r image h.1 in
    ap (λ (n : ℕ). (r.0, r.1, n) ∷ ranges_of (pieces_of rs image)) count ∙ ap (λ (xs : List Range). r ∷ xs) (ranges_of-pieces_of rs image h.2)
  where
    inside_count : (r : Range) (image : Image) → IsInside image r → min r.2 (length (drop r.1 (bytes_at image r.0))) ≡ r.2
    inside_count r image h = omega (arith, length-drop r.1 (bytes_at image r.0), h)

-- What differs only at these ranges is made whole by the bytes there.
pub laid_whole : (rs : List Range) (a b : Image) → AreInside b rs → SameOutside rs a b → laid_over (pieces_of rs b) a ≡ b
laid_whole rs a b h s = laid_over_same (pieces_of rs b) a b (subst (λ (xs : List Range). SameOutside xs a b) (sym (ranges_of-pieces_of rs b h)) s) ∙ laid_over_own rs b h

-- ---- a write at covered places

written_file : (p : ℕ → Bool) (at : ℕ) (bytes : List ℕ) (o : Option (List ℕ)) → 0 < length bytes → at + length bytes ≤ length (unwrap_or o []) → ((i : ℕ) → at ≤ i → i < at + length bytes → p i ≡ true)
    → FileSame p o (Some (overwritten at bytes (unwrap_or o [])))
written_file p at bytes None some inside covered = absurd (omega arith)
written_file p at bytes (Some old) some inside covered = (
  sym (length-overwritten at bytes old ∙ omega arith),
  λ i out. elim (cases_Bool (nat_le at i && nat_lt i (at + length bytes))) [
    | inl within ↦ absurd (both_ways (p i) out (covered i (grind (arith, nat_tests, within)) (grind (arith, nat_tests, within))))
    | inr outside ↦ sym (get_or-overwritten at bytes old i outside)
  ],
)

pub laid_covered : (rs : List Range) (file at : ℕ) (bytes : List ℕ) (image : Image) → 0 < length bytes → IsInside image (file, at, length bytes) → Covers rs file at (length bytes) → SameOutside rs image (laid file at bytes image)
laid_covered rs file at bytes image some inside covers = λ q. subst (λ (o : Option (List ℕ)). FileSame (is_covered rs q) (get image q) o) (sym (get-laid file at bytes image q)) (at_file q)
  where
    at_file : (q : ℕ) → FileSame (is_covered rs q) (get image q) (cond (q == file) (Some (overwritten at bytes (bytes_at image file))) (get image q))
    at_file q = cond_both (q == file) (Some (overwritten at bytes (bytes_at image file))) (get image q) (λ (o : Option (List ℕ)). FileSame (is_covered rs q) (get image q) o)
        (λ e. subst (λ (f : ℕ). FileSame (is_covered rs f) (get image f) (Some (overwritten at bytes (bytes_at image file)))) (sym (eqb-true q file e)) (written_file (is_covered rs file) at bytes (get image file) some inside covers))
        (λ e. file_same_refl (is_covered rs q) (get image q))

-- ---- what was laid is read

pub bytes_at-laid : (file at : ℕ) (bytes : List ℕ) (image : Image) → bytes_at (laid file at bytes image) file ≡ overwritten at bytes (bytes_at image file)
bytes_at-laid file at bytes image = ap (λ (o : Option (List ℕ)). unwrap_or o []) (get-laid file at bytes image file) ∙ ap (λ b. unwrap_or (cond b (Some (overwritten at bytes (bytes_at image file))) (get image file)) []) (eq-eqb file file refl)

pub read-laid : (file at : ℕ) (bytes : List ℕ) (image : Image) → read_from at (length bytes) (bytes_at (laid file at bytes image) file) ≡ bytes
read-laid file at bytes image = ap (read_from at (length bytes)) (bytes_at-laid file at bytes image) ∙ read_from-overwritten at bytes (bytes_at image file)
