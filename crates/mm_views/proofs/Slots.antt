-- What the files in slots are as an image.
use Rattle.std.proofs.Common.{◌≡◌, ℕ, zero, suc, ◌+◌, ◌<◌, true, false, cond, List, [], ◌∷◌, length, get_or, Option, Some, None, refl, sym, ◌∙◌, ap, arith, inl, inr}
use Rattle.std.proofs.Math.ListN.{set}
use Rattle.std.proofs.lemmas.List.{get_or-set_same, get_or-set_other, length-set}
use Rattle.std.proofs.lemmas.Bool.{cases_Bool, cases_eq, eq-eqb, ne_eqb, both_ways, false≢true, cond-true, cond-false}
use Rattle.std.proofs.lemmas.Bool.Decides.{nat_tests}
use Rattle.std.specs.Prelude.{◌==◌, IsSome, unwrap_or}
use Rattle.std.specs.Ordering.{nat_cmp}
use Rattle.std.specs.Cmp.{nat_cmp_total, unsigned_tied}
use Rattle.std.specs.FinMap.{get, insert, remove, get-insert, get-remove, get-empty, same_map, nat_cmp-IsAntisymmetric}
use Rattle.mm_ranges.specs.Limits.{is_file}
use Rattle.mm_bytes.specs.Files.{overwritten}
use Rattle.mm_ranges.specs.Overlay.{Image, laid}
use Rattle.mm_views.specs.Files.{number_of, slot_of, with_slot, image_from, image_of}

plus_zero : (i : ℕ) → i + 0 ≡ i
plus_zero i = omega arith

zero_plus : (i : ℕ) → 0 + i ≡ i
zero_plus i = omega arith

plus_suc : (i k : ℕ) → i + suc k ≡ suc i + k
plus_suc i k = omega arith

rising : (i : ℕ) → number_of i < number_of (suc i)
rising i = grind (arith, nat_tests)

later : (i k : ℕ) → number_of i < number_of (i + suc k)
later i k = grind (arith, nat_tests)

pub number_of-slot_of : (file : ℕ) → is_file file ≡ true → number_of (slot_of file) ≡ file
number_of-slot_of file h = grind (arith, nat_tests)

pub slot_bound : (file : ℕ) → slot_of file < 9
slot_bound file = grind (arith, nat_tests)

-- ---- a slot more
with_slot-other : (file q : ℕ) (o : Option (List ℕ)) (image : Image) → (q ≡ file → ⊥) → get (with_slot file o image) q ≡ get image q
with_slot-other file q None image apart = refl
with_slot-other file q (Some b) image apart =
    get-insert nat_cmp_total image file b q ∙ ap (λ t. cond t (Some b) (get image q)) (unsigned_tied q file ∙ ne_eqb q file apart)

with_slot-same : (file : ℕ) (o : Option (List ℕ)) (image : Image) → get image file ≡ None → get (with_slot file o image) file ≡ o
with_slot-same file None image none = none
with_slot-same file (Some b) image none =
    get-insert nat_cmp_total image file b file ∙ ap (λ t. cond t (Some b) (get image file)) (unsigned_tied file file ∙ eq-eqb file file refl)

-- ---- what an image has of each file
below : (i : ℕ) (files : List (Option (List ℕ))) (q : ℕ) → q < number_of i → get (image_from i files) q ≡ None
below i [] q lt = get-empty nat_cmp q
below i (f ∷ files) q lt =
    with_slot-other (number_of i) q f (image_from (suc i) files) (λ e. absurd (omega (arith, lt, e)))
    ∙ below (suc i) files q (let r = rising i in omega arith)

at_slot : (i : ℕ) (files : List (Option (List ℕ))) (k : ℕ) → get (image_from i files) (number_of (i + k)) ≡ get_or files k None
at_slot i [] k = get-empty nat_cmp (number_of (i + k))
at_slot i (f ∷ files) zero =
    ap (λ n. get (image_from i (f ∷ files)) (number_of n)) (plus_zero i)
    ∙ with_slot-same (number_of i) f (image_from (suc i) files) (below (suc i) files (number_of i) (rising i))
at_slot i (f ∷ files) (suc k) =
    with_slot-other (number_of i) (number_of (i + suc k)) f (image_from (suc i) files) (λ e. let lt = later i k in absurd (omega (arith, e)))
    ∙ ap (λ n. get (image_from (suc i) files) (number_of n)) (plus_suc i k) ∙ at_slot (suc i) files k

no_slot : (i : ℕ) (files : List (Option (List ℕ))) (q : ℕ) → ((k : ℕ) → k < length files → number_of (i + k) ≡ q → ⊥) → get (image_from i files) q ≡ None
no_slot i [] q apart = get-empty nat_cmp q
no_slot i (f ∷ files) q apart =
    with_slot-other (number_of i) q f (image_from (suc i) files) (λ e. apart 0 (omega arith) (ap number_of (plus_zero i) ∙ sym e))
    ∙ no_slot (suc i) files q (λ k lt e. apart (suc k) (omega arith) (ap number_of (plus_suc i k) ∙ e))

pub get-image_of : (files : List (Option (List ℕ))) (file : ℕ) → is_file file ≡ true → get (image_of files) file ≡ get_or files (slot_of file) None
get-image_of files file h = ap (get (image_of files)) (sym (ap number_of (zero_plus (slot_of file)) ∙ number_of-slot_of file h)) ∙ at_slot 0 files (slot_of file)

no_number : (file k : ℕ) → is_file file ≡ false → k < 9 → number_of (0 + k) ≡ file → ⊥
no_number file k h lt e = grind (arith, nat_tests)

pub get-no_file : (files : List (Option (List ℕ))) (file : ℕ) → length files ≡ 9 → is_file file ≡ false → get (image_of files) file ≡ None
get-no_file files file nine h = no_slot 0 files file (λ k lt e. no_number file k h (omega (arith, nine, lt)) e)

-- ---- a slot is set
slots_apart : (file q : ℕ) → is_file file ≡ true → is_file q ≡ true → (q ≡ file → ⊥) → slot_of q ≡ slot_of file → ⊥
slots_apart file q h k apart e = apart (sym (number_of-slot_of q k) ∙ ap number_of e ∙ number_of-slot_of file h)

get-set : (files : List (Option (List ℕ))) (file q : ℕ) (o : Option (List ℕ)) → length files ≡ 9 → is_file file ≡ true
    → get (image_of (set files (slot_of file) o)) q ≡ cond (q == file) o (get (image_of files) q)
get-set files file q o nine h = elim (cases_Bool (is_file q)) [
  | inl k ↦ elim (cases_eq q file) [
    | inl e ↦
        get-image_of (set files (slot_of file) o) q k ∙ ap (λ n. get_or (set files (slot_of file) o) (slot_of n) None) e
        ∙ get_or-set_same files (slot_of file) o None (let lt = slot_bound file in omega (arith, nine, lt))
        ∙ sym (cond-true (q == file) o (get (image_of files) q) (eq-eqb q file e))
    | inr apart ↦
        get-image_of (set files (slot_of file) o) q k
        ∙ get_or-set_other files (slot_of file) (slot_of q) o None (slots_apart file q h k apart)
        ∙ sym (get-image_of files q k)
        ∙ sym (cond-false (q == file) o (get (image_of files) q) (ne_eqb q file apart))
  ]
  | inr k ↦
      get-no_file (set files (slot_of file) o) q (length-set files (slot_of file) o ∙ nine) k ∙ sym (get-no_file files q nine k)
      ∙ sym (cond-false (q == file) o (get (image_of files) q) (ne_eqb q file (λ e. both_ways _ k (ap is_file e ∙ h))))
]

pub image_of-set : (files : List (Option (List ℕ))) (file : ℕ) (bytes : List ℕ) → length files ≡ 9 → is_file file ≡ true → image_of (set files (slot_of file) (Some bytes)) ≡ insert (image_of files) file bytes
image_of-set files file bytes nine h = same_map nat_cmp_total nat_cmp-IsAntisymmetric _ _ (λ q.
    get-set files file q (Some bytes) nine h
    ∙ sym (get-insert nat_cmp_total (image_of files) file bytes q ∙ ap (λ t. cond t (Some bytes) (get (image_of files) q)) (unsigned_tied q file)))

pub image_of-unset : (files : List (Option (List ℕ))) (file : ℕ) → length files ≡ 9 → is_file file ≡ true → image_of (set files (slot_of file) None) ≡ remove (image_of files) file
image_of-unset files file nine h = same_map nat_cmp_total nat_cmp-IsAntisymmetric _ _ (λ q.
    get-set files file q None nine h
    ∙ sym (get-remove nat_cmp_total (image_of files) file q ∙ ap (λ t. cond t None (get (image_of files) q)) (unsigned_tied q file)))

-- ---- what is read and written in a slot
any_default : (xs : List (Option (List ℕ))) (i : ℕ) (d e : Option (List ℕ)) → i < length xs → get_or xs i d ≡ get_or xs i e
any_default [] i d e lt = absurd (omega arith)
any_default (x ∷ xs) zero d e lt = refl
any_default (x ∷ xs) (suc i) d e lt = any_default xs i d e (omega arith)

pub get-read : (files : List (Option (List ℕ))) (file i : ℕ) (o : Option (List ℕ)) → length files ≡ 9 → is_file file ≡ true → i ≡ slot_of file → o ≡ get_or files i o → o ≡ get (image_of files) file
get-read files file i o nine h is here =
    here ∙ ap (λ k. get_or files k o) is ∙ any_default files (slot_of file) o None (let lt = slot_bound file in omega (arith, nine, lt)) ∙ sym (get-image_of files file h)

some_none : {A : Type 0} (P : Type 0) (o : Option A) → o ≡ None → IsSome o → P
some_none P None e s = absurd (false≢true s)
some_none P (Some x) e s = cc

pub there_is_file : (files : List (Option (List ℕ))) (file : ℕ) → length files ≡ 9 → IsSome (get (image_of files) file) → is_file file ≡ true
there_is_file files file nine there = elim (cases_Bool (is_file file)) [
  | inl h ↦ h
  | inr h ↦ some_none (is_file file ≡ true) (get (image_of files) file) (get-no_file files file nine h) there
]

-- bytes written over in a slot
pub image_of-laid : (files : List (Option (List ℕ))) (file i at : ℕ) (old bytes : List ℕ) → length files ≡ 9 → is_file file ≡ true → i ≡ slot_of file → Some old ≡ get (image_of files) file
    → image_of (set files i (Some (overwritten at bytes old))) ≡ laid file at bytes (image_of files)
image_of-laid files file i at old bytes nine h is here =
    ap (λ k. image_of (set files k (Some (overwritten at bytes old)))) is ∙ image_of-set files file (overwritten at bytes old) nine h
    ∙ ap (λ (o : Option (List ℕ)). insert (image_of files) file (overwritten at bytes (unwrap_or o []))) here

pub is_there : (files : List (Option (List ℕ))) (file : ℕ) → IsSome (get (image_of files) file) → get (image_of files) file ≡ None → ⊥
is_there files file there none = some_none ⊥ (get (image_of files) file) none there
