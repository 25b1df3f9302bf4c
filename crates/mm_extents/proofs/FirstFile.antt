-- The first data file is made.
use Rattle.std.proofs.Common.{◌≡◌, ℕ, pos, suc, ◌+◌, ◌<◌, ◌≤◌, inl, inr, Bool, true, false, List, length, take, Some, None, refl, sym, ◌∙◌, ap, subst, arith, length-take-le}
use Rattle.std.specs.Prelude.{◌==◌, if◌then◌else◌, nat_lt, replicate}
use Rattle.std.specs.FinMap.{insert}
use Rattle.std.proofs.lemmas.Bool.{cases_Bool, eqb-true}
use Rattle.std.proofs.lemmas.Bool.Decides.{nat_tests}
use Rattle.mm_base.specs.Bytes.{part}
use Rattle.mm_ranges.specs.Overlay.{Image, bytes_at, laid}
use Rattle.mm_ranges.specs.declared.limits.TheConstants.{NS_FILE}
use Rattle.mm_views.specs.State.{Drafting}
use Rattle.mm_frames.specs.FileHeader.{file_header_bytes}
use Rattle.mm_extents.specs.Changes.{written, len_of}
use Rattle.mm_extents.specs.Files.{file_len, header_with, header_unused, unused_in, IsHeader, FilesStand, HasNamesAlone, AreUnused}
use Rattle.mm_extents.proofs.HeaderWrites.{header_long}
use Rattle.mm_extents.proofs.MadeFiles.{file_len_least, unused_of, no_unused, off_new, lens_new, long_new}

one_number : (a b : ℕ) → Some a ≡ Some b → a ≡ b
one_number a b e = cc

module _ (image new : Image) (alone : HasNamesAlone image) (off : (g : ℕ) → (g == 0) ≡ false → bytes_at new g ≡ bytes_at image g) (lens : (g : ℕ) → (g == 0) ≡ false → len_of new g ≡ len_of image g)
    (long : len_of new 0 ≡ Some (file_len 0)) (header : part 0 8192 (bytes_at new 0) ≡ file_header_bytes (header_with 0 8192)) where
  -- another data file isn't there
  gone : (f n : ℕ) → f < 8 → len_of new f ≡ Some n → (f == 0) ≡ false → ⊥
  gone f n lt e m = (let z : None ≡ Some n = sym (alone.none f lt) ∙ sym (lens f m) ∙ e in cc)

  header_at : IsHeader 0 (part 0 8192 (bytes_at new 0))
  header_at = let least = file_len_least 0 in record { unused = 8192; spelled = header; from = omega arith; to = omega (arith, least) }

  pub files_first : FilesStand new
  files_first = record {
    names = (alone.names.0, alone.names.1, alone.names.2, lens NS_FILE (grind (arith, nat_tests)) ∙ alone.names.3);
    first = long;
    long = λ f n lt e. elim (cases_Bool (f == 0)) [
      | inl y ↦ let z = eqb-true f 0 y in one_number n (file_len f) (sym e ∙ ap (len_of new) z ∙ long ∙ ap (λ (x : ℕ). Some (file_len x)) (sym z))
      | inr m ↦ absurd (gone f n lt e m)
    ];
    no_gap = λ f lt e. lens (suc f) (grind (arith, nat_tests)) ∙ alone.none (suc f) (omega (arith, lt));
    headers = λ f n lt e. elim (cases_Bool (f == 0)) [
      | inl y ↦ subst (λ (g : ℕ). IsHeader g (part 0 8192 (bytes_at new g))) (sym (eqb-true f 0 y)) header_at
      | inr m ↦ absurd (gone f n lt e m)
    ];
  }

  unused_off : (g : ℕ) → (g == 0) ≡ false → unused_in new g ≡ unused_in image g
  unused_off g m = ap (λ (b : List ℕ). if nat_lt g 8 then header_unused (part 0 8192 b) else None) (off g m)

  pub unused_first : AreUnused new
  unused_first k u e = elim (cases_Bool (k == 0)) [
    | inl y ↦ at_first (sym (unused_of new 0 8192 (omega arith) (let least = file_len_least 0 in omega (arith, least)) header) ∙ ap (unused_in new) (sym (eqb-true k 0 y)) ∙ e)
    | inr m ↦ elim (cases_Bool (nat_lt k 8)) [
      | inl lt ↦ absurd (no_unused image k (alone.none k (grind (arith, nat_tests, lt))) (pos u) (sym (unused_off k m) ∙ e))
      | inr ge ↦ absurd (let z : None ≡ Some (pos u) = sym (ap (λ (b : Bool). if b then header_unused (part 0 8192 (bytes_at new k)) else None) ge) ∙ e in cc)
    ]
  ]
    where
      at_first : Some (pos 8192) ≡ Some (pos u) → 8192 ≡ u
      at_first z = cc

module _ (image : Image) (old new : Drafting) (e : old.image ≡ insert image 0 (replicate (file_len 0) 0)) (alone : HasNamesAlone image)
    (w : new ≡ written 0 0 (take 24 (file_header_bytes (header_with 0 8192))) old) (header : part 0 8192 (bytes_at new.image 0) ≡ file_header_bytes (header_with 0 8192)) where
  abbrev fields : List ℕ
  fields = take 24 (file_header_bytes (header_with 0 8192))

  fields_long : length fields ≡ 24
  fields_long = let h = header_long 0 8192 in length-take-le 24 (file_header_bytes (header_with 0 8192)) (omega (arith, h))

  is : new.image ≡ laid 0 0 fields (insert image 0 (replicate (file_len 0) 0))
  is = ap (λ (d : Drafting). d.image) w ∙ ap (laid 0 0 fields) e

  some : 0 < length fields
  some = let l = fields_long in omega (arith, l)

  few : length fields ≤ 8192
  few = let l = fields_long in omega (arith, l)

  long : 8192 ≤ file_len 0
  long = let least = file_len_least 0 in omega (arith, least)

  off : (g : ℕ) → (g == 0) ≡ false → bytes_at new.image g ≡ bytes_at image g
  off = off_new image new.image 0 (file_len 0) fields some few long is

  lens : (g : ℕ) → (g == 0) ≡ false → len_of new.image g ≡ len_of image g
  lens = lens_new image new.image 0 (file_len 0) fields some few long is

  here : len_of new.image 0 ≡ Some (file_len 0)
  here = long_new image new.image 0 (file_len 0) fields some few long is

  pub made_files : FilesStand new.image
  made_files = files_first image new.image alone off lens here header

  pub made_unused : AreUnused new.image
  made_unused = unused_first image new.image alone off lens here header

  pub made_ns : bytes_at new.image NS_FILE ≡ bytes_at image NS_FILE
  made_ns = off NS_FILE (grind (arith, nat_tests))
