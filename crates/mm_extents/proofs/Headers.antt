-- What a data file's header says of its unused rest.
use Rattle.std.proofs.Common.{◌≡◌, ℕ, ℤ, pos, ◌<◌, ◌≤◌, inl, inr, true, List, [], length, Option, Some, None, refl, sym, ◌∙◌, ap, arith, rules}
use Rattle.std.specs.Prelude.{◌==◌, if◌then◌else◌, nat_lt, unwrap_or}
use Rattle.std.specs.Option.{option_map}
use Rattle.std.specs.FinMap.{get}
use Rattle.std.proofs.lemmas.Bool.{cases_Bool}
use Rattle.std.proofs.lemmas.Bool.Decides.{nat_tests}
use Rattle.mm_base.specs.Bytes.{part}
use Rattle.mm_base.specs.Tables.{AllInRange}
use Rattle.mm_base.proofs.PlaceLaws.{not_null_is}
use Rattle.mm_base.proofs.TableLaws.{has_all}
use Rattle.mm_ranges.specs.Overlay.{Image, bytes_at}
use Rattle.mm_frames.specs.FileHeader.{file_header_of, file_header_bytes, file_header_table}
use Rattle.mm_frames.specs.declared.file_header.FileHeader.{FileHeader}
use Rattle.mm_frames.proofs.Again.{file_header_is}
use Rattle.mm_extents.specs.Changes.{loc, len_of}
use Rattle.mm_extents.specs.Files.{header_with, header_unused, unused_in, FilesStand}
use Rattle.mm_extents.proofs.FileLaws.{file_len_most}

pub loc_ofs : (k u : ℕ) → k < 8 → u ≤ 67108864 → (loc (k, u)).ofs ≡ pos u
loc_ofs k u low short = (not_null_is (pos k) (pos u) (λ e. cc) (record { sfits = omega (arith, low) }) (record { sfits = omega (arith, short) })).1

pub header_ranges : (k u : ℕ) → AllInRange (file_header_table (header_with k u))
header_ranges k u = let most = file_len_most k in search (rules, most)

pub header_again : (k u : ℕ) → file_header_of (file_header_bytes (header_with k u)) ≡ header_with k u
unfolding file_header_bytes
header_again k u = file_header_is (header_with k u) _ (has_all 8192 (file_header_table (header_with k u)) refl (header_ranges k u))

one : (x y : ℤ) → Some x ≡ Some y → x ≡ y
one x y e = cc

same_number : (a b : ℕ) → pos a ≡ pos b → a ≡ b
same_number a b e = cc

-- the header that stands in the file names it
pub unused_head : (image : Image) (k n u : ℕ) (fs : FilesStand image) (low : k < 8) (e : len_of image k ≡ Some n) → unused_in image k ≡ Some (pos u) → u ≡ (fs.headers k n low e).unused
unused_head image k n u fs low e f =
    let h = fs.headers k n low e in
    let to = h.to in
    let most = file_len_most k in
    let yes' : nat_lt k 8 ≡ true = grind (arith, nat_tests) in
    let g : header_unused (part 0 8192 (bytes_at image k)) ≡ Some (pos u) = sym (ap (λ b. if b then header_unused (part 0 8192 (bytes_at image k)) else None) yes') ∙ f in
    let ofs : (file_header_of (part 0 8192 (bytes_at image k))).unused.ofs ≡ pos h.unused = ap (λ (b : List ℕ). (file_header_of b).unused.ofs) h.spelled ∙ ap (λ (x : FileHeader). x.unused.ofs) (header_again k h.unused) ∙ loc_ofs k h.unused low (omega (arith, to, most)) in
    elim (cases_Bool (length (part 0 8192 (bytes_at image k)) == 8192)) [
      | inl y ↦ sym (same_number h.unused u (sym ofs ∙ one _ _ (sym (ap (λ b. if b then Some (file_header_of (part 0 8192 (bytes_at image k))).unused.ofs else None) y) ∙ g)))
      | inr m ↦ absurd (let z : None ≡ Some (pos u) = sym (ap (λ b. if b then Some (file_header_of (part 0 8192 (bytes_at image k))).unused.ofs else None) m) ∙ g in cc)
    ]

pub unused_inside : (image : Image) (k n u : ℕ) → FilesStand image → k < 8 → len_of image k ≡ Some n → unused_in image k ≡ Some (pos u) → u ≤ n
unused_inside image k n u fs low e f =
    let h = fs.headers k n low e in
    let to = h.to in
    let long = fs.long k n low e in
    let same = unused_head image k n u fs low e f in
    omega (arith, same, to, long)

pub unused_from : (image : Image) (k n u : ℕ) → FilesStand image → k < 8 → len_of image k ≡ Some n → unused_in image k ≡ Some (pos u) → 8192 ≤ u
unused_from image k n u fs low e f =
    let h = fs.headers k n low e in
    let from = h.from in
    let same = unused_head image k n u fs low e f in
    omega (arith, same, from)

-- a file that is there is as long as that
pub long_there : (image : Image) (k n : ℕ) → len_of image k ≡ Some n → length (bytes_at image k) ≡ n
long_there image k n e = by (get image k) refl
  where
    by : (o : Option (List ℕ)) → get image k ≡ o → length (bytes_at image k) ≡ n
    by None g = absurd (let z : None ≡ Some n = sym (ap (λ (o : Option (List ℕ)). option_map length o) g) ∙ e in cc)
    by (Some b) g =
        let z : Some (length b) ≡ Some n = sym (ap (λ (o : Option (List ℕ)). option_map length o) g) ∙ e in
        let same : length b ≡ n = cc in
        ap (λ (o : Option (List ℕ)). length (unwrap_or o [])) g ∙ same
