-- What the files that stand say.
use Rattle.std.proofs.Common.{◌≡◌, ℕ, ◌^◌, ◌<◌, ◌≤◌, List, [], length, Option, Some, None, refl, sym, ◌∙◌, ap, arith, subst}
use Rattle.std.specs.Prelude.{min, unwrap_or}
use Rattle.std.specs.Option.{option_map}
use Rattle.std.specs.FinMap.{get}
use Rattle.std.proofs.Math.Pow.{pow_mono}
use Rattle.mm_base.specs.Bytes.{part}
use Rattle.mm_ranges.specs.Overlay.{Image, bytes_at}
use Rattle.mm_links.specs.Links.{Place}
use Rattle.mm_extents.specs.Heap.{Cell, size, Heap, IsHeap, extent, live, deleted}
use Rattle.mm_extents.specs.Changes.{len_of, IsLow}
use Rattle.mm_extents.specs.Files.{file_len, FilesStand, IsHeader}

pub file_len_most : (k : ℕ) → file_len k ≤ 67108864
file_len_most k =
    let few : min k 6 ≤ 6 = omega arith in
    let most : 2 ^ min k 6 ≤ 2 ^ 6 = pow_mono {i = min k 6} {j = 6} few in
    omega (arith, most)

pub short_file : (image : Image) → FilesStand image → (file : ℕ) → file < 8 → length (bytes_at image file) ≤ 67108864
short_file image fs file lt = by (get image file) refl
  where
    by : (o : Option (List ℕ)) → get image file ≡ o → length (bytes_at image file) ≤ 67108864
    by None e = let z : length (bytes_at image file) ≡ 0 = ap (λ (o : Option (List ℕ)). length (unwrap_or o [])) e in omega (arith, z)
    by (Some b) e =
        let n : length (bytes_at image file) ≡ length b = ap (λ (o : Option (List ℕ)). length (unwrap_or o [])) e in
        let long = fs.long file (length b) lt (ap (λ (o : Option (List ℕ)). option_map length o) e) in
        let most = file_len_most file in
        omega (arith, n, long, most)

some_size : (c : Cell) → 0 < size c
some_size (extent h) = omega arith
some_size (live h room) = omega arith
some_size (deleted h rest) = omega arith

-- what stands somewhere stands at a low place
pub low_place : (image : Image) (heap : Heap) (p : Place) (c : Cell) → FilesStand image → IsHeap image heap → heap p ≡ Some c → IsLow p
low_place image heap p c fs is e =
    let file = is.data_file p c e in
    let inside = is.inside p c e in
    let short = short_file image fs p.0 file in
    let some = some_size c in
    record { file = file; ofs = omega (arith, inside, short, some) }

-- files that are as long, with the same headers
pub files_kept : (old new : Image) → ((f : ℕ) → len_of new f ≡ len_of old f) → ((f : ℕ) → f < 8 → part 0 8192 (bytes_at new f) ≡ part 0 8192 (bytes_at old f)) → FilesStand old → FilesStand new
files_kept old new lengths headers fs = record {
  names = (fs.names.0, fs.names.1, fs.names.2, lengths _ ∙ fs.names.3);
  first = lengths 0 ∙ fs.first;
  long = λ f n lt e. fs.long f n lt (sym (lengths f) ∙ e);
  no_gap = λ f lt e. lengths _ ∙ fs.no_gap f lt (sym (lengths f) ∙ e);
  headers = λ f n lt e. subst (λ (bytes : List ℕ). IsHeader f bytes) (sym (headers f lt)) (fs.headers f n lt (sym (lengths f) ∙ e));
}
