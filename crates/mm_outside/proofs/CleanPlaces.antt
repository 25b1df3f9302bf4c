-- A file of which nothing is pending: a crash leaves it as it reads.
use Rattle.std.proofs.Common.{◌≡◌, ℕ, List, [], length, Option, Some, None, refl, sym, ◌∙◌, ap, arith}
use mathlib.Core.Bool.{true≢false}
use Rattle.std.proofs.lemmas.List.{ext_get_or}
use Rattle.std.specs.Cmp.Lexicographic.{nat_list_cmp_total}
use Rattle.std.specs.FinMap.{get, same_map, nat_cmp-IsAntisymmetric, slice_cmp-IsAntisymmetric}
use Rattle.mm_outside.specs.Image.{Image}
use Rattle.mm_outside.specs.Told.{Told, image_of, MayLeaveFile, MayLeave}
use Rattle.mm_outside.specs.Place.{Place, place_of, clean, IsClean}
use Rattle.mm_outside.proofs.Places.{left_at}

-- images that hold the same files are one
pub same_image : (a b : Image) → ((name : List ℕ) → get a name ≡ get b name) → a ≡ b
same_image = same_map nat_list_cmp_total (slice_cmp-IsAntisymmetric nat_cmp-IsAntisymmetric)

left_clean_file : (file left : Option (List ℕ)) → MayLeaveFile file (clean file).pending left → left ≡ file
left_clean_file None None l = refl
left_clean_file None (Some left) l = absurd (true≢false (sym l.0))
left_clean_file (Some bytes) None l = absurd (true≢false (sym l))
left_clean_file (Some bytes) (Some left) l =
    let size : length left ≡ length bytes = omega (arith, l.no_shorter, l.no_longer) in
    ap Some (ext_get_or 0 left bytes size (λ i lt. l.same i (omega (arith, size)) refl))

pub left_clean : (t : Told) (name : List ℕ) (file : Option (List ℕ)) (image : Image) → place_of t name ≡ clean file → MayLeave t.start t.calls image → get image name ≡ file
left_clean t name file image is left = left_clean_file file (get image name) (left_at t name (clean file) image is left)

-- a place that is clean is that of the file as it reads
pub clean_as_read : (t : Told) (name : List ℕ) (file : Option (List ℕ)) → place_of t name ≡ clean file → place_of t name ≡ clean (get (image_of t) name)
clean_as_read t name file is = is ∙ ap clean (sym (ap (λ (p : Place). p.file) is))

-- where nothing is pending of any file, a crash leaves what is read
pub left_clean_image : (t : Told) (image : Image) → IsClean t → MayLeave t.start t.calls image → image ≡ image_of t
left_clean_image t image clean left = same_image image (image_of t) (λ name. left_clean t name _ image (clean name) left)

-- a disk that has had no changing call
pub fresh_clean : (image : Image) → IsClean (record { start = image; calls = [] })
fresh_clean image name = refl
