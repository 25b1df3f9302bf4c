-- Files of zeros put into an image are the files made.
use Rattle.std.proofs.Common.{◌≡◌, true, List, [], ◌∷◌, refl, ◌∙◌, ap}
use Rattle.std.proofs.lemmas.Bool.{and_parts, and_from}
use Rattle.std.specs.Prelude.{replicate}
use Rattle.std.specs.FinMap.{insert}
use Rattle.std.specs.List.{list_all}
use Rattle.mm_ranges.specs.Limits.{is_file, may_be_made}
use Rattle.mm_ranges.specs.Overlay.{Image, with_made}
use Rattle.mm_ranges.specs.declared.part.Made.{Made}
use Rattle.mm_ranges.specs.declared.part.Part.{Part}
use Rattle.mm_views.specs.Fresh.{zero_files, with_fresh, are_files}
use Rattle.mm_views.specs.declared.parts.Fresh.{Fresh}

pub with_fresh-zero_files : (ms : List Made) (image : Image) → with_fresh (zero_files ms) image ≡ with_made ms image
with_fresh-zero_files [] image = refl
with_fresh-zero_files (m ∷ ms) image = with_fresh-zero_files ms (insert image m.file (replicate m.len 0))

pub file_of_made : (m : Made) → may_be_made m ≡ true → is_file m.file ≡ true
file_of_made m h = (and_parts (is_file m.file) _ h).0

pub files_of_made : (ms : List Made) → list_all may_be_made ms ≡ true → are_files (zero_files ms) ≡ true
files_of_made [] h = refl
files_of_made (m ∷ ms) h =
    let parts = and_parts (may_be_made m) (list_all may_be_made ms) h in
    and_from (is_file m.file) (are_files (zero_files ms)) (file_of_made m parts.0) (files_of_made ms parts.1)

-- files that wait for a part, put into an image
pub put_for : (part seen : Part) (fs : List Fresh) (image put : Image) → fs ≡ zero_files part.made → part ≡ seen → put ≡ with_fresh fs image → put ≡ with_made seen.made image
put_for part seen fs image put fresh is h =
    h ∙ ap (λ (xs : List Fresh). with_fresh xs image) (fresh ∙ ap (λ (p : Part). zero_files p.made) is) ∙ with_fresh-zero_files seen.made image
