-- An absent file is created, written at 0 and synced: what is read, and what a crash leaves.
use Rattle.std.proofs.Common.{◌≡◌, ◌≢◌, ℕ, Bool, true, false, cond, List, Option, Some, None, refl, sym, ◌∙◌, ap, subst}
use Rattle.std.proofs.lemmas.Option.{none-some}
use Rattle.std.specs.Ordering.{eq_by_cmp}
use Rattle.std.specs.Cmp.Lexicographic.{nat_list_cmp_total}
use Rattle.std.specs.FinMap.{get, insert, get-insert, empty, get-empty}
use Rattle.mm_outside.specs.Image.{Image, name_cmp}
use Rattle.mm_outside.specs.Told.{Told, called, image_of, MayLeave, Creates, Writes, Syncs}
use Rattle.mm_outside.specs.Place.{Place, place_of, place_by, clean, IsClean}
use Rattle.mm_outside.specs.Ask.{asked, new_file_asks}
use Rattle.mm_bytes.proofs.Files.{overwritten_nothing}
use Rattle.mm_outside.proofs.Places.{one_name, apart, place_here}
use Rattle.mm_outside.proofs.Cuts.{spared_asked}
use Rattle.mm_outside.proofs.CleanPlaces.{same_image, clean_as_read, left_clean_image}

-- the three calls, one after another, at a place whose file is absent
written_place : (file : Option (List ℕ)) (p : Place) (bytes : List ℕ) → file ≡ None → place_by Syncs true (place_by (Writes 0 bytes) true (place_by Creates true (record p { file = file }))) ≡ clean (Some bytes)
written_place None p bytes absent = ap (λ (b : List ℕ). clean (Some b)) (overwritten_nothing bytes)
written_place (Some old) p bytes absent = absurd (none-some old (sym absent))

-- the file is there with these bytes, and nothing of it is pending
pub place_of_file_written : (t : Told) (name bytes : List ℕ) → get (image_of t) name ≡ None → place_of (asked (new_file_asks name bytes) t) name ≡ clean (Some bytes)
place_of_file_written t name bytes absent =
    let created = called name Creates true t in
    let written = called name (Writes 0 bytes) true created in
    place_here written name Syncs true
    ∙ ap (place_by Syncs true) (place_here created name (Writes 0 bytes) true ∙ ap (place_by (Writes 0 bytes) true) (place_here t name Creates true))
    ∙ written_place _ (place_of t name) bytes absent

-- each other file stays, and what is pending of it
pub place_of_other_file : (t : Told) (name bytes q : List ℕ) → q ≢ name → place_of (asked (new_file_asks name bytes) t) q ≡ place_of t q
place_of_other_file t name bytes q other = spared_asked (new_file_asks name bytes) q t (other, (other, (other, tt)))

get-file_written : (t : Told) (name bytes q : List ℕ) (same : Bool) → eq_by_cmp name_cmp q name ≡ same → get (image_of t) name ≡ None → get (image_of (asked (new_file_asks name bytes) t)) q ≡ cond same (Some bytes) (get (image_of t) q)
get-file_written t name bytes q true e absent =
    let here = ap (λ (p : Place). p.file) (place_of_file_written t name bytes absent) in
    subst (λ (n : List ℕ). get (image_of (asked (new_file_asks name bytes) t)) n ≡ Some bytes) (sym (one_name q name e)) here
get-file_written t name bytes q false e absent = ap (λ (p : Place). p.file) (place_of_other_file t name bytes q (apart q name e))

-- what is read
pub image_of_file_written : (t : Told) (name bytes : List ℕ) → get (image_of t) name ≡ None → image_of (asked (new_file_asks name bytes) t) ≡ insert (image_of t) name bytes
image_of_file_written t name bytes absent = same_image _ _ (λ q. get-file_written t name bytes q _ refl absent ∙ sym (get-insert nat_list_cmp_total (image_of t) name bytes q))

-- the same on a disk without files: the file is all that is read
pub image_of_only_file : (t : Told) (name bytes : List ℕ) → image_of t ≡ empty → image_of (asked (new_file_asks name bytes) t) ≡ insert empty name bytes
image_of_only_file t name bytes none =
    let absent : get (image_of t) name ≡ None = ap (λ (image : Image). get image name) none ∙ get-empty name_cmp name in
    image_of_file_written t name bytes absent ∙ ap (λ (image : Image). insert image name bytes) none

-- where nothing was pending, nothing is
clean_by_name : (t : Told) (name bytes q : List ℕ) (same : Bool) → eq_by_cmp name_cmp q name ≡ same → IsClean t → get (image_of t) name ≡ None → (file : Option (List ℕ)) × (place_of (asked (new_file_asks name bytes) t) q ≡ clean file)
clean_by_name t name bytes q true e is_clean absent = (Some bytes, subst (λ (n : List ℕ). place_of (asked (new_file_asks name bytes) t) n ≡ clean (Some bytes)) (sym (one_name q name e)) (place_of_file_written t name bytes absent))
clean_by_name t name bytes q false e is_clean absent = (get (image_of t) q, place_of_other_file t name bytes q (apart q name e) ∙ is_clean q)

pub clean_file_written : (t : Told) (name bytes : List ℕ) → IsClean t → get (image_of t) name ≡ None → IsClean (asked (new_file_asks name bytes) t)
clean_file_written t name bytes is_clean absent q = let found = clean_by_name t name bytes q _ refl is_clean absent in clean_as_read (asked (new_file_asks name bytes) t) q found.0 found.1

-- and so a crash leaves the new file and each old one as they read
pub left_file_written : (t : Told) (name bytes : List ℕ) (image : Image) → IsClean t → get (image_of t) name ≡ None
    → MayLeave (asked (new_file_asks name bytes) t).start (asked (new_file_asks name bytes) t).calls image → image ≡ insert (image_of t) name bytes
left_file_written t name bytes image is_clean absent left =
    left_clean_image (asked (new_file_asks name bytes) t) image (clean_file_written t name bytes is_clean absent) left ∙ image_of_file_written t name bytes absent
