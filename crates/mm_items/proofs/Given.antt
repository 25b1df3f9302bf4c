-- What databases gave for a group makes a section that fits, and their images are then those with the new items.
use Rattle.std.proofs.Common.{◌≡◌, inl, inr, ℕ, ◌+◌, ◌<◌, Bool, true, false, cond, ◌||◌, List, [], ◌∷◌, ◌++◌, length, map, refl, sym, ◌∙◌, ap, subst, arith}
use mathlib.Core.Bool.{true≢false}
use Rattle.std.specs.Prelude.{nat_lt}
use Rattle.std.specs.Ordering.{eq_by_cmp}
use Rattle.std.specs.FinMap.{empty}
use Rattle.std.proofs.lemmas.Bool.{cases_Bool}
use Rattle.std.proofs.lemmas.Bool.Decides.{nat_tests}
use Rattle.mm_outside.specs.Image.{name_cmp}
use Rattle.mm_outside.proofs.Places.{one_name, same_name, different, apart}
use Rattle.mm_ranges.specs.Overlay as ranges
use Rattle.mm_ranges.specs.declared.part.Closed.{Closed}
use Rattle.mm_ranges.specs.declared.part.Made.{Made}
use Rattle.mm_ranges.specs.declared.part.Piece.{Piece}
use Rattle.mm_ranges.specs.declared.part.Part.{Part}
use Rattle.mm_views.specs.State.{PartFits}
use Rattle.mm_tie.specs.Items.{image_of, Follows}
use Rattle.mm_crash.proofs.Overlay.{neither, either_one}
use Rattle.mm_items.specs.Files.{Images, with_part, with_parts, PartsFit}
use Rattle.mm_items.specs.Given.{Given, sealed_part, has_content, sealed_parts, has_database, AreApart, Taken, AllFollow, with_items, images_of}

-- a database of the others isn't the first one
other_name : (given : Given) (more : List Given) (n : List ℕ) → has_database given.0 more ≡ false → has_database n more ≡ true → eq_by_cmp name_cmp n given.0 ≡ false
other_name given more n none some = different n given.0 (λ e. true≢false (sym some ∙ ap (λ (x : List ℕ). has_database x more) e ∙ none))

untouched : (part : Part) (images : Images) (n : List ℕ) → eq_by_cmp name_cmp n part.name ≡ false → with_part part images n ≡ images n
untouched part images n other = ap (λ (b : Bool). cond b (ranges.over part (images n)) (images n)) other

fits_under : (image : ranges.Image) (given : Given) → PartFits image given.1.part → PartFits image (sealed_part given)
fits_under image given fits = record { rising = fits.rising; allowed = fits.allowed; new_files = fits.new_files; inside = fits.inside }

module _ (is_db : List ℕ → Bool) (taken : Taken) where
  -- the images of the databases that are to come are those of the items before
  abbrev AreBefore : Images → List Given → Type 0
  AreBefore images given = (n : List ℕ) → has_database n given ≡ true → images n ≡ image_of (taken n)

  fit_on : (given : List Given) (images : Images) → AreBefore images given → AllFollow is_db taken given → AreApart given → PartsFit is_db images (sealed_parts given)
  fit_on [] images before follow separate = tt
  fit_on (g ∷ more) images before follow separate =
      let part : Part = sealed_part g in
      let own : images g.0 ≡ image_of (taken g.0) = before g.0 (ap (λ (b : Bool). b || has_database g.0 more) (same_name g.0)) in
      let fits : PartFits (images part.name) part = subst (λ (i : ranges.Image). PartFits i part) (sym own) (fits_under (image_of (taken g.0)) g follow.1.0.fits) in
      by (has_content part) part follow.0 fits follow.1.0.allowed.ranges_allowed
      (fit_on more images (λ n some. before n (either_one (eq_by_cmp name_cmp n g.0) (has_database n more) some)) follow.1.1 separate.1)
      (fit_on more (with_part part images) (λ n some. untouched part images n (other_name g more n separate.0 some) ∙ before n (either_one (eq_by_cmp name_cmp n g.0) (has_database n more) some)) follow.1.1 separate.1)
    where
      by : (b : Bool) (part : Part) → is_db part.name ≡ true → PartFits (images part.name) part → Rattle.std.specs.List.list_all Rattle.mm_ranges.specs.Limits.is_allowed (ranges.ranges_of part.pieces) ≡ true → PartsFit is_db images (sealed_parts more) → PartsFit is_db (with_part part images) (sealed_parts more)
          → PartsFit is_db images (cond b (part ∷ sealed_parts more) (sealed_parts more))
      by true part own fits allowed without next = (own, (allowed, (fits, next)))
      by false part own fits allowed without next = without

  -- the section fits the images of the items before it
  pub given_fit : (given : List Given) → AllFollow is_db taken given → AreApart given → PartsFit is_db (images_of taken) (sealed_parts given)
  given_fit given follow separate = fit_on given (images_of taken) (λ n some. refl) follow separate

-- ---- the images afterwards

-- a database's image with what it gave
abbrev image_after : List Given → ranges.Image → List ℕ → ranges.Image
image_after [] image n = image
image_after (g ∷ more) image n = cond (eq_by_cmp name_cmp n g.0) (ranges.over g.1.part image) (image_after more image n)

no_more : (given : List Given) (image : ranges.Image) (n : List ℕ) → has_database n given ≡ false → image_after given image n ≡ image
no_more [] image n none = refl
no_more (g ∷ more) image n none =
    let parts = neither (eq_by_cmp name_cmp n g.0) (has_database n more) none in
    ap (λ (b : Bool). cond b (ranges.over g.1.part image) (image_after more image n)) parts.0 ∙ no_more more image n parts.1

-- a part without content changes nothing
empty_part : (part : Part) (image : ranges.Image) → has_content part ≡ false → ranges.over part image ≡ image
empty_part part image none = by part.made part.pieces none
  where
    by : (ms : List Made) (ps : List Piece) → nat_lt 0 (length ms + length ps) ≡ false → ranges.laid_over ps (ranges.with_made ms image) ≡ image
    by [] [] e = refl
    by [] (p ∷ ps) e = let some : nat_lt 0 (length {A = Made} [] + length (p ∷ ps)) ≡ true = grind (arith, nat_tests) in absurd (true≢false (sym some ∙ e))
    by (m ∷ ms) ps e = let some : nat_lt 0 (length (m ∷ ms) + length ps) ≡ true = grind (arith, nat_tests) in absurd (true≢false (sym some ∙ e))

images_on : (given : List Given) (images : Images) (n : List ℕ) → AreApart given → with_parts (sealed_parts given) images n ≡ image_after given (images n) n
images_on [] images n separate = refl
images_on (g ∷ more) images n separate = by (has_content (sealed_part g)) refl (images_on more images n separate.1) (images_on more (with_part (sealed_part g) images) n separate.1)
  where
    changed : (b : Bool) → eq_by_cmp name_cmp n g.0 ≡ b → image_after more (cond b (ranges.over (sealed_part g) (images n)) (images n)) n ≡ cond b (ranges.over g.1.part (images n)) (image_after more (images n) n)
    changed true e = no_more more _ n (ap (λ (x : List ℕ). has_database x more) (one_name n g.0 e) ∙ separate.0)
    changed false e = refl

    same : (b : Bool) → eq_by_cmp name_cmp n g.0 ≡ b → has_content (sealed_part g) ≡ false → image_after more (images n) n ≡ cond b (ranges.over g.1.part (images n)) (image_after more (images n) n)
    same true e none = no_more more (images n) n (ap (λ (x : List ℕ). has_database x more) (one_name n g.0 e) ∙ separate.0) ∙ sym (empty_part (sealed_part g) (images n) none)
    same false e none = refl

    by : (b : Bool) → has_content (sealed_part g) ≡ b → with_parts (sealed_parts more) images n ≡ image_after more (images n) n → with_parts (sealed_parts more) (with_part (sealed_part g) images) n ≡ image_after more (with_part (sealed_part g) images n) n
        → with_parts (cond b (sealed_part g ∷ sealed_parts more) (sealed_parts more)) images n ≡ image_after (g ∷ more) (images n) n
    by true some without next = next ∙ changed (eq_by_cmp name_cmp n g.0) refl
    by false none without next = without ∙ same (eq_by_cmp name_cmp n g.0) refl none

one_item : (items : List Closed) (item : Closed) (image : ranges.Image) → ranges.over_all (map (λ (x : Closed). x.part) (items ++ item ∷ [])) image ≡ ranges.over item.part (ranges.over_all (map (λ (x : Closed). x.part) items) image)
one_item [] item image = refl
one_item (i ∷ items) item image = one_item items item (ranges.over i.part image)

items_after : (given : List Given) (taken : Taken) (n : List ℕ) → image_of (with_items given taken n) ≡ image_after given (image_of (taken n)) n
items_after [] taken n = refl
items_after (g ∷ more) taken n = by (eq_by_cmp name_cmp n g.0) (items_after more taken n)
  where
    by : (b : Bool) → image_of (with_items more taken n) ≡ image_after more (image_of (taken n)) n → image_of (cond b (taken n ++ g.1 ∷ []) (with_items more taken n)) ≡ cond b (ranges.over g.1.part (image_of (taken n))) (image_after more (image_of (taken n)) n)
    by true next = one_item (taken n) g.1 empty
    by false next = next

-- with the section's parts the images are those of the items with the new ones
pub given_images : (given : List Given) (taken : Taken) (n : List ℕ) → AreApart given → with_parts (sealed_parts given) (images_of taken) n ≡ images_of (with_items given taken) n
given_images given taken n separate = images_on given (images_of taken) n separate ∙ sym (items_after given taken n)
