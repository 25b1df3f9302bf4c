-- The section of a group: what each database gave for it, under the database's name.
use Rattle.std.specs.Prelude.{◌≡◌, ◌+◌, ℕ, Bool, true, false, ◌||◌, if◌then◌else◌, nat_lt, List, [], ◌∷◌, ◌++◌, length}
use Rattle.std.specs.Ordering.{eq_by_cmp}
use Rattle.mm_outside.specs.Image.{name_cmp}
use Rattle.mm_ranges.specs.Overlay as ranges
use Rattle.mm_ranges.specs.declared.part.Closed.{Closed}
use Rattle.mm_ranges.specs.declared.part.Part.{Part}
use Rattle.mm_tie.specs.Items.{image_of, Follows}
use Rattle.mm_items.specs.Files.{Images}

-- a database's name, and the item that it gave
abbrev pub Given : Type 0
Given = List ℕ × Closed

abbrev pub sealed_part : Given → Part
sealed_part given = record { name = given.0; made = given.1.part.made; pieces = given.1.part.pieces }

abbrev pub has_content : Part → Bool
has_content part = nat_lt 0 (length part.made + length part.pieces)

-- the parts of a section. One without a made file and without a range is left out.
abbrev pub sealed_parts : List Given → List Part
sealed_parts [] = []
sealed_parts (given ∷ more) = if has_content (sealed_part given) then sealed_part given ∷ sealed_parts more else sealed_parts more

-- one of them is of this database
abbrev pub has_database : List ℕ → List Given → Bool
has_database n [] = false
has_database n (given ∷ more) = eq_by_cmp name_cmp n given.0 || has_database n more

-- they are of databases of which each is another
abbrev pub AreApart : List Given → Type 0
AreApart [] = Unit {0}
AreApart (given ∷ more) = (has_database given.0 more ≡ false) × AreApart more

-- the items that each database gave before, by name
abbrev pub Taken : Type 0
Taken = List ℕ → List Closed

-- each item follows those that its database gave before
abbrev pub AllFollow : (List ℕ → Bool) → Taken → List Given → Type 0
AllFollow is_db taken [] = Unit {0}
AllFollow is_db taken (given ∷ more) = (is_db given.0 ≡ true) × (Follows (taken given.0) given.1 × AllFollow is_db taken more)

-- with these items
abbrev pub with_items : List Given → Taken → Taken
with_items [] taken n = taken n
with_items (given ∷ more) taken n = if eq_by_cmp name_cmp n given.0 then taken n ++ given.1 ∷ [] else with_items more taken n

-- what the items of each database give
abbrev pub images_of : Taken → Images
images_of taken n = image_of (taken n)
