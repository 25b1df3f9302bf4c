-- The files of databases on one disk, over which sections are laid.
use Rattle.std.specs.Prelude.{◌≡◌, ◌==◌, ℕ, Bool, true, false, if◌then◌else◌, List, [], ◌∷◌, Option}
use Rattle.std.specs.List.{list_all}
use Rattle.std.specs.Ordering.{eq_by_cmp}
use Rattle.std.specs.FinMap.{get}
use Rattle.mm_outside.specs.Image.{name_cmp}
use Rattle.mm_ranges.specs.Limits.{is_file, is_allowed}
use Rattle.mm_ranges.specs.Overlay as ranges
use Rattle.mm_ranges.specs.declared.part.Part.{Part}
use Rattle.mm_views.specs.State.{PartFits}
use Rattle.mm_crash.specs.Overlay.{Entry, over, size, Fits, IsMadeOnce}

-- names of files by which databases and numbers are told apart
pub record TellsApart (is_db : List ℕ → Bool) (name : List ℕ → ℕ → List ℕ) : Type 0 where
  pub same : (n : List ℕ) → is_db n ≡ true → (f g : ℕ) → is_file f ≡ true → is_file g ≡ true → eq_by_cmp name_cmp (name n f) (name n g) ≡ (f == g)
  pub apart : (n m : List ℕ) → is_db n ≡ true → is_db m ≡ true → eq_by_cmp name_cmp n m ≡ false → (f g : ℕ) → eq_by_cmp name_cmp (name n f) (name m g) ≡ false

-- the images of databases by name, and those with a part laid over its own
abbrev pub Images : Type 0
Images = List ℕ → ranges.Image

abbrev pub with_part : Part → Images → Images
with_part part images n = if eq_by_cmp name_cmp n part.name then ranges.over part (images n) else images n

abbrev pub with_parts : List Part → Images → Images
with_parts [] images = images
with_parts (part ∷ parts) images = with_parts parts (with_part part images)

-- each part is of a database, and fits its image with the parts before it
abbrev pub PartsFit : (List ℕ → Bool) → Images → List Part → Type 0
PartsFit is_db images [] = Unit {0}
PartsFit is_db images (part ∷ parts) = (is_db part.name ≡ true) × ((list_all is_allowed (ranges.ranges_of part.pieces) ≡ true) × (PartFits (images part.name) part × PartsFit is_db (with_part part images) parts))

-- These entries, laid over files that were `base` at first, make each file once and lie inside, and the databases' files then read their images.
pub record AreLaid (is_db : List ℕ → Bool) (name : List ℕ → ℕ → List ℕ) (base : List ℕ → Option (List ℕ)) (entries : List Entry) (images : Images) : Type 0 where
  pub once : (q : List ℕ) → IsMadeOnce q entries
  pub inside : (q : List ℕ) → Fits q (size (base q)) entries
  pub reads : (n : List ℕ) → is_db n ≡ true → (f : ℕ) → is_file f ≡ true → over entries (name n f) (base (name n f)) ≡ get (images n) f
