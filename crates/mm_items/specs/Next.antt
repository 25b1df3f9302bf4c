-- A part that may come next behind what was laid over a file.
use Rattle.std.specs.Prelude.{◌≡◌, ℕ, List, ◌++◌, Option}
use Rattle.std.specs.FinMap.{get}
use Rattle.mm_ranges.specs.Overlay as ranges
use Rattle.mm_ranges.specs.declared.part.Part.{Part}
use Rattle.mm_crash.specs.Overlay.{Entry, over, size, Fits, IsMadeOnce}
use Rattle.mm_crash.specs.Journal.{entries_of_part}

-- The file of this number of the part's database, which was `base` at first, and over which these entries were laid.
pub record MayCome (name : List ℕ → ℕ → List ℕ) (before : List Entry) (base : Option (List ℕ)) (image : ranges.Image) (part : Part) (file : ℕ) : Type 0 where
  -- no entry of the file stands before one that makes it
  pub once : IsMadeOnce (name part.name file) (before ++ entries_of_part name part)
  -- each range lies inside the file as it is by then
  pub inside : Fits (name part.name file) (size base) (before ++ entries_of_part name part)
  -- the file reads what the image has with the part laid over it
  pub reads : over (before ++ entries_of_part name part) (name part.name file) base ≡ get (ranges.over part image) file
