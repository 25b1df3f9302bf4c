-- The files in memory, as an image. A data file stands in the slot of its number, the name file in the one behind them.
use Rattle.std.specs.Prelude.{ℕ, suc, ◌+◌, ◌-◌, List, [], ◌∷◌, Option, Some, None, if◌then◌else◌, nat_lt}
use Rattle.std.specs.FinMap.{insert, empty}
use Rattle.mm_ranges.specs.Limits.{ns_file}
use Rattle.mm_ranges.specs.Overlay.{Image}

-- the number of the file in a slot
abbrev pub number_of : ℕ → ℕ
number_of slot = if nat_lt slot 8 then slot else ns_file + (slot - 8)

-- the slot of a file
abbrev pub slot_of : ℕ → ℕ
slot_of file = if nat_lt file 8 then file else 8

abbrev pub with_slot : ℕ → Option (List ℕ) → Image → Image
with_slot file None image = image
with_slot file (Some bytes) image = insert image file bytes

-- the files in the slots from one on
abbrev pub image_from : ℕ → List (Option (List ℕ)) → Image
image_from slot [] = empty
image_from slot (file ∷ files) = with_slot (number_of slot) file (image_from (suc slot) files)

abbrev pub image_of : List (Option (List ℕ)) → Image
image_of files = image_from 0 files
