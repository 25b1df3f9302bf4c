-- Files of zeros that wait to be put into an image.
use Rattle.std.specs.Prelude.{Bool, true, ◌&&◌, List, [], ◌∷◌, replicate}
use Rattle.mm_ranges.specs.Limits.{is_file}
use Rattle.std.specs.FinMap.{insert}
use Rattle.mm_ranges.specs.Overlay.{Image}
use Rattle.mm_ranges.specs.declared.part.Made.{Made}
use Rattle.mm_views.specs.declared.parts.Fresh.{Fresh}

-- the files that are made, as zeros
abbrev pub zero_files : List Made → List Fresh
zero_files [] = []
zero_files (m ∷ ms) = record { file = m.file; bytes = replicate m.len 0 } ∷ zero_files ms

-- files put into an image, one after another
abbrev pub with_fresh : List Fresh → Image → Image
with_fresh [] image = image
with_fresh (f ∷ fs) image = with_fresh fs (insert image f.file f.bytes)

-- a database may have them
abbrev pub are_files : List Fresh → Bool
are_files [] = true
are_files (f ∷ fs) = is_file f.file && are_files fs
