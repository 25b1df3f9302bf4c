-- The files in memory, as an image.
use Rattle.std.specs.Prelude.{◌≡◌, ℕ, List, map, Option, String, Vec, string_bytes}
use Rattle.std.specs.declared.alloc.Global.{Global}
use Rattle.std.specs.Option.{option_map}
use Rattle.std.specs.BTreeMap.{BTreeMap, get_by_text}
use Rattle.std.specs.FinMap.{get, from_entries}
use Rattle.mm_outside.specs.Image.{Image}

abbrev pub Files : Type 0
Files = BTreeMap (String Global) (Vec ℕ Global)

-- the bytes of each file, under the bytes of its name
abbrev pub image_of_entries : List (String Global × Vec ℕ Global) → Image
image_of_entries entries = from_entries (map (λ (e : String Global × Vec ℕ Global). (string_bytes e.0, e.1.items)) entries)

-- the bytes of a file
abbrev pub file_at : Files → List ℕ → Option (List ℕ)
file_at files name = option_map (λ (v : Vec ℕ Global). v.items) (get_by_text files name)

-- the files read as the image
abbrev pub Reads : Files → Image → Type 0
Reads files image = (name : List ℕ) → file_at files name ≡ get image name

-- whatever the old files read as, the new ones read as what the step makes of it
abbrev pub Follows : Files → Files → (Image → Image) → Type 0
Follows old new step = (image : Image) → Reads old image → Reads new (step image)
