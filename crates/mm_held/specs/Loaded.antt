-- What a database begins with: its files as they were loaded, whole, and its views.
use Rattle.std.specs.Prelude.{◌≡◌, ℕ, ◌≤◌, List, [], ◌∷◌, ◌++◌, length, Option, Some, None, IsSome}
use Rattle.std.specs.FinMap.{get}
use Rattle.mm_ranges.specs.Limits.{ns_file}
use Rattle.mm_ranges.specs.Overlay.{Image}
use Rattle.mm_ranges.specs.declared.part.Piece.{Piece}
use Rattle.mm_ranges.specs.declared.part.Made.{Made}
use Rattle.mm_ranges.specs.declared.part.Part.{Part}
use Rattle.mm_views.specs.State.{State, IsCovered, weight_in}
use Rattle.mm_held.specs.Meaning.{Meaning, Stored}

-- ---- item 0

-- the files that a database may have, in rising number: the data files 0 to 7, and the name file
unfoldable pub all_files : List ℕ
all_files = 0 ∷ 1 ∷ 2 ∷ 3 ∷ 4 ∷ 5 ∷ 6 ∷ 7 ∷ ns_file ∷ []

-- a file that is there, made with its length
abbrev pub made_for : ℕ → Option (List ℕ) → List Made
made_for file None = []
made_for file (Some bytes) = record { file = file; len = length bytes } ∷ []

-- and all its bytes, as one piece
abbrev pub piece_for : ℕ → Option (List ℕ) → List Piece
piece_for file None = []
piece_for file (Some bytes) = record { file = file; at = 0; bytes = bytes } ∷ []

abbrev pub made_whole : List ℕ → Image → List Made
made_whole [] image = []
made_whole (file ∷ files) image = made_for file (get image file) ++ made_whole files image

abbrev pub pieces_whole : List ℕ → Image → List Piece
pieces_whole [] image = []
pieces_whole (file ∷ files) image = piece_for file (get image file) ++ pieces_whole files image

-- those of these files that are there, each made and whole
abbrev pub files_part : List ℕ → Image → Part
files_part files image = record { name = []; made = made_whole files image; pieces = pieces_whole files image }

-- all files, each made and whole
abbrev pub whole_part : Image → Part
whole_part image = files_part all_files image

-- ---- the views

-- where a file is there, the image stands for a database
abbrev pub StandsIfAny : Meaning → Image → Type 0
StandsIfAny m image = (file : ℕ) → IsSome (get image file) → (db : Stored) × m.stands image db

-- The views of a database that begins are those that were loaded. Where these have no file, the engine's draft of a new database was adopted.
pub record IsBegun (m : Meaning) (old new : State) : Type 0 where
  pub some : (db : Stored) × m.stands old.private db
  pub stands : (db : Stored) → m.stands old.private db → m.stands new.private db
  pub loaded : (file : ℕ) → IsSome (get old.private file) → new ≡ old
  pub shared : new.shared ≡ old.shared
  pub closed : new.closed ≡ []
  pub covered : IsCovered new
  pub light : weight_in new.made new.opened ≤ 67108864
