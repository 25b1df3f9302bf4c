-- What a dump says of the files of a disk.
use Rattle.std.specs.Prelude.{◌≡◌, ◌≢◌, ℕ, List, [], ◌∷◌, ◌⊎◌, Option, Some, None, string_bytes}
use Rattle.std.specs.FinMap.{get, keys}
use Rattle.mm_outside.specs.Image.{Image}
use Rattle.mm_main.specs.declared.status.Status.{Status}
use Rattle.mm_main.specs.declared.status.Status.TheVariants.{Done, FilesRefused}
use Rattle.mm_main.specs.declared.finding.What.{What}
use Rattle.mm_main.specs.declared.dump.Said.{Said}
use Rattle.mm_main.specs.declared.dump.Said.TheVariants.{Lines, Refusal}
use Rattle.mm_main.specs.Contents.{Shows}
use Rattle.mm_main.specs.Findings.{IsFinding}
use Rattle.mm_main.specs.Stored.{file_name}
use Rattle.mm_main.specs.Texts.{present_text, finding_text}

-- the first of the names that isn't the data file's
abbrev pub IsStray : List ℕ → List (List ℕ) → Type 0
IsStray name [] = ⊥
IsStray name (first ∷ others) = ((first ≢ file_name) × (name ≡ first)) ⊎ ((first ≡ file_name) × IsStray name others)

-- all of the names are the data file's
abbrev pub AreOwn : List (List ℕ) → Type 0
AreOwn [] = Unit {0}
AreOwn (first ∷ others) = (first ≡ file_name) × AreOwn others

abbrev pub IsFirstStray : Option (List ℕ) → List (List ℕ) → Type 0
IsFirstStray None names = AreOwn names
IsFirstStray (Some name) names = IsStray name names

-- the one file is the data file, with these bytes
pub record IsAlone (file : List ℕ) (image : Image) : Type 0 where
  pub there : get image file_name ≡ Some file
  pub alone : (name : List ℕ) → name ≢ file_name → get image name ≡ None

-- the status and the text of a dump of the one data file
abbrev pub DumpsFile : List ℕ → Status → List ℕ → Type 0
DumpsFile file Done text = Shows file text
DumpsFile file FilesRefused text = (at : ℕ) × (what : What) × IsFinding file at what × (text ≡ finding_text at what)
DumpsFile file _ text = ⊥

-- The status and the text of a dump of these files: there is none, or one that isn't the data file, or the data file alone.
abbrev pub IsADump : Image → Status → List ℕ → Type 0
IsADump image state text =
    ((keys image ≡ []) × (state ≡ Done) × (text ≡ []))
    ⊎ (((name : List ℕ) × IsStray name (keys image) × (state ≡ FilesRefused) × (text ≡ present_text name))
    ⊎ ((file : List ℕ) × IsAlone file image × DumpsFile file state text))

-- These are the status and the text of a dump of these files, and no others are.
pub record IsTheDump (image : Image) (state : Status) (text : List ℕ) : Type 0 where
  pub is : IsADump image state text
  pub only : (other : Status) (said : List ℕ) → IsADump image other said → (other ≡ state) × (said ≡ text)

-- what is said, and the status that goes with it
abbrev pub said_text : Said → List ℕ
said_text (Lines text) = text.items
said_text (Refusal text) = string_bytes text

abbrev pub said_status : Said → Status
said_status (Lines text) = Done
said_status (Refusal text) = FilesRefused
