-- What the files of one database are in memory, with the sections above the lsn laid over them.
use Rattle.std.specs.Prelude.{◌≡◌, ◌≢◌, ℕ, ◌+◌, ◌<◌, ◌≤◌, true, false, ◌==◌, if◌then◌else◌, List, [], Option, None}
use Rattle.std.specs.FinMap.{get}
use Rattle.mm_ranges.specs.Limits.{ns_file, is_file, most_of}
use Rattle.mm_views.specs.State.{State}
use Rattle.mm_outside.specs.Image.{Image}
use Rattle.mm_section.specs.declared.section.Section.{Section}
use Rattle.mm_crash.specs.Overlay.{over, size}
use Rattle.mm_crash.specs.Recovered.{Files, Recovers}
use Rattle.mm_journal.specs.Real.{disk_name}
use Rattle.mm_journal.proofs.Real.{the_format, the_names}
use Rattle.mm_recover.specs.declared.fault.Recover.{Recover}
use Rattle.mm_recover.specs.declared.fault.Recover.TheVariants.{DiskFault, NoMemory, BadHeader, JournalGap, BadLength}
use Rattle.mm_recover.specs.Recovering.{ReadsLog, IsFaultOf, laid_by}

-- a database's files, by number
abbrev pub Numbered : Type 0
Numbered = ℕ → Option (List ℕ)

-- its files in an image, with the sections above the lsn laid over them
abbrev pub files_with : Image → Option ℕ → List Section → List ℕ → ℕ → Option (List ℕ)
files_with image lsn sections name file = over (laid_by lsn sections) (disk_name name file) (get image (disk_name name file))

-- the files go in this order: the name file, and then 0 to 7
abbrev pub order_of : ℕ → ℕ
order_of file = if file == ns_file then 0 else file + 1

-- Both images are the same, and nothing is made, opened or closed.
pub record IsQuiet (views : State) : Type 0 where
  pub same : views.private ≡ views.shared
  pub made : views.made ≡ []
  pub opened : views.opened ≡ []
  pub closed : views.closed ≡ []

-- The views have this file more, which isn't too long; the others are as they were.
pub record TakesIn (file : ℕ) (content : Option (List ℕ)) (old new : State) : Type 0 where
  pub its : get old.shared file ≡ None → get new.shared file ≡ content
  pub others : (other : ℕ) → other ≢ file → get new.shared other ≡ get old.shared other
  pub short : size content ≤ most_of file

-- the error is the outside's, or the file has so many bytes, which are more than it may have
abbrev pub IsTooLong : ℕ → Option (List ℕ) → Recover → Type 0
IsTooLong file content (BadLength n len) = (n ≡ file) × (len ≡ size content) × (most_of file < len)
IsTooLong file content (BadHeader n) = ⊥
IsTooLong file content (JournalGap expected found) = ⊥
IsTooLong file content DiskFault = Unit {0}
IsTooLong file content NoMemory = Unit {0}

-- The views have so many of the files, the first ones, of which none is too long, and no other.
pub record HasFirst (files : Numbered) (count : ℕ) (views : State) : Type 0 where
  pub has : (file : ℕ) → is_file file ≡ true → order_of file < count → get views.shared file ≡ files file
  pub short : (file : ℕ) → is_file file ≡ true → order_of file < count → size (files file) ≤ most_of file
  pub none : (file : ℕ) → count ≤ order_of file → get views.shared file ≡ None

-- This is the first file, in their order, that has more bytes than it may have.
pub record IsFirstTooLong (files : Numbered) (file len : ℕ) : Type 0 where
  pub is : is_file file ≡ true
  pub counted : len ≡ size (files file)
  pub long : most_of file < len
  pub before : (other : ℕ) → is_file other ≡ true → order_of other < order_of file → size (files other) ≤ most_of other

-- the error is the outside's, or tells the first file that is too long
abbrev pub TellsTooLong : Numbered → Recover → Type 0
TellsTooLong files (BadLength file len) = IsFirstTooLong files file len
TellsTooLong files (BadHeader file) = ⊥
TellsTooLong files (JournalGap expected found) = ⊥
TellsTooLong files DiskFault = Unit {0}
TellsTooLong files NoMemory = Unit {0}

-- The views hold the database's files with the sections above the lsn laid over them, each within its limit, and no other file. Of a whole
-- image, these are the recovered files.
pub record IsLoaded (image : Image) (name : List ℕ) (views : State) : Type 0 where
  pub lsn : Option ℕ
  pub numbers : List ℕ
  pub sections : List Section
  pub log : ReadsLog image lsn numbers sections
  pub files : (file : ℕ) → is_file file ≡ true → get views.shared file ≡ files_with image lsn sections name file
  pub short : (file : ℕ) → is_file file ≡ true → size (files_with image lsn sections name file) ≤ most_of file
  pub others : (file : ℕ) → is_file file ≡ false → get views.shared file ≡ None
  pub whole : (recovered : Files) → Recovers the_format the_names image recovered → (file : ℕ) → is_file file ≡ true → get views.shared file ≡ recovered (disk_name name file)

-- With the sections above the lsn laid over the database's files, this one is the first that is too long.
pub record HasBadLength (image : Image) (name : List ℕ) (file len : ℕ) : Type 0 where
  pub lsn : Option ℕ
  pub numbers : List ℕ
  pub sections : List Section
  pub log : ReadsLog image lsn numbers sections
  pub first : IsFirstTooLong (files_with image lsn sections name) file len

-- the journal's first fault, or else the first file that is too long
abbrev pub IsFaultOfLoad : Image → List ℕ → Recover → Type 0
IsFaultOfLoad image name (BadLength file len) = HasBadLength image name file len
IsFaultOfLoad image name (BadHeader file) = IsFaultOf image (BadHeader file)
IsFaultOfLoad image name (JournalGap expected found) = IsFaultOf image (JournalGap expected found)
IsFaultOfLoad image name DiskFault = Unit {0}
IsFaultOfLoad image name NoMemory = Unit {0}
