-- Which database a data file is of.
use Rattle.std.specs.Prelude.{◌≡◌, ℕ, ◌+◌, Bool, true, false, ◌||◌, ◌==◌, if◌then◌else◌, IsTrue, List, [], ◌∷◌, ◌++◌, map}
use Rattle.std.specs.Ordering.{eq_by_cmp}
use Rattle.mm_outside.specs.Image.{name_cmp}
use Rattle.mm_ranges.specs.declared.part.Part.{Part}
use Rattle.mm_ranges.specs.Limits.{ns_file}
use Rattle.mm_journal.specs.Real.{disk_name}
use Rattle.mm_section.specs.Spells.{is_db_name}
use Rattle.mm_section.specs.declared.section.Section.{Section}

-- what stands before the first full stop
abbrev pub stem : List ℕ → List ℕ
stem [] = []
stem (b ∷ bytes) = if b == 0x2e then [] else b ∷ stem bytes

-- the place of a name among these, or how many they are
abbrev pub index_of : List (List ℕ) → List ℕ → ℕ
index_of [] name = 0
index_of (n ∷ names) name = if eq_by_cmp name_cmp n name then 0 else 1 + index_of names name

-- the number of the database whose file it is
abbrev pub db_of : List (List ℕ) → List ℕ → ℕ
db_of names file = index_of names (stem file)

-- it is one of these
abbrev pub has_name : List (List ℕ) → List ℕ → Bool
has_name [] name = false
has_name (n ∷ names) name = eq_by_cmp name_cmp n name || has_name names name

-- names of databases, each another
abbrev pub AreDatabases : List (List ℕ) → Type 0
AreDatabases [] = Unit {0}
AreDatabases (n ∷ names) = IsTrue (is_db_name n) × ((has_name names n ≡ false) × AreDatabases names)

-- each part is of one of these databases
abbrev pub ArePartsOf : List (List ℕ) → List Part → Type 0
ArePartsOf names [] = Unit {0}
ArePartsOf names (part ∷ parts) = (has_name names part.name ≡ true) × ArePartsOf names parts

abbrev pub AreSectionsOf : List (List ℕ) → List Section → Type 0
AreSectionsOf names [] = Unit {0}
AreSectionsOf names (section ∷ sections) = ArePartsOf names section.parts × AreSectionsOf names sections

-- the files of a database that have these numbers
abbrev pub names_of : List ℕ → List ℕ → List (List ℕ)
names_of name files = map (disk_name name) files

-- the files that a database may have: the name file, and eight data files
abbrev pub files_of : List ℕ → List (List ℕ)
files_of name = names_of name (ns_file ∷ 0 ∷ 1 ∷ 2 ∷ 3 ∷ 4 ∷ 5 ∷ 6 ∷ 7 ∷ [])

abbrev pub all_files : List (List ℕ) → List (List ℕ)
all_files [] = []
all_files (name ∷ names) = files_of name ++ all_files names
