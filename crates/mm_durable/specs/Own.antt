-- What sections made and wrote in one database.
use Rattle.std.specs.Prelude.{ℕ, if◌then◌else◌, List, [], ◌∷◌, ◌++◌}
use Rattle.std.specs.Ordering.{eq_by_cmp}
use Rattle.mm_outside.specs.Image.{name_cmp}
use Rattle.mm_ranges.specs.declared.part.Part.{Part}
use Rattle.mm_section.specs.declared.section.Section.{Section}
use Rattle.mm_crash.specs.Overlay.{Entry}
use Rattle.mm_recover.specs.Laying.{part_entries, AreNamed}

-- of a part
abbrev pub own_of : List ℕ → Part → List Entry
own_of name part = if eq_by_cmp name_cmp part.name name then part_entries part else []

abbrev pub own_of_parts : List ℕ → List Part → List Entry
own_of_parts name [] = []
own_of_parts name (part ∷ parts) = own_of name part ++ own_of_parts name parts

abbrev pub own_of_sections : List ℕ → List Section → List Entry
own_of_sections name [] = []
own_of_sections name (section ∷ sections) = own_of_parts name section.parts ++ own_of_sections name sections

-- each part of each section has a database's name
abbrev pub AreAllNamed : List Section → Type 0
AreAllNamed [] = Unit {0}
AreAllNamed (section ∷ sections) = AreNamed section.parts × AreAllNamed sections
