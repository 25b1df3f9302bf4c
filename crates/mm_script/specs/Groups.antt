-- The line of a group: its number and what became of it, and for each database the lines of its entries.
use Rattle.std.specs.Prelude.{ℕ, List, ◌++◌, codes, flat_map}
use Rattle.std.specs.Fmt.{decimal}
use Rattle.mm_script.specs.declared.groups.Fate.{Fate}
use Rattle.mm_script.specs.declared.groups.Fate.TheVariants.{Synced, NotSynced, NotClosed}

-- the section's receipt has a moment; a group without a synced section has none
abbrev pub head_text : ℕ → Fate → List ℕ
head_text number (Synced moment) = codes "section " ++ (decimal number ++ (codes " at " ++ decimal moment))
head_text number NotSynced = codes "group " ++ (decimal number ++ codes " not synced")
head_text number NotClosed = codes "group " ++ (decimal number ++ codes " not closed")

abbrev pub entry_text : ℕ → List ℕ
entry_text line = codes " " ++ decimal line

-- a database's name, and the lines of its entries
abbrev pub database_text : List ℕ × List ℕ → List ℕ
database_text d = codes " " ++ (d.0 ++ (codes ":" ++ flat_map entry_text d.1))

abbrev pub group_text : ℕ → Fate → List (List ℕ × List ℕ) → List ℕ
group_text number fate entries = head_text number fate ++ (flat_map database_text entries ++ codes "\n")
