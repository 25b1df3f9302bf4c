-- The texts of a run that isn't begun, of one that failed, and of a data file with a finding.
use Rattle.std.specs.Prelude.{ℕ, List, ◌++◌, codes}
use Rattle.std.specs.Fmt.{decimal}
use Rattle.mm_script.specs.declared.fault.LineWhat.{LineWhat}
use Rattle.mm_script.specs.Texts.{what_text}
use Rattle.mm_main.specs.declared.finding.What.{What}
use Rattle.mm_main.specs.declared.finding.What.TheVariants.{File, Extent, Chain, Tiling, Document}

-- the words give no command; opaque, since it is long
unfoldable pub usage_text : List ℕ
usage_text = codes "usage: mmap play or run or recover or dump or check or gen FOLDER [--db LIST] [--nsmb N] [--jkb N] [--commit N] [--flush N] [--stamp N] [--seed N] [--count N]\n"

-- the disk failed, the source failed, memory ran out
abbrev pub disk_fault_text : List ℕ
disk_fault_text = codes "disk fault\n"

abbrev pub source_fault_text : List ℕ
source_fault_text = codes "source fault\n"

abbrev pub no_memory_text : List ℕ
no_memory_text = codes "no memory\n"

-- a line of a script is refused
abbrev pub refusal_text : ℕ → LineWhat → List ℕ
refusal_text line what = codes "line " ++ (decimal line ++ (codes ": " ++ (what_text what ++ codes "\n")))

-- a file is there
abbrev pub present_text : List ℕ → List ℕ
present_text name = codes "bad file " ++ (name ++ codes " 0 present\n")

-- the word of a part of the format
abbrev pub word_of : What → List ℕ
word_of File = codes "file"
word_of Extent = codes "extent"
word_of Chain = codes "chain"
word_of Tiling = codes "tiling"
word_of Document = codes "document"

-- what is first wrong in the data file
abbrev pub finding_text : ℕ → What → List ℕ
finding_text at what = codes "bad file test.0 " ++ (decimal at ++ (codes " " ++ (word_of what ++ codes "\n")))
