-- A file in memory that entries are laid over.
use Rattle.std.specs.Prelude.{◌≡◌, ℕ, List, Option, Vec}
use Rattle.std.specs.declared.alloc.Global.{Global}
use Rattle.std.specs.Option.{option_map}
use Rattle.mm_crash.specs.Overlay.{Entry, over}
use Rattle.mm_journal.specs.Real.{disk_name}
use Rattle.mm_recover.specs.declared.overlaying.DataFile.{DataFile}

-- the name of a database's file on the disk
abbrev pub own_name : DataFile → List ℕ
own_name file = disk_name file.name file.number

-- a file that may be there, in memory
abbrev pub Content : Type 0
Content = Option (Vec ℕ Global)

-- its bytes
abbrev pub bytes_of : Content → Option (List ℕ)
bytes_of content = option_map (λ (v : Vec ℕ Global). v.items) content

-- the new file is the old one with the entries of this name laid over it
abbrev pub LaysOver : List Entry → List ℕ → Content → Content → Type 0
LaysOver entries file old new = bytes_of new ≡ over entries file (bytes_of old)
