-- The files of a journal as the side that appends knows them, and the calls that it makes of a disk.
use Rattle.std.specs.Prelude.{ℕ, zero, suc, ◌+◌, ◌-◌, Bool, ◌||◌, if◌then◌else◌, nat_le, ◌==◌, List, [], ◌∷◌, ◌++◌, length, take, drop}
use Rattle.mm_outside.specs.Told.{Writes, Syncs, Removes}
use Rattle.mm_outside.specs.Ask.{Ask, new_file_asks}
use Rattle.mm_jfiles.specs.Names.{journal_name}
use Rattle.mm_frames.specs.JournalHeader.{journal_header_bytes}

-- the header of the file of this number, whose id is one more
abbrev pub header_of : ℕ → List ℕ
header_of n = journal_header_bytes (n + 1)

-- The number of the first file, the last section of each file (0 where it has none), the length of the last file, and the limit.
pub record Files : Type 0 where
  pub limit : ℕ
  pub first : ℕ
  pub lasts : List ℕ
  pub end : ℕ

-- the number of the next new file
abbrev pub next_number : Files → ℕ
next_number f = f.first + length f.lasts

-- the next section goes into a new file
abbrev pub is_full : Files → Bool
is_full f = length f.lasts == 0 || nat_le f.limit f.end

-- a new file, with its header
abbrev pub begun : Files → Files
begun f = record f { lasts = f.lasts ++ 0 ∷ []; end = 8192 }

abbrev pub begin_asks : Files → List Ask
begin_asks f = new_file_asks (journal_name (next_number f)) (header_of (next_number f))

-- the file into which the next section goes
abbrev pub ready : Files → Files
ready f = if is_full f then begun f else f

-- the number of the last file
abbrev pub last_number : Files → ℕ
last_number f = next_number f - 1

-- a section of this number is written behind the last file's bytes
abbrev pub written : ℕ → ℕ → Files → Files
written number len f = record f { lasts = take (length f.lasts - 1) f.lasts ++ number ∷ []; end = f.end + len }

abbrev pub write_ask : Files → List ℕ → Ask
write_ask f bytes = record { name = journal_name (last_number f); change = Writes f.end bytes }

abbrev pub append_asks : Files → List ℕ → List Ask
append_asks f bytes = (if is_full f then begin_asks f else []) ++ write_ask (ready f) bytes ∷ []

-- without the first k files
abbrev pub dropped : ℕ → Files → Files
dropped k f = record f { first = f.first + k; lasts = drop k f.lasts }

abbrev pub remove_asks : ℕ → ℕ → List Ask
remove_asks first zero = []
remove_asks first (suc k) = record { name = journal_name first; change = Removes } ∷ remove_asks (first + 1) k

-- how many of the first files, one after another and without the last, have no section above a number
abbrev pub how_many : ℕ → List ℕ → ℕ
how_many upto [] = 0
how_many upto (x ∷ []) = 0
how_many upto (x ∷ y ∷ ys) = if nat_le x upto then 1 + how_many upto (y ∷ ys) else 0

-- the last file is synced
abbrev pub sync_ask : Files → Ask
sync_ask f = record { name = journal_name (last_number f); change = Syncs }
