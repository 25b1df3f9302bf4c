-- A journal's files as the code knows them, and what stands on the disk.
use Rattle.std.specs.Prelude.{◌≡◌, ℕ, ◌+◌, ◌^◌, ◌<◌, List, [], ◌∷◌, ◌++◌, length, map}
use Rattle.mm_outside.specs.Told.{Syncs}
use Rattle.mm_outside.specs.Ask.{Ask}
use Rattle.mm_section.specs.declared.section.Section.{Section}
use Rattle.mm_jfiles.specs.Names.{journal_name}
use Rattle.mm_jfiles.specs.Files.{Files, header_of, last_number, ready, append_asks}
use Rattle.mm_crash.specs.Journal.{Format}
use Rattle.mm_crash.specs.Recovered.{Names}
use Rattle.mm_crash.specs.Rest.{Counts, file_bytes}

-- headers and names are those of the journal's files
pub record Speaks (fmt : Format) (at : Names) : Type 0 where
  pub header : (n : ℕ) → fmt.header n ≡ header_of n
  pub long : (n : ℕ) → length (fmt.header n) ≡ 8192
  pub journal : (n : ℕ) → n < 2 ^ 32 → at.journal n ≡ journal_name n
  pub count : at.count ≡ 2 ^ 32

-- the number of the last section; 0 where there is none
abbrev pub last_of : List Section → ℕ
last_of [] = 0
last_of (x ∷ []) = x.number
last_of (x ∷ y ∷ ys) = last_of (y ∷ ys)

-- the length of the last file
abbrev pub end_of : Format → ℕ → List (List Section) → ℕ
end_of fmt n [] = 0
end_of fmt n (run ∷ []) = length (file_bytes fmt n run)
end_of fmt n (run ∷ next ∷ runs) = end_of fmt (n + 1) (next ∷ runs)

pub record Tracks (fmt : Format) (f : Files) (c : Counts) : Type 0 where
  pub first : f.first ≡ c.first
  pub lasts : f.lasts ≡ map last_of c.runs
  pub end : 0 < length c.runs → f.end ≡ end_of fmt c.first c.runs

-- a section is appended and synced
abbrev pub log_asks : Files → List ℕ → List Ask
log_asks f bytes = append_asks f bytes ++ record { name = journal_name (last_number (ready f)); change = Syncs } ∷ []
