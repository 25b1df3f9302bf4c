-- What is read of a journal, and the first fault there.
use Rattle.std.specs.Prelude.{◌≡◌, ◌≢◌, ℕ, Bool, ◌&&◌, nat_lt, ◌+◌, ◌-◌, ◌<◌, ◌≤◌, ◌^◌, true, false, List, [], ◌∷◌, ◌++◌, length, map, Option, None, Some, ◌⊎◌, IsSome}
use Rattle.std.specs.List.{list_any}
use Rattle.std.specs.Ordering.{eq_by_cmp}
use Rattle.mm_outside.specs.Image.{name_cmp}
use Rattle.mm_outside.specs.Told.{Told, image_of}
use Rattle.mm_jfiles.specs.Names.{journal_name}
use Rattle.mm_crash.specs.Recovered.{journal_of}
use Rattle.mm_section.specs.declared.section.Section.{Section}
use Rattle.mm_crash.specs.Journal.{spelled, AllCan, HasSections, IsOurs, HasFile, HasRuns, Run, joined}
use Rattle.mm_journal.specs.Tracks.{last_of}
use Rattle.mm_journal.proofs.Real.{the_format, the_names}
use Rattle.mm_recover.specs.declared.fault.Recover.{Recover}
use Rattle.mm_recover.specs.declared.fault.Recover.TheVariants.{DiskFault, NoMemory, BadHeader, JournalGap, BadLength}

-- ---- numbers

-- numbered one after another from this number on
abbrev pub IsCounted : ℕ → List Section → Type 0
IsCounted n [] = Unit {0}
IsCounted n (s ∷ sections) = (s.number ≡ n) × IsCounted (n + 1) sections

-- The sections are numbered without a gap, and none is missing between a readable lsn and the first.
pub record IsGapless (lsn : Option ℕ) (sections : List Section) : Type 0 where
  pub first : ℕ
  pub counted : IsCounted first sections
  pub no_gap : (n : ℕ) → lsn ≡ Some n → sections ≢ [] → first ≤ n + 1

-- a section of this number may come after these
abbrev pub MayFollow : Option ℕ → List Section → ℕ → Type 0
MayFollow lsn [] number = (n : ℕ) → lsn ≡ Some n → number ≤ n + 1
MayFollow lsn (x ∷ xs) number = number ≡ last_of (x ∷ xs) + 1

-- A section of this number is a gap after these: another was due, or an earlier one as the first.
abbrev pub IsGap : Option ℕ → List Section → ℕ → ℕ → Type 0
IsGap lsn [] expected found = (n : ℕ) × (lsn ≡ Some n) × (expected ≡ n + 1) × (expected < found)
IsGap lsn (x ∷ xs) expected found = (expected ≡ last_of (x ∷ xs) + 1) × (found ≢ expected)

-- ---- the sections of one file, after those of earlier ones

pub record HasMore (lsn : Option ℕ) (n : ℕ) (bytes : List ℕ) (old all : List Section) : Type 0 where
  pub new : List Section
  pub is : all ≡ old ++ new
  pub has : HasSections the_format n bytes new
  pub gapless : IsGapless lsn old → IsGapless lsn all

-- The sections of the file up to this one follow without a gap, and this one doesn't.
pub record HasGap (lsn : Option ℕ) (n : ℕ) (bytes : List ℕ) (old : List Section) (expected found : ℕ) : Type 0 where
  pub front : List Section
  pub next : Section
  pub rest : List ℕ
  pub is : bytes ≡ spelled the_format n front ++ (the_format.section n next ++ rest)
  pub can : AllCan the_format (front ++ next ∷ [])
  pub gapless : IsGapless lsn old → IsGapless lsn (old ++ front)
  pub number : next.number ≡ found
  pub gap : IsGap lsn (old ++ front) expected found

-- the error is want of memory, or the gap that stands there
abbrev pub EndsAtGap : Option ℕ → ℕ → List ℕ → List Section → Recover → Type 0
EndsAtGap lsn n bytes old NoMemory = Unit {0}
EndsAtGap lsn n bytes old (JournalGap expected found) = HasGap lsn n bytes old expected found
EndsAtGap lsn n bytes old DiskFault = ⊥
EndsAtGap lsn n bytes old (BadHeader file) = ⊥
EndsAtGap lsn n bytes old (BadLength file len) = ⊥

-- their numbers have a next one
abbrev pub AreSmall : List Section → Type 0
AreSmall [] = Unit {0}
AreSmall (s ∷ sections) = (s.number < 2 ^ 64 - 1) × AreSmall sections

-- this is the number of the last section, and has a next one
pub record IsLast (sections : List Section) (n : ℕ) : Type 0 where
  pub some : 0 < length sections
  pub is : n ≡ last_of sections
  pub small : n < 2 ^ 64 - 1

-- ---- one file

-- the file's front is neither this file's header nor no header at all
abbrev pub IsForeign : ℕ → List ℕ → Type 0
IsForeign n bytes = (IsOurs the_format n bytes → ⊥) × (the_format.is_broken n bytes ≡ false)

-- the file's sections come after those of earlier ones
pub record TakesFile (lsn : Option ℕ) (n : ℕ) (is_last : Bool) (bytes : List ℕ) (old all : List Section) : Type 0 where
  pub new : List Section
  pub is : all ≡ old ++ new
  pub has : HasFile the_format n is_last (Some bytes) new
  pub gapless : IsGapless lsn old → IsGapless lsn all

-- Behind its header there is a gap.
pub record HasGapBehind (lsn : Option ℕ) (n : ℕ) (bytes : List ℕ) (old : List Section) (expected found : ℕ) : Type 0 where
  pub rest : List ℕ
  pub is : bytes ≡ the_format.header n ++ rest
  pub gap : HasGap lsn n rest old expected found

-- The file begins with another version's header, or with none of a journal, and isn't the last.
abbrev pub HasBadFront : ℕ → Bool → List ℕ → Type 0
HasBadFront n is_last bytes = IsForeign n bytes ⊎ ((the_format.is_broken n bytes ≡ true) × (is_last ≡ false))

abbrev pub HasFileFault : Option ℕ → ℕ → Bool → List ℕ → List Section → Recover → Type 0
HasFileFault lsn n is_last bytes old NoMemory = Unit {0}
HasFileFault lsn n is_last bytes old (JournalGap expected found) = HasGapBehind lsn n bytes old expected found
HasFileFault lsn n is_last bytes old (BadHeader file) = (file ≡ n) × HasBadFront n is_last bytes
HasFileFault lsn n is_last bytes old DiskFault = ⊥
HasFileFault lsn n is_last bytes old (BadLength file len) = ⊥

-- ---- the journal's files

-- The files below the k-th, from the n-th on, are these, each with its header and its sections.
abbrev pub HasRunsTo : ℕ → (ℕ → Option (List ℕ)) → ℕ → List Run → Type 0
HasRunsTo k left n [] = (m : ℕ) → n ≤ m → m < k → left m ≡ None
HasRunsTo k left n (run ∷ runs) = (n ≤ run.0) × (((m : ℕ) → n ≤ m → m < run.0 → left m ≡ None) × (HasFile the_format run.0 false (left run.0) run.1 × HasRunsTo k left (run.0 + 1) runs))

-- the files from the n-th on have these numbers
abbrev pub AreNumbers : (ℕ → Option (List ℕ)) → ℕ → List ℕ → Type 0
AreNumbers left n [] = (m : ℕ) → n ≤ m → left m ≡ None
AreNumbers left n (k ∷ numbers) = (n ≤ k) × (((m : ℕ) → n ≤ m → m < k → left m ≡ None) × (IsSome (left k) × AreNumbers left (k + 1) numbers))

-- this is the name of the journal's file of this number
abbrev pub is_number_of : List ℕ → ℕ → Bool
is_number_of name n = nat_lt n (2 ^ 32) && eq_by_cmp name_cmp (journal_name n) name

-- one of the names is that of the journal's file of this number
abbrev pub has_number : List (List ℕ) → ℕ → Bool
has_number names n = list_any (λ name. is_number_of name n) names

-- the journal's files as they read, by number
abbrev pub journal_in : Told → ℕ → Option (List ℕ)
journal_in t = journal_of the_names (image_of t)

-- where the file of this number is there, its sections come after those of earlier ones
abbrev pub TakesFrom : Option ℕ → (ℕ → Option (List ℕ)) → ℕ → Bool → List Section → List Section → Type 0
TakesFrom lsn left n is_last old all = (bytes : List ℕ) → left n ≡ Some bytes → TakesFile lsn n is_last bytes old all

-- the error is a failure of the disk, or where the file of this number is there, its own
abbrev pub HasFaultFrom : Option ℕ → (ℕ → Option (List ℕ)) → ℕ → Bool → List Section → Recover → Type 0
HasFaultFrom lsn left n is_last old e = (e ≡ DiskFault) ⊎ ((bytes : List ℕ) → left n ≡ Some bytes → HasFileFault lsn n is_last bytes old e)

-- each of the files has its header and its sections
abbrev pub AllRuns : (ℕ → Option (List ℕ)) → List Run → Type 0
AllRuns left [] = Unit {0}
AllRuns left (run ∷ runs) = HasFile the_format run.0 false (left run.0) run.1 × AllRuns left runs

abbrev pub numbers_of : List Run → List ℕ
numbers_of runs = map (λ (run : Run). run.0) runs

-- the files of these numbers are good, and these are their sections
pub record HasFront (lsn : Option ℕ) (left : ℕ → Option (List ℕ)) (numbers : List ℕ) (sections : List Section) : Type 0 where
  pub runs : List Run
  pub has : AllRuns left runs
  pub numbers_are : numbers_of runs ≡ numbers
  pub all : joined runs ≡ sections
  pub gapless : IsGapless lsn sections

-- the journal is good, and these are its files and its sections
pub record ReadsAs (lsn : Option ℕ) (left : ℕ → Option (List ℕ)) (numbers : List ℕ) (sections : List Section) : Type 0 where
  pub runs : List Run
  pub has : HasRuns the_format left 0 runs
  pub numbers_are : numbers_of runs ≡ numbers
  pub all : joined runs ≡ sections
  pub gapless : IsGapless lsn sections

-- The files below are good, and this one begins with another version's header, or with none of a journal where a later file is there.
pub record HasBadHeader (lsn : Option ℕ) (left : ℕ → Option (List ℕ)) (n : ℕ) : Type 0 where
  pub runs : List Run
  pub before : HasRunsTo n left 0 runs
  pub gapless : IsGapless lsn (joined runs)
  pub bytes : List ℕ
  pub is : left n ≡ Some bytes
  pub bad : IsForeign n bytes ⊎ ((the_format.is_broken n bytes ≡ true) × ((m : ℕ) × (n < m) × IsSome (left m)))

-- the files below are good, and this one has its header, and a gap in its sections
pub record HasJournalGap (lsn : Option ℕ) (left : ℕ → Option (List ℕ)) (expected found : ℕ) : Type 0 where
  pub runs : List Run
  pub n : ℕ
  pub before : HasRunsTo n left 0 runs
  pub gapless : IsGapless lsn (joined runs)
  pub bytes : List ℕ
  pub is : left n ≡ Some (the_format.header n ++ bytes)
  pub gap : HasGap lsn n bytes (joined runs) expected found

-- this is the first fault of the journal
abbrev pub HasFault : Option ℕ → (ℕ → Option (List ℕ)) → Recover → Type 0
HasFault lsn left (BadHeader file) = HasBadHeader lsn left file
HasFault lsn left (JournalGap expected found) = HasJournalGap lsn left expected found
HasFault lsn left (BadLength file len) = ⊥
HasFault lsn left DiskFault = Unit {0}
HasFault lsn left NoMemory = Unit {0}
