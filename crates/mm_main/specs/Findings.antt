-- What is first wrong in a data file of one collection (MongoDB 2.6, MMAPv1), in this order: the file's header, the extent's header, the chain of
-- records, then one record behind the other its place and length and its document, then the deleted block behind the last.
use Rattle.std.specs.Prelude.{◌≡◌, ◌≢◌, ℕ, zero, ℤ, pos, negsuc, ◌+◌, ◌-◌, ◌<◌, ◌≤◌, ◌⊎◌, if◌then◌else◌, nat_lt, nat_eq, List, [], ◌∷◌, ◌++◌, length, Contains, Result, Ok, Err}
use Rattle.std.specs.List.{IsDistinct}
use Rattle.mm_base.specs.Bytes.{part}
use Rattle.mm_base.specs.Fields.{i32_of}
use Rattle.mm_base.specs.Places.{null}
use Rattle.mm_base.specs.Tables.{HasAll}
use Rattle.mm_base.specs.declared.place.DiskLoc.{DiskLoc}
use Rattle.mm_frames.specs.ExtentHeader.{extent_header_table}
use Rattle.mm_frames.specs.RecHeader.{rec_header_of, rec_header_table}
use Rattle.mm_frames.specs.declared.extent_header.ExtentHeader.{ExtentHeader}
use Rattle.mm_bson.specs.Tree.{Elements}
use Rattle.mm_bson.specs.Spelling.{IsDocument, spelling}
use Rattle.mm_main.specs.declared.chain.Link.{Link}
use Rattle.mm_main.specs.declared.chain.Link.TheVariants.{End, To, Outside}
use Rattle.mm_main.specs.declared.finding.What.{What}
use Rattle.mm_main.specs.declared.finding.What.TheVariants.{File, Extent, Chain, Tiling, Document}
use Rattle.mm_main.specs.declared.finding.Unreadable.{Unreadable}
use Rattle.mm_main.specs.declared.finding.Unreadable.TheVariants.{Found, NoMemory}
use Rattle.mm_main.specs.DataFile.{at_file_0, extent_with, linked, HasFileHeader, IsRest}
use Rattle.mm_main.specs.Collections.{IsCollection}
use Rattle.mm_main.specs.Room.{file_len, extent_at, first_at, request, block_len}

-- ---- the headers

-- the length and the header of a file that has no extent yet, or one that takes all of it
abbrev pub IsHeaded : List ℕ → Type 0
IsHeaded file = (length file ≡ file_len) × (HasFileHeader file extent_at ⊎ HasFileHeader file file_len)

-- the header of the one extent, with these places of its first and its last record
abbrev pub extent_linking : List ℕ → DiskLoc → DiskLoc → ExtentHeader
extent_linking collection first last = record (extent_with collection (pos first_at)) { first_record = first; last_record = last }

-- the file is headed, and its one extent is a collection's
pub record IsOpened (file collection : List ℕ) (first last : DiskLoc) : Type 0 where
  pub size : length file ≡ file_len
  pub header : HasFileHeader file file_len
  pub name : IsCollection collection
  pub extent : HasAll (part extent_at 176 file) (extent_header_table (extent_linking collection first last))

-- ---- the chain of records

-- where an offset of the file leads
abbrev pub to_offset : ℤ → Link
to_offset (pos ofs) = if nat_lt ofs file_len then To ofs else Outside
to_offset (negsuc n) = Outside

-- where the link of a record leads: -1 ends the chain
abbrev pub link_of : ℤ → Link
link_of (negsuc zero) = End
link_of ofs = to_offset ofs

-- where a place leads, by its file and its offset
abbrev pub link_in : ℤ → ℤ → Link
link_in (negsuc zero) ofs = End
link_in (pos zero) ofs = to_offset ofs
link_in file ofs = Outside

-- where the place of the first record leads: the null place begins no chain
abbrev pub place_link : DiskLoc → Link
place_link place = link_in place.file place.ofs

-- A record at an offset of the extent, behind another. Its place with its header lies in the extent.
pub record IsLinked (file : List ℕ) (prev : ℤ) (at : ℕ) : Type 0 where
  pub behind : extent_at ≤ at
  pub inside : at + 16 ≤ file_len
  pub len : ℕ
  pub long : 32 ≤ len
  pub next : ℤ
  pub header : HasAll (part at 16 file) (rec_header_table (linked len prev next))

-- from a link on, the records at these offsets are linked one to the other, and the last of them leads on
abbrev pub Leads : List ℕ → ℤ → Link → List ℕ → Link → Type 0
Leads file prev link [] end = link ≡ end
Leads file prev link (at ∷ ats) end = (link ≡ To at) × (here : IsLinked file prev at) × Leads file (pos at) (link_of here.next) ats end

-- the chain begins with the records at these offsets, none of them twice, and leads on from the last
pub record IsFollowed (file : List ℕ) (first : DiskLoc) (ats : List ℕ) (link : Link) : Type 0 where
  pub leads : Leads file (negsuc 0) (place_link first) ats link
  pub once : IsDistinct nat_eq ats

-- the last of some offsets, or another where there is none
abbrev pub last_or : ℕ → List ℕ → ℕ
last_or other [] = other
last_or other (at ∷ ats) = last_or at ats

-- what a record has for the one before it, where the chain begins with these
abbrev pub prev_of : List ℕ → ℤ
prev_of [] = negsuc 0
prev_of (at ∷ ats) = pos (last_or at ats)

-- the place of the last record, or null
abbrev pub last_place : List ℕ → DiskLoc
last_place [] = null
last_place (at ∷ ats) = at_file_0 (pos (last_or at ats))

-- What is wrong behind the first records of a chain. A link to an offset of the file is wrong there; one that leads outside, at the frame that
-- has it; and the extent names another last record.
abbrev pub FailsBehind : List ℕ → DiskLoc → List ℕ → Link → ℕ → Type 0
FailsBehind file last ats (To place) at = (at ≡ place) × (IsLinked file (prev_of ats) place × (Contains ats place → ⊥) → ⊥)
FailsBehind file last ats Outside at = at ≡ last_or extent_at ats
FailsBehind file last ats End at = (at ≡ extent_at) × (last ≢ last_place ats)

-- the records at these offsets are the whole chain
pub record IsChained (file collection : List ℕ) (ats : List ℕ) : Type 0 where
  pub first : DiskLoc
  pub last : DiskLoc
  pub opened : IsOpened file collection first last
  pub followed : IsFollowed file first ats End
  pub last_is : last ≡ last_place ats

-- ---- the layout and the documents

-- the room of the record at an offset begins with the length of a document, which has 5 to 16,777,216 bytes
pub record Announces (file : List ℕ) (at n : ℕ) : Type 0 where
  pub begins : i32_of (part (at + 16) 4 file) ≡ pos n
  pub least : 5 ≤ n
  pub most : n ≤ 0x100_0000

-- the record at an offset is as long as is due for a document of n bytes, whose block has room there
pub record IsDue (file : List ℕ) (at n : ℕ) : Type 0 where
  pub room : request n ≤ file_len - at
  pub long : (rec_header_of (part at 16 file)).length_with_headers ≡ pos (block_len at n)

-- the room of the record at an offset begins with this document
pub record Begins (file : List ℕ) (at : ℕ) (doc : Elements) : Type 0 where
  pub document : IsDocument doc
  pub bytes : part (at + 16) (length (spelling doc)) file ≡ spelling doc

-- What is wrong with the record at an offset, by its own bytes: it has another length than is due for its document, or else no document.
abbrev pub IsMislaid : List ℕ → ℕ → Type 0
IsMislaid file at = (n : ℕ) × Announces file at n × (IsDue file at n → ⊥)

abbrev pub FailsAt : List ℕ → ℕ → What → Type 0
FailsAt file at Tiling = IsMislaid file at
FailsAt file at Document = (IsMislaid file at → ⊥) × ((doc : Elements) → Begins file at doc → ⊥)
FailsAt file at _ = ⊥

-- the record at an offset holds this document and has the length that is due
pub record IsLaid (file : List ℕ) (at : ℕ) (doc : Elements) : Type 0 where
  pub begins : Begins file at doc
  pub due : IsDue file at (length (spelling doc))

-- where the block behind a document's record begins
abbrev pub next_at : ℕ → Elements → ℕ
next_at at doc = at + block_len at (length (spelling doc))

-- the offsets of the records of these documents, back to back, and where the last one ends
abbrev pub offsets : ℕ → List Elements → List ℕ
offsets at [] = []
offsets at (doc ∷ docs) = at ∷ offsets (next_at at doc) docs

abbrev pub end_of : ℕ → List Elements → ℕ
end_of at [] = at
end_of at (doc ∷ docs) = end_of (next_at at doc) docs

abbrev pub AreLaid : List ℕ → ℕ → List Elements → Type 0
AreLaid file at [] = Unit {0}
AreLaid file at (doc ∷ docs) = IsLaid file at doc × AreLaid file (next_at at doc) docs

-- the chain's first records hold these documents, back to back, and others follow in it
pub record IsLaidUpTo (file : List ℕ) (docs : List Elements) (others : List ℕ) (ats : List ℕ) : Type 0 where
  pub places : ats ≡ offsets first_at docs ++ others
  pub laid : AreLaid file first_at docs

-- All of the records are laid, and there is one. What is left behind the last is nothing, or one deleted block.
pub record IsTiled (file : List ℕ) (docs : List Elements) (ats : List ℕ) : Type 0 where
  pub laid : IsLaidUpTo file docs [] ats
  pub some : 0 < length docs
  pub rest : IsRest file (end_of first_at docs)

-- what is wrong where the next record is due: the chain's next one lies elsewhere, or it is wrong itself
abbrev pub FailsNext : List ℕ → List Elements → List ℕ → ℕ → What → Type 0
FailsNext file docs [] at Tiling = 0 < length docs → IsRest file at → ⊥
FailsNext file docs [] at _ = ⊥
FailsNext file docs (place ∷ others) at Tiling = (place ≢ at) ⊎ FailsAt file at Tiling
FailsNext file docs (place ∷ others) at what = (place ≡ at) × FailsAt file at what

-- the first records are laid, and the layout or a document is wrong behind them
abbrev pub Breaks : List ℕ → List ℕ → ℕ → What → Type 0
Breaks file ats at what = (docs : List Elements) × (others : List ℕ) × IsLaidUpTo file docs others ats × (at ≡ end_of first_at docs) × FailsNext file docs others at what

-- ---- the finding

-- All before it is right, and this is wrong at this offset.
abbrev pub IsFinding : List ℕ → ℕ → What → Type 0
IsFinding file at File = (at ≡ 0) × (IsHeaded file → ⊥)
IsFinding file at Extent = (at ≡ extent_at) × (length file ≡ file_len) × HasFileHeader file file_len × ((collection : List ℕ) (first last : DiskLoc) → IsOpened file collection first last → ⊥)
IsFinding file at Chain =
    (collection : List ℕ) × (first : DiskLoc) × (last : DiskLoc) × (ats : List ℕ) × (link : Link)
    × IsOpened file collection first last × IsFollowed file first ats link × FailsBehind file last ats link at
IsFinding file at what = (collection : List ℕ) × (ats : List ℕ) × IsChained file collection ats × Breaks file ats at what

-- of what a reader finds first
abbrev pub IfFound : {T : Type 0} → Result T Unreadable → (ℕ → What → Type 0) → Type 0
IfFound (Ok x) P = Unit {0}
IfFound (Err (Found finding)) P = P finding.at finding.what
IfFound (Err NoMemory) P = Unit {0}
