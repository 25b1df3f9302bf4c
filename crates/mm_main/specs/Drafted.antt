-- The one data file in a draft, and what a change of it keeps.
use Rattle.std.specs.Prelude.{◌≡◌, ℕ, ℤ, pos, negsuc, ◌+◌, ◌≤◌, List, [], ◌∷◌, length, Option, Some, None}
use Rattle.mm_base.specs.Bytes.{part, overwritten}
use Rattle.mm_base.specs.Tables.{HasAll}
use Rattle.mm_frames.specs.RecHeader.{rec_header_table}
use Rattle.mm_ranges.specs.Overlay.{bytes_at}
use Rattle.mm_views.specs.State.{State, Drafting}
use Rattle.mm_main.specs.DataFile.{linked, last_from, IsFile}
use Rattle.mm_main.specs.Room.{first_at, block_len}

-- the bytes of the data file in a draft, and in the views
abbrev pub drafted : Drafting → List ℕ
drafted d = bytes_at d.image 0

abbrev pub private_file : State → List ℕ
private_file s = bytes_at s.private 0

-- the views behind a draft stay, and the files that it made, and the length of the data file
pub record Keeps (old new : Drafting) : Type 0 where
  pub views : new.views ≡ old.views
  pub made : new.made ≡ old.made
  pub size : length (drafted new) ≡ length (drafted old)

-- bytes are written over those of the data file, and nothing else changes
pub record IsLaid (at : ℕ) (bytes : List ℕ) (old new : Drafting) : Type 0 where
  pub written : drafted new ≡ overwritten at bytes (drafted old)
  pub declared : new.declared ≡ old.declared
  pub keeps : Keeps old new

-- where the blocks of some payloads end, which begin at an offset
abbrev pub end_from : ℕ → List (List ℕ) → ℕ
end_from at [] = at
end_from at (payload ∷ payloads) = end_from (at + block_len at (length payload)) payloads

-- the link to a record, or -1 where there is none
abbrev pub link_of_last : Option ℕ → ℤ
link_of_last None = negsuc 0
link_of_last (Some at) = pos at

-- The file holds these payloads. Their blocks end at an offset, and the last record, if there is one, lies at another.
pub record HoldsUpTo (collection : List ℕ) (payloads : List (List ℕ)) (file : List ℕ) (at : ℕ) (last : Option ℕ) : Type 0 where
  pub written : IsFile collection payloads file
  pub at_is : at ≡ end_from first_at payloads
  pub last_is : link_of_last last ≡ last_from first_at (negsuc 0) payloads

-- the last record of a chain leads on
abbrev pub LeadsOn : ℕ → ℕ → List ℕ → List ℕ → Type 0
LeadsOn last next old new = (len : ℕ) (prev : ℤ) → HasAll (part last 16 old) (rec_header_table (linked len prev (negsuc 0))) → HasAll (part last 16 new) (rec_header_table (linked len prev (pos next)))

-- each part between two offsets is the same
abbrev pub SameBetween : ℕ → ℕ → List ℕ → List ℕ → Type 0
SameBetween from to old new = (q m : ℕ) → from ≤ q → q + m ≤ to → part q m new ≡ part q m old
