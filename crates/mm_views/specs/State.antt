-- Two views of a database's files, and a draft over them.
use Rattle.std.specs.Prelude.{◌≡◌, ℕ, ◌+◌, ◌*◌, ◌<◌, ◌≤◌, Bool, true, false, List, [], ◌∷◌, ◌++◌, length, Option, Some, None, sum_by}
use Rattle.std.specs.FinMap.{get, empty}
use Rattle.std.specs.List.{list_all}
use Rattle.mm_ranges.specs.Places.{Range, CoverSame, is_covered, is_normal, merged, weight_of}
use Rattle.mm_ranges.specs.Overlay.{Image, bytes_at, laid_over, with_made, over, over_all, pieces_of, ranges_of, FileSame, SameOutside, AreInside}
use Rattle.mm_ranges.specs.Limits.{is_file, most_of, is_rising, may_be_made}
use Rattle.mm_ranges.specs.declared.part.Piece.{Piece}
use Rattle.mm_ranges.specs.declared.part.Made.{Made}
use Rattle.mm_ranges.specs.declared.part.Part.{Part}
use Rattle.mm_views.specs.Made.{is_made, with_all, AreNew, made_in}

-- what is on disk or on its way there, what commands see, what was made and opened since the last close, and the closed parts that aren't applied, the oldest first
pub record State : Type 0 where
  pub shared : Image
  pub private : Image
  pub made : List Made
  pub opened : List Range
  pub closed : List Part
  -- `ready` was the last change
  pub is_ready : Bool

-- a draft: the views as they were, and what it made of the private image
pub record Drafting : Type 0 where
  pub views : State
  pub image : Image
  pub made : List Made
  pub declared : List Range
  -- `reserve` was the last change
  pub is_reserved : Bool

-- ---- what the calls make

abbrev pub no_views : State
no_views = record { shared = empty; private = empty; made = []; opened = []; closed = []; is_ready = false }

-- exactly the made files, and the opened intents with their private bytes
abbrev pub part_of : State → Part
part_of s = record { name = []; made = s.made; pieces = pieces_of s.opened s.private }

abbrev pub drafting_of : State → Drafting
drafting_of s = record { views = s; image = s.private; made = []; declared = []; is_reserved = false }

-- The private image is the draft's, and what it made and declared is opened.
pub record IsAdopted (d : Drafting) (s : State) : Type 0 where
  pub shared : s.shared ≡ d.views.shared
  pub private : s.private ≡ d.image
  pub made : s.made ≡ with_all d.views.made d.made
  pub opened : s.opened ≡ merged d.views.opened d.declared
  pub closed : s.closed ≡ d.views.closed
  pub is_ready : s.is_ready ≡ false

abbrev pub closed_from : State → State
closed_from s = record s { made = []; opened = []; closed = s.closed ++ part_of s ∷ []; is_ready = false }

abbrev pub applied_with : State → List Part → State
applied_with s [] = s
applied_with s (part ∷ parts) = record s { shared = over part s.shared; closed = parts; is_ready = false }

-- the oldest closed part laid over the shared image
abbrev pub applied : State → State
applied s = applied_with s s.closed

-- No byte of either image changes, and nothing that was made, opened, closed or prepared.
pub record IsRemapped (old new : State) : Type 0 where
  pub shared : new.shared ≡ old.shared
  pub private : new.private ≡ old.private
  pub made : new.made ≡ old.made
  pub opened : new.opened ≡ old.opened
  pub closed : new.closed ≡ old.closed
  pub is_ready : new.is_ready ≡ old.is_ready

-- what ranges and made files weigh: a range its length and 12, a made file 12
abbrev pub weight_in : List Made → List Range → ℕ
weight_in made ranges = sum_by weight_of ranges + 12 * length made

-- ---- what holds of views

-- the places of closed parts
abbrev pub ranges_in : List Part → List Range
ranges_in [] = []
ranges_in (part ∷ parts) = ranges_of part.pieces ++ ranges_in parts

-- Coverage: where the images differ, lengths included, there is an opened intent, a made file or a closed part that isn't applied.
abbrev pub IsCovered : State → Type 0
IsCovered s = (file : ℕ) → is_made (s.made ++ made_in s.closed) file ≡ false → FileSame (is_covered (s.opened ++ ranges_in s.closed) file) (get s.shared file) (get s.private file)

-- What is closed and then made, laid over the shared image, gives the private one but at the opened intents.
abbrev pub DiffersAtOpened : State → Type 0
DiffersAtOpened s = SameOutside s.opened (with_made s.made (over_all s.closed s.shared)) s.private

-- each piece has a byte, and lies inside its file
abbrev pub PiecesInside : Image → List Piece → Type 0
PiecesInside image [] = Unit {0}
PiecesInside image (piece ∷ pieces) = (0 < length piece.bytes) × (piece.at + length piece.bytes ≤ length (bytes_at image piece.file)) × PiecesInside image pieces

-- The part can be laid over the image: what it makes is new, and its pieces lie inside the files that are there or that it makes.
pub record PartFits (image : Image) (part : Part) : Type 0 where
  pub rising : is_rising part.made ≡ true
  pub allowed : list_all may_be_made part.made ≡ true
  pub new_files : AreNew image part.made
  pub inside : PiecesInside (with_made part.made image) part.pieces

-- parts can be laid over the image one after another
abbrev pub PartsFit : Image → List Part → Type 0
PartsFit image [] = Unit {0}
PartsFit image (part ∷ parts) = PartFits image part × PartsFit (over part image) parts

abbrev pub FileAllowed : ℕ → Option (List ℕ) → Type 0
FileAllowed file None = Unit {0}
FileAllowed file (Some bytes) = (is_file file ≡ true) × (length bytes ≤ most_of file)

-- only the files that a database may have, as long as they may be
abbrev pub KeepsLimits : Image → Type 0
KeepsLimits image = (file : ℕ) → FileAllowed file (get image file)

-- files that may be made, in rising number
pub record AreMade (image : Image) (made : List Made) : Type 0 where
  pub rising : is_rising made ≡ true
  pub allowed : list_all may_be_made made ≡ true
  pub new_files : AreNew image made

-- what holds of views at all times
pub record IsSound (s : State) : Type 0 where
  pub differs : DiffersAtOpened s
  pub normal : is_normal s.opened ≡ true
  pub inside : AreInside s.private s.opened
  pub made : AreMade (over_all s.closed s.shared) s.made
  pub fits : PartsFit s.shared s.closed
  pub limits : KeepsLimits s.private

-- What holds of a draft at all times. The pieces are the bytes of the declared places before it, the newest first.
pub record IsDraft (saved : List Piece) (d : Drafting) : Type 0 where
  pub sound : IsSound d.views
  pub undone : laid_over saved d.image ≡ with_made d.made d.views.private
  pub saved_inside : PiecesInside d.image saved
  pub saved_covers : CoverSame (ranges_of saved) d.declared
  pub normal : is_normal d.declared ≡ true
  pub inside : AreInside d.image d.declared
  pub made : AreMade d.views.private d.made
  pub limits : KeepsLimits d.image
