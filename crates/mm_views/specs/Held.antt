-- What the fields of `Views` and `Draft` hold.
use Rattle.std.specs.Prelude.{◌≡◌, ℕ, ◌<◌, Bool, true, IsTrue, List, Option, Some, None, is_some, reverse}
use Rattle.mm_ranges.specs.Places.{Range}
use Rattle.mm_ranges.specs.Room.{shown, has_room}
use Rattle.mm_ranges.specs.Overlay.{Image, laid_over}
use Rattle.mm_ranges.specs.declared.part.Made.{Made}
use Rattle.mm_ranges.specs.declared.part.Part.{Part}
use Rattle.mm_ranges.specs.declared.part.Piece.{Piece}
use Rattle.mm_views.specs.Made.{with_all, without_made}
use Rattle.mm_views.specs.State.{State, Drafting, part_of, IsSound, IsDraft}
use Rattle.mm_views.specs.declared.parts.Prepared.{Prepared}

abbrev pub state_of : Image → Image → List Made → List Range → List Part → Option Prepared → State
state_of shared private made spans closed prepared = record { shared = shared; private = private; made = made; opened = shown spans; closed = closed; is_ready = is_some prepared }

-- what is prepared is what the next close gives and keeps
abbrev pub IsPrepared : State → Option Prepared → Type 0
IsPrepared s None = Unit {0}
IsPrepared s (Some p) = (p.given ≡ part_of s) × (p.kept ≡ part_of s)

-- sound views, and what is prepared, for which there is room among the closed parts
pub record IsHeld (s : State) (prepared : Option Prepared) (len capacity : ℕ) : Type 0 where
  pub sound : IsSound s
  pub tells : IsPrepared s prepared
  pub room : IsTrue (is_some prepared) → len < capacity

-- the private image before the draft: the saved pieces laid back, the newest first, and without the files that it made
abbrev pub before_draft : List Piece → List Made → Image → Image
before_draft saved made image = without_made made (laid_over (reverse saved) image)

-- What is taken for `adopt`: the made files of both, and room for the declared ranges among the opened ones.
abbrev pub IsReserved : Drafting → List Range → Option (List Made) → Type 0
IsReserved d spans None = Unit {0}
IsReserved d spans (Some all) = (all ≡ with_all d.views.made d.made) × (has_room spans d.declared ≡ true)

pub record IsDrafted (d : Drafting) (saved : List Piece) (spans : List Range) (reserved : Option (List Made)) (prepared : Option Prepared) (len capacity : ℕ) : Type 0 where
  pub draft : IsDraft (reverse saved) d
  pub joins : IsReserved d spans reserved
  pub held : IsHeld d.views prepared len capacity

-- what a draft's fields are seen as
abbrev pub drafting_at : Image → Image → List Piece → List Made → List Range → List Made → List Range → List Part → Option Prepared → Bool → Drafting
drafting_at shared image saved made declared before spans closed prepared is_reserved =
    record { views = state_of shared (before_draft saved made image) before spans closed prepared; image = image; made = made; declared = declared; is_reserved = is_reserved }
