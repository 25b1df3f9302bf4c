-- The changing calls that a run is to make, in order, and how far it came.
use Rattle.std.specs.Prelude.{◌≡◌, ◌≢◌, ℕ, Bool, true, false, List, [], ◌∷◌, Option, Some, ◌⊎◌}
use Rattle.mm_outside.specs.Told.{Change, Told, called, Creates, Writes, Syncs}

-- a changing call that is to be made of a file
pub record Ask : Type 0 where
  pub name : List ℕ
  pub change : Change

-- what is told after this call, that is done or stopped
abbrev pub after_ask : Ask → Bool → Told → Told
after_ask ask done t = called ask.name ask.change done t

-- what is told after all these calls are done
abbrev pub asked : List Ask → Told → Told
asked [] t = t
asked (ask ∷ asks) t = asked asks (after_ask ask true t)

-- what is told after some of these calls are done, in order, and perhaps the next is stopped
abbrev pub IsCut : List Ask → Told → Told → Type 0
IsCut [] t u = u ≡ t
IsCut (ask ∷ asks) t u = (u ≡ t) ⊎ ((u ≡ after_ask ask false t) ⊎ IsCut asks (after_ask ask true t) u)

-- the run makes all these calls, where the disk tells
abbrev pub Makes : List Ask → Option Told → Option Told → Type 0
Makes asks old new = (t : Told) → old ≡ Some t → new ≡ Some (asked asks t)

-- the run makes these calls up to any of them, where the disk tells
abbrev pub MakesSome : List Ask → Option Told → Option Told → Type 0
MakesSome asks old new = (t : Told) → old ≡ Some t → (u : Told) × (new ≡ Some u) × IsCut asks t u

-- none of these calls is for this file
abbrev pub SparesFile : List ℕ → List Ask → Type 0
SparesFile name [] = Unit {0}
SparesFile name (ask ∷ asks) = (name ≢ ask.name) × SparesFile name asks

-- an absent file is made with these bytes, and synced
abbrev pub new_file_asks : List ℕ → List ℕ → List Ask
new_file_asks name bytes = record { name = name; change = Creates } ∷ record { name = name; change = Writes 0 bytes } ∷ record { name = name; change = Syncs } ∷ []
