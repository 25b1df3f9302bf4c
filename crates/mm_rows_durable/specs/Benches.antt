-- What the tests know of a durable side over its databases, between two of their turns.
use Rattle.std.specs.Prelude.{◌≡◌, ℕ, false, List, [], ◌∷◌, length, take, slice_get, Some}
use Rattle.mm_ranges.specs.declared.part.Closed.{Closed}
use Rattle.mm_tie.specs.Ends.{taken, taker_ring}
use Rattle.mm_tie.specs.declared.ends.Taker.{Taker}
use Rattle.mm_durable.specs.Intake.{IsOwn}
use Rattle.mm_durable.specs.Durable.{IsOrderly, has_closed}
use Rattle.mm_durable.specs.declared.durable.Durable.{Durable}
use Rattle.mm_rows_durable.specs.Sides.{IsSide}
use Rattle.mm_rows_durable.specs.declared.subject.Side.{Side}
use Rattle.mm_rows_durable.specs.declared.subject.Bench.{Bench}

-- "b", "a", "d" and "c"
abbrev pub all_names : List (List ℕ)
all_names = (0x62 ∷ []) ∷ (0x61 ∷ []) ∷ (0x64 ∷ []) ∷ (0x63 ∷ []) ∷ []

-- the first of these
abbrev pub IsNamed : ℕ → List (List ℕ) → Type 0
IsNamed count names = names ≡ take count all_names

-- each database has its own feed, which took its item 0
abbrev pub IsFed : List Side → List (Taker Closed) → Type 0
IsFed [] [] = Unit {0}
IsFed [] (feed ∷ feeds) = ⊥
IsFed (side ∷ sides) [] = ⊥
IsFed (side ∷ sides) (feed ∷ feeds) = (IsSide side × ((taker_ring feed ≡ side.held.images.ring) × (length (taken feed) ≡ 1))) × IsFed sides feeds

module _ {D : Type 0} where
  -- it is the database of this number, and didn't close since the last seal
  pub record IsPlaced (durable : Durable D) (db : ℕ) (side : Side) : Type 0 where
    pub side_is : IsSide side
    pub own : IsOwn durable.intake db side.held.images.ring
    pub unclosed : has_closed durable db ≡ false

pub record IsBench (bench : Bench) : Type 0 where
  pub orderly : IsOrderly bench.durable
  pub going : bench.durable.ended ≡ false
  pub count : length bench.sides.items ≡ length bench.durable.log.names.items
  pub each : (db : ℕ) (side : Side) → slice_get bench.sides.items db ≡ Some side → IsPlaced bench.durable db side
