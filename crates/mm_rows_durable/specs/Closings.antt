-- What the tests know of a durable side while its databases close, one after another.
use Rattle.std.specs.Prelude.{◌≡◌, ℕ, ◌+◌, ◌<◌, ◌≤◌, true, false, List, [], length, get_or, slice_get, Some}
use Rattle.mm_ranges.specs.declared.part.Closed.{Closed}
use Rattle.mm_durable.specs.Log.{sealed}
use Rattle.mm_durable.specs.Intake.{IsOwn, lists, rings}
use Rattle.mm_durable.specs.Durable.{IsOrderly, is_ready, has_closed}
use Rattle.mm_durable.specs.declared.durable.Durable.{Durable}
use Rattle.mm_rows_durable.specs.Sides.{IsSide}
use Rattle.mm_rows_durable.specs.Benches.{IsPlaced}
use Rattle.mm_rows_durable.specs.declared.subject.Side.{Side}
use Rattle.mm_rows_durable.specs.declared.subject.Bench.{Bench}

-- the item of this number has an entry
abbrev pub IsEntered : List Closed → ℕ → Type 0
IsEntered items number = (item : Closed) × ((slice_get items number ≡ Some item) × (0 < item.entries))

-- an entry of this database waits
abbrev pub IsWaiting : Bench → ℕ → Type 0
IsWaiting bench db = (side : Side) × ((slice_get bench.sides.items db ≡ Some side) × (0 < length side.held.waiting))

module _ {D : Type 0} where
  pub record MayTake (durable : Durable D) (db : ℕ) (side : Side) : Type 0 where
    pub orderly : IsOrderly durable
    pub ready : is_ready durable ≡ true
    pub below : db < length durable.log.names.items
    pub placed : IsPlaced durable db side

  -- the database of this number closed, and the durable side took what it gave
  pub record Takes (before after : Durable D) (db : ℕ) (side closed_side : Side) : Type 0 where
    pub orderly : IsOrderly after
    pub ready : is_ready after ≡ true
    pub side_is : IsSide closed_side
    pub ring : closed_side.held.images.ring ≡ side.held.images.ring
    pub rings_same : rings after.intake ≡ rings before.intake
    pub log_same : after.log ≡ before.log
    pub ended_same : after.ended ≡ before.ended
    pub has_taken : has_closed after db ≡ true
    pub others : (other : ℕ) → (other ≡ db → ⊥) → get_or (lists after.intake) other [] ≡ get_or (lists before.intake) other []
    pub entered : 0 < length side.held.waiting → IsEntered (get_or (lists after.intake) db []) (sealed after.log + 1)

  -- The databases below a number have closed. That of the number `entry` has one, waiting or given.
  pub record IsTurned (durable : Durable D) (below entry db : ℕ) (side : Side) : Type 0 where
    pub side_is : IsSide side
    pub own : IsOwn durable.intake db side.held.images.ring
    pub closed : db < below → has_closed durable db ≡ true
    pub unclosed : below ≤ db → has_closed durable db ≡ false
    pub waits : db ≡ entry → below ≤ db → 0 < length side.held.waiting

pub record IsClosing (bench : Bench) (below entry : ℕ) : Type 0 where
  pub orderly : IsOrderly bench.durable
  pub going : bench.durable.ended ≡ false
  pub ready : is_ready bench.durable ≡ true
  pub count : length bench.sides.items ≡ length bench.durable.log.names.items
  pub known : entry < length bench.sides.items
  pub each : (db : ℕ) (side : Side) → slice_get bench.sides.items db ≡ Some side → IsTurned bench.durable below entry db side
  pub entered : entry < below → IsEntered (get_or (lists bench.durable.intake) entry []) (sealed bench.durable.log + 1)
