-- What the tests know of a database that they hold, so that each call may be made.
use Rattle.std.specs.Prelude.{◌≡◌, ℕ, ◌<◌, ◌≤◌, true, length, Some, slice_get}
use Rattle.mm_tie.specs.Ends.{taken}
use Rattle.mm_held.specs.declared.pass.Pass.{Pass}
use Rattle.mm_held.specs.Log.{IsAboveLast}
use Rattle.mm_held.specs.Held.{HeldView, IsSeated}
use Rattle.mm_rows_durable.specs.declared.subject.Side.{Side}

module _ {E P : Type 0} where
  -- the pass is the database's, and each of its marks has a lower line
  pub record IsSat (v : HeldView E P) (line : ℕ) (p : Pass) : Type 0 where
    pub seat : IsSeated v p
    pub room : slice_get v.rooms p.place ≡ Some 1000
    pub few : length (taken p.taker) < line
    pub above : IsAboveLast line (taken p.taker)

  -- what both rest on stays
  pub record Stays (old new : HeldView E P) : Type 0 where
    pub rings : new.rings ≡ old.rings
    pub rooms : new.rooms ≡ old.rooms
    pub ring : new.images.ring ≡ old.images.ring
    pub most : new.images.most ≡ old.images.most
    pub given : new.images.given ≡ old.images.given

-- it has its pass, and gave at most so many items
pub record IsSide (s : Side) : Type 0 where
  pub sat : IsSat s.held s.line s.pass
  pub most : s.held.images.most ≡ 1001
  pub items : length s.held.images.given ≤ s.items

-- the items that it gave, and their ring
pub record SameSide (old new : Side) : Type 0 where
  pub ring_same : new.held.images.ring ≡ old.held.images.ring
  pub given_same : new.held.images.given ≡ old.held.images.given

-- it may close
pub record MayClose (s : Side) : Type 0 where
  pub ready : s.held.images.views.is_ready ≡ true
  pub room : length s.held.images.given < s.held.images.most
  pub few : s.items ≤ 1000
