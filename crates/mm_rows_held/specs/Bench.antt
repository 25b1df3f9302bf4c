-- What the tests know of a database that they hold, so that each call may be made.
use Rattle.std.specs.Prelude.{◌≡◌, ℕ, ◌<◌, ◌≤◌, length, Some, slice_get}
use Rattle.mm_ranges.specs.declared.part.Closed.{Closed}
use Rattle.mm_tie.specs.Ends.{taken, taker_ring}
use Rattle.mm_tie.specs.declared.ends.Taker.{Taker}
use Rattle.mm_held.specs.declared.pass.Pass.{Pass}
use Rattle.mm_held.specs.Log.{IsAboveLast}
use Rattle.mm_held.specs.Held.{HeldView, IsSeated}
use Rattle.mm_rows_held.specs.declared.bench.Bench.{Bench}

module _ {E P : Type 0} where
  -- the pass is the database's, and each of its marks has a lower line
  pub record IsSat (v : HeldView E P) (line : ℕ) (p : Pass) : Type 0 where
    pub seat : IsSeated v p
    pub room : slice_get v.rooms p.place ≡ Some 1000
    pub few : length (taken p.taker) < line
    pub above : IsAboveLast line (taken p.taker)

  -- the feed is the database's, which gave at most so many items
  pub record IsFed (v : HeldView E P) (items : ℕ) (feed : Taker Closed) : Type 0 where
    pub own : taker_ring feed ≡ v.images.ring
    pub most : v.images.most ≡ 1001
    pub few : length v.images.given ≤ items

  -- what both rest on stays
  pub record Stays (old new : HeldView E P) : Type 0 where
    pub rings : new.rings ≡ old.rings
    pub rooms : new.rooms ≡ old.rooms
    pub ring : new.images.ring ≡ old.images.ring
    pub most : new.images.most ≡ old.images.most
    pub given : new.images.given ≡ old.images.given

pub record IsBench (b : Bench) : Type 0 where
  pub first : IsSat b.held b.line b.first
  pub second : IsSat b.held b.line b.second
  pub fed : IsFed b.held b.items b.feed
