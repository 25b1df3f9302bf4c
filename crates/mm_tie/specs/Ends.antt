-- What a contract sees of a `Giver` and of a `Taker`.
use Rattle.std.specs.Prelude.{ℕ, List}
use denote.RawPtr.{Ptr}
use Rattle.rtrb.specs.Ring.{sent, received, producer_capacity, consumer_capacity}
use Rattle.mm_tie.specs.declared.ends.Giver.{Giver}
use Rattle.mm_tie.specs.declared.ends.Taker.{Taker}

-- which ring it is
abbrev pub Ring : Type 0
Ring = Ptr × Ptr × (ℕ × (ℕ × ℕ))

module _ {T : Type 0} where
  -- every item that was given, oldest first
  abbrev pub given : Giver T → List T
  given g = sent g.end

  -- every item that was taken, oldest first
  abbrev pub taken : Taker T → List T
  taken t = received t.end

  abbrev pub giver_room : Giver T → ℕ
  giver_room g = producer_capacity g.end

  abbrev pub taker_room : Taker T → ℕ
  taker_room t = consumer_capacity t.end

  abbrev pub giver_ring : Giver T → Ring
  giver_ring g = (g.end.end.words, g.end.end.slots, g.end.end.names)

  abbrev pub taker_ring : Taker T → Ring
  taker_ring t = (t.end.end.words, t.end.end.slots, t.end.end.names)
