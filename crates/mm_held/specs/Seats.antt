-- The ends by which a database tells its sessions, before it told them anything.
use Rattle.std.specs.Prelude.{◌≡◌, ℕ, ◌+◌, List, [], ◌∷◌}
use Rattle.mm_tie.specs.Ends.{given, taken, giver_ring, taker_ring, giver_room, taker_room}
use Rattle.mm_tie.specs.declared.ends.Giver.{Giver}
use Rattle.mm_held.specs.declared.pass.Mark.{Mark}
use Rattle.mm_held.specs.declared.pass.Pass.{Pass}

-- the two ends of a session's ring
pub record IsSeat (place room : ℕ) (g : Giver Mark) (p : Pass) : Type 0 where
  pub sits : p.place ≡ place
  pub ring : taker_ring p.taker ≡ giver_ring g
  pub giver : giver_room g ≡ room
  pub taker : taker_room p.taker ≡ room
  pub ungiven : given g ≡ []
  pub untaken : taken p.taker ≡ []

-- those of each session, from a place on
abbrev pub AreSeats : ℕ → List ℕ → List (Giver Mark) → List Pass → Type 0
AreSeats place [] [] [] = Unit {0}
AreSeats place (room ∷ rooms) (g ∷ givers) (p ∷ passes) = IsSeat place room g p × AreSeats (place + 1) rooms givers passes
AreSeats place rooms givers passes = ⊥
