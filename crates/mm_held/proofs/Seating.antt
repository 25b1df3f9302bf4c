-- The ends of the sessions, before any was told anything.
use Rattle.std.proofs.Common.{◌≡◌, ℕ, zero, suc, ◌+◌, ◌≤◌, ◌<◌, List, [], ◌∷◌, ◌++◌, length, map, sum, Some, refl, sym, ◌∙◌, ap, subst, arith}
use Rattle.std.proofs.lemmas.List.Sums.{sum_by-cons}
use Rattle.std.specs.Prelude.{slice_get, slice_index_or, slice_index}
use Rattle.mm_tie.specs.Ends.{given, taken, giver_ring, giver_room, taker_ring}
use Rattle.mm_tie.specs.declared.ends.Giver.{Giver}
use Rattle.mm_held.specs.declared.pass.Mark.{Mark}
use Rattle.mm_held.specs.declared.pass.Pass.{Pass}
use Rattle.mm_held.specs.Seats.{IsSeat, AreSeats}

-- a session more
pub seats_push : (n : ℕ) (rooms : List ℕ) (givers : List (Giver Mark)) (passes : List Pass) (room : ℕ) (g : Giver Mark) (p : Pass)
    → AreSeats n rooms givers passes → IsSeat (n + length rooms) room g p → AreSeats n (rooms ++ room ∷ []) (givers ++ g ∷ []) (passes ++ p ∷ [])
seats_push n [] [] [] room g p all one = (subst (λ i. IsSeat i room g p) (omega arith) one, tt)
seats_push n (r ∷ rs) (h ∷ hs) (q ∷ qs) room g p all one = (all.0, seats_push (n + 1) rs hs qs room g p all.1 (subst (λ i. IsSeat i room g p) (omega arith) one))
seats_push n [] [] (q ∷ qs) room g p all one = absurd all
seats_push n [] (h ∷ hs) passes room g p all one = absurd all
seats_push n (r ∷ rs) [] passes room g p all one = absurd all
seats_push n (r ∷ rs) (h ∷ hs) [] room g p all one = absurd all

pub seats_count : (n : ℕ) (rooms : List ℕ) (givers : List (Giver Mark)) (passes : List Pass) → AreSeats n rooms givers passes → (length givers ≡ length rooms) × (length passes ≡ length rooms)
seats_count n [] [] [] all = (refl, refl)
seats_count n (r ∷ rs) (h ∷ hs) (q ∷ qs) all = let rest = seats_count (n + 1) rs hs qs all.1 in (ap suc rest.0, ap suc rest.1)
seats_count n [] [] (q ∷ qs) all = absurd all
seats_count n [] (h ∷ hs) passes all = absurd all
seats_count n (r ∷ rs) [] passes all = absurd all
seats_count n (r ∷ rs) (h ∷ hs) [] all = absurd all

pub seats_rooms : (n : ℕ) (rooms : List ℕ) (givers : List (Giver Mark)) (passes : List Pass) → AreSeats n rooms givers passes → map giver_room givers ≡ rooms
seats_rooms n [] [] [] all = refl
seats_rooms n (r ∷ rs) (h ∷ hs) (q ∷ qs) all = ap (λ x. x ∷ map giver_room hs) all.0.giver ∙ ap (λ xs. r ∷ xs) (seats_rooms (n + 1) rs hs qs all.1)
seats_rooms n [] [] (q ∷ qs) all = absurd all
seats_rooms n [] (h ∷ hs) passes all = absurd all
seats_rooms n (r ∷ rs) [] passes all = absurd all
seats_rooms n (r ∷ rs) (h ∷ hs) [] all = absurd all

-- no end gave anything
pub seats_given : (n : ℕ) (rooms : List ℕ) (givers : List (Giver Mark)) (passes : List Pass) → AreSeats n rooms givers passes → (i : ℕ) (d : Giver Mark) → i < length givers → given (slice_index_or givers i d) ≡ []
seats_given n [] [] [] all i d lies = absurd (omega (arith, lies))
seats_given n (r ∷ rs) (h ∷ hs) (q ∷ qs) all zero d lies = all.0.ungiven
seats_given n (r ∷ rs) (h ∷ hs) (q ∷ qs) all (suc i) d lies = seats_given (n + 1) rs hs qs all.1 i d (omega (arith, lies))
seats_given n [] [] (q ∷ qs) all i d lies = absurd all
seats_given n [] (h ∷ hs) passes all i d lies = absurd all
seats_given n (r ∷ rs) [] passes all i d lies = absurd all
seats_given n (r ∷ rs) (h ∷ hs) [] all i d lies = absurd all

-- a session's pass and its end
pub record Sits (n i : ℕ) (rooms : List ℕ) (givers : List (Giver Mark)) (p : Pass) : Type 0 where
  pub place : p.place ≡ n + i
  pub ring : slice_get (map giver_ring givers) i ≡ Some (taker_ring p.taker)
  pub room : slice_get rooms i ≡ Some (slice_index rooms i)
  pub untold : taken p.taker ≡ []

pub seat_at : (n : ℕ) (rooms : List ℕ) (givers : List (Giver Mark)) (passes : List Pass) → AreSeats n rooms givers passes → (i : ℕ) (d : Pass) → i < length passes → Sits n i rooms givers (slice_index_or passes i d)
seat_at n [] [] [] all i d lies = absurd (omega (arith, lies))
seat_at n (r ∷ rs) (h ∷ hs) (q ∷ qs) all zero d lies = record {
  place = all.0.sits ∙ omega arith;
  ring = ap Some (sym all.0.ring);
  room = refl;
  untold = all.0.untaken;
}
seat_at n (r ∷ rs) (h ∷ hs) (q ∷ qs) all (suc i) d lies =
    let rest = seat_at (n + 1) rs hs qs all.1 i d (omega (arith, lies)) in
    record {
      place = rest.place ∙ omega arith;
      ring = rest.ring;
      room = rest.room;
      untold = rest.untold;
    }
seat_at n [] [] (q ∷ qs) all i d lies = absurd all
seat_at n [] (h ∷ hs) passes all i d lies = absurd all
seat_at n (r ∷ rs) [] passes all i d lies = absurd all
seat_at n (r ∷ rs) (h ∷ hs) [] all i d lies = absurd all

-- where each room is at least 1, there are no more rooms than their sum
pub rooms_bound : (rooms : List ℕ) → ((i : ℕ) → i < length rooms → 1 ≤ slice_index rooms i) → length rooms ≤ sum rooms
rooms_bound [] some = omega arith
rooms_bound (r ∷ rs) some =
    let first : 1 ≤ r = some 0 (omega arith) in
    let rest = rooms_bound rs (λ i lies. some (suc i) (omega (arith, lies))) in
    let more : sum (r ∷ rs) ≡ r + sum rs = sum_by-cons (λ x. x) r rs in
    omega (arith, first, rest, more)
