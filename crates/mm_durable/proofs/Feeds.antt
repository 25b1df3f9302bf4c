-- The feed of one database among those of all.
use Rattle.std.proofs.Common.{◌≡◌, ℕ, zero, suc, ◌<◌, List, [], ◌∷◌, length, get_or, slice_set, slice_get, Some, map, refl, sym, ◌∙◌, ap, arith}
use Rattle.std.proofs.lemmas.List.{length-map}
use Rattle.std.proofs.lemmas.Option.{slice_get_within, get_or_from_slice_get}
use Rattle.std.proofs.Math.Seq.{map-set_same}
use Rattle.mm_ranges.specs.declared.part.Closed.{Closed}
use Rattle.mm_tie.specs.Ends.{Ring, taker_ring}
use Rattle.mm_tie.specs.declared.ends.Taker.{Taker}

abbrev pub Feed : Type 0
Feed = Taker Closed

pub own_within : (feeds : List Feed) (d : ℕ) (r : Ring) → slice_get (map taker_ring feeds) d ≡ Some r → d < length feeds
own_within feeds d r found = omega (arith, slice_get_within (map taker_ring feeds) d r found, length-map feeds taker_ring)

-- what a feed shows is what the list of the shown has at its place
pub shown_at : {A : Type 0} (f : Feed → A) (feeds : List Feed) (d : ℕ) (g : Feed) (x : A) → slice_get (map f feeds) d ≡ Some x → g ≡ get_or feeds d g → f g ≡ x
shown_at f feeds d g x found at = ap f at ∙ (sym (of_map feeds d) ∙ get_or_from_slice_get (map f feeds) d x (f g) found)
  where
    of_map : (gs : List Feed) (i : ℕ) → get_or (map f gs) i (f g) ≡ f (get_or gs i g)
    of_map [] i = refl
    of_map (h ∷ gs) zero = refl
    of_map (h ∷ gs) (suc i) = of_map gs i

pub list_has : {A : Type 0} (f : Feed → A) (feeds : List Feed) (d : ℕ) (g : Feed) (x : A) → d < length feeds → g ≡ get_or feeds d g → x ≡ f g → slice_get (map f feeds) d ≡ Some x
list_has f [] d g x lt at e = absurd (omega (arith, lt))
list_has f (h ∷ feeds) zero g x lt at e = ap (λ y. Some (f y)) (sym at) ∙ ap (λ y. Some y) (sym e)
list_has f (h ∷ feeds) (suc d) g x lt at e = list_has f feeds d g x (omega (arith, lt)) at e

-- a feed in the place of another that shows the same
pub still_shows : {A : Type 0} (f : Feed → A) (feeds : List Feed) (d : ℕ) (g h : Feed) → g ≡ get_or feeds d g → f h ≡ f g → map f (slice_set feeds d h) ≡ map f feeds
still_shows f feeds d g h at same = map-set_same f feeds d h g (same ∙ ap f at)
