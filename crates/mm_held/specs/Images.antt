-- The images of a database, and the items that were given for its closed groups.
use Rattle.std.specs.Prelude.{◌≡◌, ℕ, ◌+◌, ◌≤◌, ◌<◌, List, [], ◌∷◌, map, filter, length, nat_lt, take, max, min, ◌-◌}
use Rattle.mm_ranges.specs.Overlay.{Image}
use Rattle.mm_ranges.specs.declared.part.Closed.{Closed}
use Rattle.mm_views.specs.State.{State, IsCovered, weight_in}
use Rattle.mm_ranges.specs.declared.part.Part.{Part}
use Rattle.mm_tie.specs.Ends.{Ring, given, giver_ring, giver_room}
use Rattle.mm_tie.specs.declared.ends.Giver.{Giver}
use Rattle.mm_tie.specs.Items.{image_of, up_to}

-- the views; the section of item 0; the items that were given, their ring and how many they may become; and the section of the last applied one
pub record Imaged : Type 0 where
  pub views : State
  pub first : ℕ
  pub given : List Closed
  pub ring : Ring
  pub most : ℕ
  pub applied : ℕ

abbrev pub imaged : State → ℕ → ℕ → Giver Closed → Imaged
imaged views first applied giver = record { views = views; first = first; given = given giver; ring = giver_ring giver; most = giver_room giver; applied = applied }

abbrev pub item : ℕ → Part → ℕ → Closed
item section part entries = record { section = section; part = part; entries = entries }

-- the items of sections above a number
abbrev pub beyond : ℕ → List Closed → List Closed
beyond section items = filter (λ (item : Closed). nat_lt section item.section) items

-- sections count up by one from a number on
abbrev pub AreNumbered : ℕ → List Closed → Type 0
AreNumbered n [] = Unit {0}
AreNumbered n (item ∷ items) = (item.section ≡ n) × AreNumbered (n + 1) items

-- the image that the database was loaded from: that of item 0
abbrev pub opening : Imaged → Image
opening v = image_of (take 1 v.given)

-- What holds of images at all times: the shared one is that of the applied items, and the parts of the others are closed and wait; the two
-- differ only there, and where something is opened; what is opened weighs at most 134,217,728.
pub record IsImaged (v : Imaged) : Type 0 where
  pub numbered : AreNumbered v.first v.given
  pub some : 0 < length v.given
  pub few : length v.given ≤ v.most
  pub from_first : v.first ≤ v.applied
  pub to_last : v.applied < v.first + length v.given
  pub shared : v.views.shared ≡ image_of (up_to v.applied v.given)
  pub closed : v.views.closed ≡ map (λ (item : Closed). item.part) (beyond v.applied v.given)
  pub covered : IsCovered v.views
  pub light : weight_in v.views.made v.views.opened ≤ 134217728

-- Only the views may change.
pub record SameItems (old new : Imaged) : Type 0 where
  pub first : new.first ≡ old.first
  pub given : new.given ≡ old.given
  pub ring : new.ring ≡ old.ring
  pub most : new.most ≡ old.most
  pub applied : new.applied ≡ old.applied

-- Closed parts were laid over the shared image, up to that of a section. Nothing else changes.
pub record IsApplied (old : Imaged) (section : ℕ) (new : Imaged) : Type 0 where
  pub first : new.first ≡ old.first
  pub given : new.given ≡ old.given
  pub ring : new.ring ≡ old.ring
  pub most : new.most ≡ old.most
  pub applied : new.applied ≡ section
  pub private : new.views.private ≡ old.views.private
  pub made : new.views.made ≡ old.views.made
  pub opened : new.views.opened ≡ old.views.opened

-- the last section up to a number that may be applied: no section is taken back, and none is applied that isn't closed
abbrev pub last_up_to : Imaged → ℕ → ℕ
last_up_to v upto = max v.applied (min upto (v.first + length v.given - 1))
