-- Items: what a database gives for each closed group, and the files that they make together.
use Rattle.std.specs.Prelude.{◌≡◌, ℕ, ◌+◌, ◌≤◌, List, [], ◌∷◌, map, filter, nat_le}
use Rattle.std.specs.FinMap.{empty}
use Rattle.mm_ranges.specs.Overlay.{Image, over_all, ranges_of}
use Rattle.mm_ranges.specs.Limits.{IsAllowed}
use Rattle.mm_ranges.specs.declared.part.Closed.{Closed}
use Rattle.mm_views.specs.State.{weight_in, PartFits}

-- the files that items give, each laid over what those before it give
abbrev pub image_of : List Closed → Image
image_of items = over_all (map (λ (item : Closed). item.part) items) empty

-- the items of sections up to a number
abbrev pub up_to : ℕ → List Closed → List Closed
up_to section items = filter (λ (item : Closed). nat_le item.section section) items

-- the section is one above that of the last of these
abbrev pub IsNumbered : List Closed → ℕ → Type 0
IsNumbered [] section = Unit {0}
IsNumbered (last ∷ []) section = section ≡ last.section + 1
IsNumbered (item ∷ next ∷ items) section = IsNumbered (next ∷ items) section

-- An item behind these: its section comes next; what it holds may stand in a journal under one name, weighs no more than one database's part of
-- a group may, and fits the files that these give: no file that it makes is there, and each range lies inside a file that is there or that it makes.
pub record Follows (items : List Closed) (item : Closed) : Type 0 where
  pub numbered : IsNumbered items item.section
  pub allowed : IsAllowed item.part
  pub light : weight_in item.part.made (ranges_of item.part.pieces) ≤ 134217728
  pub fits : PartFits (image_of items) item.part
