-- What the durable side takes from its databases: the items of their feeds, of which those since the last seal are kept.
use Rattle.std.specs.Prelude.{◌≡◌, ℕ, ◌+◌, zero, suc, ◌<◌, ◌≤◌, ◌^◌, Bool, true, ◌&&◌, ◌==◌, if◌then◌else◌, List, [], ◌∷◌, ◌++◌, length, map, take, get_or, slice_get, slice_set, Option, Some, None, vec_capacity, ◌⊎◌}
use Rattle.std.specs.Ordering.{eq_by_cmp, nat_cmp, is_lt}
use Rattle.std.specs.Cmp.Lexicographic.{slice_cmp}
use Rattle.mm_outside.specs.Image.{name_cmp}
use Rattle.mm_ranges.specs.declared.part.Closed.{Closed}
use Rattle.mm_section.specs.Spells.{is_db_name}
use Rattle.mm_tie.specs.Ends.{Ring, taken, taker_room, taker_ring}
use Rattle.mm_tie.specs.Items.{Follows}
use Rattle.mm_items.specs.Given.{Given, Taken}
use Rattle.mm_durable.specs.Names.{has_name}
use Rattle.mm_durable.specs.declared.intake.Seat.{Seat}
use Rattle.mm_durable.specs.declared.intake.Intake.{Intake}

-- it is the name of one of these databases
abbrev pub is_ours : List (List ℕ) → List ℕ → Bool
is_ours names n = is_db_name n && has_name names n

-- the items of each database by its name, of which these are the lists in the order of these names
abbrev pub by_name : List (List ℕ) → List (List Closed) → Taken
by_name [] lists n = []
by_name (m ∷ names) [] n = []
by_name (m ∷ names) (items ∷ lists) n = if eq_by_cmp name_cmp n m then items else by_name names lists n

-- the first items of each database
abbrev pub first_items : ℕ → Taken → Taken
first_items k items n = take k (items n)

-- of each database, by its number, the items that its feed took
abbrev pub lists : Intake → List (List Closed)
lists intake = map taken intake.feeds.items

abbrev pub rooms : Intake → List ℕ
rooms intake = map taker_room intake.feeds.items

abbrev pub rings : Intake → List Ring
rings intake = map taker_ring intake.feeds.items

-- the feed of the database of this number is that of this ring, and it took these items
abbrev pub IsOwn : Intake → ℕ → Ring → Type 0
IsOwn intake db ring = slice_get (rings intake) db ≡ Some ring

abbrev pub HasTaken : Intake → ℕ → List Closed → Type 0
HasTaken intake db items = slice_get (lists intake) db ≡ Some items

-- all that is known of it is as it was
pub record SameTaken (old new : Intake) : Type 0 where
  pub lists_same : lists new ≡ lists old
  pub rooms_same : rooms new ≡ rooms old
  pub rings_same : rings new ≡ rings old
  pub sorted : new.sorted.items ≡ old.sorted.items
  pub ranks : new.ranks.items ≡ old.ranks.items
  pub seats : new.seats.items ≡ old.seats.items
  pub parts : new.parts.items ≡ old.parts.items
  pub space : vec_capacity new.parts ≡ vec_capacity old.parts

-- the feeds are as they were, and so is what they took
pub record KeepsFeeds (old new : Intake) : Type 0 where
  pub lists_kept : lists new ≡ lists old
  pub rooms_kept : rooms new ≡ rooms old
  pub rings_kept : rings new ≡ rings old
  pub sorted_kept : new.sorted.items ≡ old.sorted.items
  pub ranks_kept : new.ranks.items ≡ old.ranks.items

-- an item is given behind these
pub record GivesNext (before after : List Closed) : Type 0 where
  pub item : Closed
  pub more : after ≡ before ++ item ∷ []
  pub follows : Follows before item

-- the item in the seat of this number
abbrev pub seated : ℕ → Closed → List Seat → List Seat
seated k item [] = []
seated zero item (s ∷ seats) = record s { item = Some item } ∷ seats
seated (suc k) item (s ∷ seats) = s ∷ seated k item seats

-- the database of this number gave an item more, which is in its seat
pub record TakesItem (old : Intake) (db : ℕ) (before after : List Closed) (new : Intake) : Type 0 where
  pub item : Closed
  pub more : after ≡ before ++ item ∷ []
  pub follows : Follows before item
  pub lists_more : lists new ≡ slice_set (lists old) db after
  pub rooms_kept : rooms new ≡ rooms old
  pub rings_kept : rings new ≡ rings old
  pub sorted_kept : new.sorted.items ≡ old.sorted.items
  pub ranks_kept : new.ranks.items ≡ old.ranks.items
  pub in_seat : new.seats.items ≡ seated (get_or old.ranks.items db 0) item old.seats.items
  pub parts_kept : new.parts.items ≡ old.parts.items
  pub space_kept : vec_capacity new.parts ≡ vec_capacity old.parts

-- each of these names comes after one, in the order byte by byte; and each name comes before all later ones
abbrev pub AllAfter : List ℕ → List (List ℕ) → Type 0
AllAfter n [] = Unit {0}
AllAfter n (m ∷ names) = (is_lt (slice_cmp nat_cmp n m) ≡ true) × AllAfter n names

abbrev pub AreRising : List (List ℕ) → Type 0
AreRising [] = Unit {0}
AreRising (n ∷ names) = AllAfter n names × AreRising names

-- A database has one item for each sealed section, and item 0. One that it gave since follows these.
abbrev pub HasGiven : ℕ → List Closed → Option Closed → Type 0
HasGiven sealed items None = length items ≡ sealed + 1
HasGiven sealed items (Some item) = (before : List Closed) × ((items ≡ before ++ item ∷ []) × ((length before ≡ sealed + 1) × Follows before item))

-- Each seat has a copy of its database's name, and the item that the database gave since the last seal. Without seats none gave one.
abbrev pub AreSeated : ℕ → Taken → List (List ℕ) → List Seat → Type 0
AreSeated sealed items [] [] = Unit {0}
AreSeated sealed items [] (s ∷ seats) = ⊥
AreSeated sealed items (n ∷ names) [] = HasGiven sealed (items n) None × AreSeated sealed items names []
AreSeated sealed items (n ∷ names) (s ∷ seats) = (s.name ≡ n) × (HasGiven sealed (items n) s.item × AreSeated sealed items names seats)

-- a seat without an item
abbrev pub empty_seat : List ℕ → Seat
empty_seat n = record { name = n; item = None }

-- each database gave its item
abbrev pub IsGiven : Option Closed → Type 0
IsGiven None = ⊥
IsGiven (Some item) = Unit {0}

abbrev pub AllGave : List Seat → Type 0
AllGave [] = Unit {0}
AllGave (s ∷ seats) = IsGiven s.item × AllGave seats

-- what the databases gave, in the order of the seats
abbrev pub with_given : List ℕ → Option Closed → List Given → List Given
with_given n None more = more
with_given n (Some item) more = (n, item) ∷ more

abbrev pub given_of : List Seat → List Given
given_of [] = []
given_of (s ∷ seats) = with_given s.name s.item (given_of seats)

-- the items of this number, counted from 0, of databases in the order of these names
abbrev pub group_of : Taken → ℕ → List (List ℕ) → List Given
group_of items number [] = []
group_of items number (n ∷ names) = with_given n (slice_get (items n) number) (group_of items number names)

-- it has what a seal needs
abbrev pub has_seats : Intake → Bool
has_seats intake = length intake.seats.items == length intake.sorted.items

-- there is a seat for each database, or for none
abbrev pub AreAllOrNone : Intake → Type 0
AreAllOrNone intake = (intake.seats.items ≡ []) ⊎ (length intake.seats.items ≡ length intake.sorted.items)

-- of the databases with these items one has an item of this number, counted from 0, that has an entry
pub record HasEntry (given : List (List Closed)) (number : ℕ) : Type 0 where
  pub db : ℕ
  pub item : Closed
  pub there : slice_get (get_or given db []) number ≡ Some item
  pub some : 0 < item.entries

-- What holds whatever the disk tells, where so many sections are sealed. The item behind item 0 is that of the first section.
pub record IsIntake (names : List (List ℕ)) (sealed : ℕ) (intake : Intake) : Type 0 where
  pub few : length names ≤ 4
  pub some : 0 < length names
  pub feeds : length intake.feeds.items ≡ length names
  pub within : (d : ℕ) → d < length names → length (get_or (lists intake) d []) ≤ 2 ^ 32
  -- the databases in rising order of their names
  pub rising : AreRising intake.sorted.items
  pub same : (n : List ℕ) → has_name intake.sorted.items n ≡ has_name names n
  pub count : length intake.sorted.items ≡ length names
  -- of each database its place in that order
  pub ranks : length intake.ranks.items ≡ length names
  pub ranked : (d : ℕ) → d < length names → (get_or intake.ranks.items d 0 < length names) × (get_or intake.sorted.items (get_or intake.ranks.items d 0) [] ≡ get_or names d [])
  pub seats : AreSeated sealed (by_name names (lists intake)) intake.sorted.items intake.seats.items
  pub all_or_none : AreAllOrNone intake
  pub room : has_seats intake ≡ true → (intake.parts.items ≡ []) × (length names ≤ vec_capacity intake.parts)
  -- Each sealed group but the first has an item with an entry.
  pub entered : (k : ℕ) → 2 ≤ k → k ≤ sealed → HasEntry (lists intake) k
