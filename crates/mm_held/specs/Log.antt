-- The log of a database: its entries in groups, and the marks by which each session was told its own.
use Rattle.std.specs.Prelude.{◌≡◌, ℕ, ◌+◌, ◌<◌, ◌≤◌, ◌==◌, List, [], ◌∷◌, ◌++◌, length, take, drop, filter, slice_index_or}
use Rattle.mm_model.specs.declared.action.Entry.{Entry}
use Rattle.mm_tie.specs.Ends.{given, giver_room}
use Rattle.mm_tie.specs.declared.ends.Giver.{Giver}
use Rattle.mm_held.specs.declared.pass.Mark.{Mark}

-- ---- groups

-- how many entries there are in all
abbrev pub sum : List ℕ → ℕ
sum [] = 0
sum (n ∷ ns) = n + sum ns

-- the closed groups of a log, by their numbers of entries
abbrev pub closed_groups : List ℕ → List Entry → List (List Entry)
closed_groups [] log = []
closed_groups (n ∷ counts) log = take n log ∷ closed_groups counts (drop n log)

-- the entries behind the closed groups
abbrev pub open_group : List ℕ → List Entry → List Entry
open_group [] log = log
open_group (n ∷ counts) log = open_group counts (drop n log)

abbrev pub joined : List (List Entry) → List Entry
joined [] = []
joined (g ∷ groups) = g ++ joined groups

-- each of these is an entry of one of so many sessions, which are counted from 1
abbrev pub AreOfSessions : ℕ → List Entry → Type 0
AreOfSessions sessions [] = Unit {0}
AreOfSessions sessions (e ∷ es) = (1 ≤ e.session) × (e.session ≤ sessions) × AreOfSessions sessions es

-- ---- marks

abbrev pub mark : ℕ → ℕ → Entry → Mark
mark place section entry = record { place = place; section = section; entry = entry }

-- the marks of a group's entries, from a place of the log on
abbrev pub marks_at : ℕ → ℕ → List Entry → List Mark
marks_at place section [] = []
marks_at place section (e ∷ es) = mark place section e ∷ marks_at (place + 1) section es

-- the marks of groups, the first of which has this section
abbrev pub marks_in : ℕ → ℕ → List (List Entry) → List Mark
marks_in place section [] = []
marks_in place section (g ∷ groups) = marks_at place section g ++ marks_in (place + length g) (section + 1) groups

-- a session's own
abbrev pub marks_of : ℕ → List Mark → List Mark
marks_of session marks = filter (λ (m : Mark). m.entry.session == session) marks

-- the line is above that of the last mark
abbrev pub IsAboveLast : ℕ → List Mark → Type 0
IsAboveLast line [] = Unit {0}
IsAboveLast line (m ∷ []) = m.entry.line < line
IsAboveLast line (m ∷ n ∷ ms) = IsAboveLast line (n ∷ ms)

-- lines rise from mark to mark
abbrev pub LinesRise : List Mark → Type 0
LinesRise [] = Unit {0}
LinesRise (m ∷ []) = Unit {0}
LinesRise (m ∷ n ∷ ms) = (m.entry.line < n.entry.line) × LinesRise (n ∷ ms)

-- These marks were given; their lines rise, and they are no more than the end may give.
pub record IsGiven (g : Giver Mark) (own : List Mark) : Type 0 where
  pub marks : given g ≡ own
  pub rise : LinesRise own
  pub few : length own ≤ giver_room g

-- What a session was told: its lines rise, and it has no more marks than its room.
pub record IsInTurn (room : ℕ) (own : List Mark) : Type 0 where
  pub rise : LinesRise own
  pub few : length own ≤ room

-- Each session was given its own of these marks. The ends stand in the order of the sessions, which are counted from 1.
abbrev pub AllGiven : List (Giver Mark) → List Mark → Type 0
AllGiven givers marks = (i : ℕ) (d : Giver Mark) → i < length givers → IsGiven (slice_index_or givers i d) (marks_of (i + 1) marks)
