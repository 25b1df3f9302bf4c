-- What a contract sees of a held database, and what is true of it at all times.
use Rattle.std.specs.Prelude.{◌≡◌, ℕ, ◌+◌, ◌<◌, ◌≤◌, List, [], ◌∷◌, ◌++◌, Option, Some, None, length, map, take, drop, slice_get, slice_index_or}
use Rattle.mm_ranges.specs.declared.part.Closed.{Closed}
use Rattle.mm_views.specs.State.{State, part_of}
use Rattle.mm_model.specs.declared.action.Entry.{Entry}
use Rattle.mm_model.specs.declared.command.Command.{Command}
use Rattle.mm_model.specs.declared.reply.Reply.{Reply}
use Rattle.mm_probe.specs.declared.probe.Probe.{Ghosts}
use Rattle.mm_tie.specs.Ends.{Ring, taken, taker_ring, giver_ring, giver_room}
use Rattle.mm_tie.specs.Items.{image_of}
use Rattle.mm_tie.specs.declared.ends.Giver.{Giver}
use Rattle.mm_held.specs.declared.pass.Pass.{Pass}
use Rattle.mm_held.specs.declared.pass.Mark.{Mark}
use Rattle.mm_held.specs.Meaning.{Meaning, Stored}
use Rattle.mm_held.specs.History.{fold, AreReplies}
use Rattle.mm_held.specs.Images.{Imaged, IsImaged, opening, item}
use Rattle.mm_held.specs.Loaded.{IsBegun, whole_part}
use Rattle.mm_held.specs.Log.{joined, closed_groups, open_group, marks_in, marks_of, sum, AllGiven, AreOfSessions, IsInTurn}

-- The engine and the probe; the images and the items that were given; the log in its closed groups and the opened one; and of each session's
-- end its ring and its room.
pub record HeldView (E P : Type 0) : Type 0 where
  pub engine : E
  pub probe : Option P
  pub images : Imaged
  pub groups : List (List Entry)
  pub waiting : List Entry
  pub rings : List Ring
  pub rooms : List ℕ

-- what a session's entry is
abbrev pub entry : ℕ → ℕ → Command → Reply → Entry
entry place line command reply = record { session = place + 1; line = line; command = command; reply = reply }

-- a probe that was told each of these, one after another
abbrev pub told_by : (List ℕ → Entry → List ℕ) → List ℕ → List Entry → List ℕ
told_by next state [] = state
told_by next state (e ∷ es) = told_by next (next state e) es

-- what a probe means: its state, its start, its rule, and its report
abbrev pub Telling : Type 0 → Type 1
Telling P = Ghosts P

-- The probe's state is the fold of its rule over the log.
abbrev pub IsTold : {P : Type 0} → Telling P → List Entry → Option P → Type 0
IsTold t log None = Unit {0}
IsTold t log (Some p) = t.state p ≡ told_by (t.next p) (t.start p) log

-- the same probe, which was told an entry
abbrev pub IsToldMore : {P : Type 0} → Telling P → Entry → Option P → Option P → Type 0
IsToldMore t e None None = Unit {0}
IsToldMore t e None (Some q) = ⊥
IsToldMore t e (Some p) None = ⊥
IsToldMore t e (Some p) (Some q) = (t.state q ≡ t.next p (t.state p) e) × (t.start q ≡ t.start p) × (t.next q ≡ t.next p) × (t.shown q ≡ t.shown p)

module _ {E P : Type 0} where
  abbrev pub log_of : HeldView E P → List Entry
  log_of v = joined v.groups ++ v.waiting

  -- the section that the opened group will have
  abbrev pub section_of : HeldView E P → ℕ
  section_of v = v.images.first + 1 + length v.groups

  -- the marks of all entries
  abbrev pub all_marks : HeldView E P → List Mark
  all_marks v = marks_in 0 (v.images.first + 1) (v.groups ++ v.waiting ∷ [])

  -- The fact of a held database. It is said of each database that the files stood for when they were loaded; there is one.
  pub record IsHeld (m : Meaning) (t : Telling P) (v : HeldView E P) : Type 0 where
    pub some : (db : Stored) × m.stands (opening v.images) db
    -- the shared image is that of the applied items, and the private one differs from it only in what waits to be applied and what is opened
    pub imaged : IsImaged v.images
    -- the private image stands for the fold of the log
    pub private : (db : Stored) → m.stands (opening v.images) db → m.stands v.images.views.private (fold m db (log_of v))
    -- each reply is that to its command there, or a limit's with its cause
    pub replies : (db : Stored) → m.stands (opening v.images) db → AreReplies m (m.room v.images.views.private) db (log_of v)
    -- the image of the items up to the k-th closed group stands for the fold of the first k groups
    pub closed : (db : Stored) → m.stands (opening v.images) db → (k : ℕ) → k ≤ length v.groups
        → m.stands (image_of (take (k + 1) v.images.given)) (fold m db (joined (take k v.groups)))
    -- each item but the first has as many entries as its group
    pub counted : map (λ (i : Closed). i.entries) (drop 1 v.images.given) ≡ map length v.groups
    -- each entry is of a session that has a seat; each session's lines rise, and it has no more entries than its room
    pub seated : AreOfSessions (length v.rooms) (log_of v)
    pub lines : (place room : ℕ) → slice_get v.rooms place ≡ Some room → IsInTurn room (marks_of (place + 1) (all_marks v))
    -- something is opened without an entry only before the first close
    pub opened : v.waiting ≡ [] → 0 < length v.groups → (v.images.views.made ≡ []) × (v.images.views.opened ≡ [])
    pub told : IsTold t (log_of v) v.probe

  -- The pass is the database's own.
  abbrev pub IsSeated : HeldView E P → Pass → Type 0
  IsSeated v pass = slice_get v.rings pass.place ≡ Some (taker_ring pass.taker)

  -- The pass has fewer marks than its room.
  abbrev pub HasRoom : HeldView E P → Pass → Type 0
  HasRoom v pass = (room : ℕ) × ((slice_get v.rooms pass.place ≡ Some room) × (length (taken pass.taker) < room))

  -- A session's pass that was told nothing yet.
  pub record IsNewPass (v : HeldView E P) (place : ℕ) (p : Pass) : Type 0 where
    pub sits : p.place ≡ place
    pub seat : IsSeated v p
    pub room : HasRoom v p
    pub untold : taken p.taker ≡ []

  -- A pass for each room, in the order of the sessions.
  pub record AreNewPasses (v : HeldView E P) (passes : List Pass) : Type 0 where
    pub count : length passes ≡ length v.rooms
    pub each : (place : ℕ) (p : Pass) → place < length passes → IsNewPass v place (slice_index_or passes place p)

  -- A database begins with loaded views, and has nothing in its log. Its item 0 has the loaded files whole, with the section before the next one.
  pub record IsStarted (m : Meaning) (engine : E) (probe : Option P) (loaded : State) (next : ℕ) (rooms : List ℕ) (groups : ℕ) (v : HeldView E P) : Type 0 where
    pub engine_is : v.engine ≡ engine
    pub probe_is : v.probe ≡ probe
    pub views : IsBegun m loaded v.images.views
    pub first : v.images.first + 1 ≡ next
    pub given : v.images.given ≡ item v.images.first (whole_part loaded.private) 0 ∷ []
    pub loads : opening v.images ≡ loaded.private
    pub most : v.images.most ≡ groups + 1
    pub applied : v.images.applied ≡ v.images.first
    pub no_group : v.groups ≡ []
    pub no_entry : v.waiting ≡ []
    pub rooms_are : v.rooms ≡ rooms

  -- One entry more stands in the opened group, and the probe was told of it.
  pub record IsEntered (t : Telling P) (e : Entry) (old new : HeldView E P) : Type 0 where
    pub engine : new.engine ≡ old.engine
    pub probe : IsToldMore t e old.probe new.probe
    pub first : new.images.first ≡ old.images.first
    pub given : new.images.given ≡ old.images.given
    pub ring : new.images.ring ≡ old.images.ring
    pub most : new.images.most ≡ old.images.most
    pub applied : new.images.applied ≡ old.images.applied
    pub groups : new.groups ≡ old.groups
    pub waiting : new.waiting ≡ old.waiting ++ e ∷ []
    pub rings : new.rings ≡ old.rings
    pub rooms : new.rooms ≡ old.rooms

  -- The opened group is closed, and its item is given: what was opened, with as many entries as waited. All else stays.
  pub record Closes (old new : HeldView E P) : Type 0 where
    pub engine : new.engine ≡ old.engine
    pub probe : new.probe ≡ old.probe
    pub first : new.images.first ≡ old.images.first
    pub given : new.images.given ≡ old.images.given ++ item (section_of old) (part_of old.images.views) (length old.waiting) ∷ []
    pub applied : new.images.applied ≡ old.images.applied
    pub shared : new.images.views.shared ≡ old.images.views.shared
    pub private : new.images.views.private ≡ old.images.views.private
    pub groups : new.groups ≡ old.groups ++ old.waiting ∷ []
    pub waiting : new.waiting ≡ []
    pub rings : new.rings ≡ old.rings
    pub rooms : new.rooms ≡ old.rooms

-- ---- the fields

abbrev pub held_view : {E P : Type 0} → E → Option P → Imaged → List ℕ → List Entry → List (Giver Mark) → HeldView E P
held_view engine probe images counts log givers = record {
  engine = engine;
  probe = probe;
  images = images;
  groups = closed_groups counts log;
  waiting = open_group counts log;
  rings = map giver_ring givers;
  rooms = map giver_room givers;
}

-- What is true of the fields at all times: the fact of the database; that its sessions were given the marks of the log; how many entries are
-- closed; that there is an item for each closed group and one more, and space to count each group that may be closed; and that a session's number
-- fits its field.
pub record IsSound {E P : Type 0} (m : Meaning) (t : Telling P) (engine : E) (probe : Option P) (images : Imaged) (counts : List ℕ) (log : List Entry) (givers : List (Giver Mark)) (closed capacity : ℕ) : Type 0 where
  pub held : IsHeld m t (held_view engine probe images counts log givers)
  pub given : AllGiven givers (all_marks (held_view engine probe images counts log givers))
  pub closed_are : closed ≡ sum counts
  pub within : closed ≤ length log
  pub items : length images.given ≡ length counts + 1
  pub space : images.most ≤ capacity + 1
  pub sessions : length givers < 4294967296
