-- When nodes run out, and when there is room again.
use Rattle.std.specs.Prelude.{◌≡◌, ◌≤◌, ◌<◌, ◌↔◌, ℕ, List, None, Some}
use Rattle.std.specs.FinMap.{get}
use Rattle.mm_model.specs.declared.command.Command.{Command}
use Rattle.mm_model.specs.declared.command.Command.TheVariants.{Create, Drop}
use Rattle.mm_model.specs.declared.reply.Reply.TheVariants.{Done, NsFull}
use Rattle.mm_model.specs.Database.{Collection, Database, nodes_in}
use Rattle.mm_model.specs.After.{after}
use Rattle.mm_model.specs.Laws.{IsDatabase}

-- with some number of nodes the command would leave a database that takes more than there are
abbrev pub WantsMore : List ℕ → ℕ → Database → Command → Type 0
WantsMore name nodes db c = (more : ℕ) × (nodes < nodes_in (after name more db c).1)

-- Of a database that has room for its names a command is refused for want of nodes exactly where it wants more than there are.
abbrev pub FullByCount : Type 0
FullByCount = (name : List ℕ) (nodes : ℕ) (db : Database) (c : Command) → nodes_in db ≤ nodes → ((after name nodes db c).0 ≡ NsFull ↔ WantsMore name nodes db c)

-- Once a collection is dropped, a new one can be made, however few nodes were free before.
abbrev pub RoomComesBack : Type 0
RoomComesBack = (name : List ℕ) (nodes : ℕ) (db : Database) (coll other : List ℕ) (c : Collection) → IsDatabase db → nodes_in db ≤ nodes → get db coll ≡ None → get db other ≡ Some c
    → (after name nodes (after name nodes db (Drop other)).1 (Create coll)).0 ≡ Done 1
