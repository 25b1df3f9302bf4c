-- What a command makes of a database: one reply and one new database.
use Rattle.std.specs.Prelude.{ℕ, Bool, true, false, List, Option, Some, None, nat_lt}
use Rattle.std.specs.FinMap.{get, insert, remove}
use Rattle.mm_model.specs.declared.command.Command.{Command}
use Rattle.mm_model.specs.declared.reply.Reply.{Reply}
use Rattle.mm_model.specs.declared.reply.Reply.TheVariants.{NsFull}
use Rattle.mm_model.specs.Database.{Collection, Database, nodes_in}
use Rattle.mm_model.specs.Keyed.{namespace}
use Rattle.mm_model.specs.Commands.{Outcome, refused, answered, done, outcome, collection_of}

-- the database with this collection of the name, or without one
abbrev pub with_collection : List ℕ → Option Collection → Database → Database
with_collection coll None db = remove db coll
with_collection coll (Some c) db = insert db coll c

-- there is no room for the names of the new database
abbrev pub unless_full : Bool → Database → Reply → Database → Reply × Database
unless_full true old r new = (NsFull, old)
unless_full false old r new = (r, new)

-- A refused command keeps the database. NsFull comes last, and exactly where the new database would take more nodes than there are.
abbrev pub settled : ℕ → List ℕ → Database → Outcome → Reply × Database
settled nodes coll db (refused r) = (r, db)
settled nodes coll db (answered r) = (r, db)
settled nodes coll db (done r c) = unless_full (nat_lt nodes (nodes_in (with_collection coll c db))) db r (with_collection coll c db)

-- `name` is that of the database, `nodes` the number of nodes of its `.ns` file, which no command changes.
abbrev pub after : List ℕ → ℕ → Database → Command → Reply × Database
after name nodes db command =
    settled nodes (collection_of command) db (outcome (namespace name (collection_of command)) command (get db (collection_of command)))
