-- What is said of files that stand for a database.
use Rattle.std.specs.Prelude.{◌≡◌, ◌≢◌, ℕ, ◌+◌, List, Some, count_by}
use Rattle.std.specs.FinMap.{get, empty, insert}
use Rattle.mm_ranges.specs.Overlay.{Image}
use Rattle.mm_nstable.specs.Nodes.{SameNames, nodes_of, count_of, is_free}
use Rattle.mm_nstable.specs.Table.{Held, table_of}
use Rattle.mm_records.specs.Shape.{Shape}
use Rattle.mm_records.specs.Stands.{ns_in}
use Rattle.mm_model.specs.Database.{Collection, Database, nodes_in}
use Rattle.mm_check.specs.NodeQuestions.{free_name, indexes_name}
use Rattle.mm_check.specs.Standing.{HasShape}
use Rattle.mm_namespaces.specs.Fresh.{IsNew}
use Rattle.mm_standing.specs.Database.{HasCollection, HasDatabase, Stands}
use Rattle.mm_standing.specs.Staying.{LeavesAllBut}

-- Two databases that the same files have are one: they have the same under each collection's name.
abbrev pub OneDatabase : Type 0
OneDatabase = (d : List ℕ) (image : Image) (a b : Database) → HasDatabase d image a → HasDatabase d image b → (coll : List ℕ) → get a coll ≡ get b coll

-- So they are one map.
abbrev pub OneMap : Type 0
OneMap = (d : List ℕ) (image : Image) (a b : Database) → HasDatabase d image a → HasDatabase d image b → a ≡ b

-- And files that stand for two, where there may be no file, stand for one.
abbrev pub StandsForOne : Type 0
StandsForOne = (d : List ℕ) (image : Image) (a b : Database) → Stands image d a → Stands image d b → a ≡ b

-- New files, whose table has the two names of the database and no other, have the database without collections.
abbrev pub NewFilesStand : Type 0
NewFilesStand = (d : List ℕ) (image : Image) → IsNew image (free_name d) → (a b : Held) → table_of (ns_in image) ≡ insert (insert empty (free_name d) a) (indexes_name d) b
    → HasDatabase d image empty

-- Each name of the database has one node, and the other nodes are free.
abbrev pub NodesAreCounted : Type 0
NodesAreCounted = (d : List ℕ) (image : Image) (db : Database) → HasDatabase d image db → nodes_in db + count_by is_free (nodes_of (ns_in image)) ≡ count_of (ns_in image)

-- A change of the records of one collection and of its indexes leaves every other collection as it is, its indexes too.
abbrev pub OthersStay : Type 0
OthersStay = (d : List ℕ) (old new : Image) (db : Database) (h : HasDatabase d old db) (t : Shape) → HasShape d new t → SameNames (ns_in old) (ns_in new)
    → (coll : List ℕ) (one : Collection) → get db coll ≡ Some one → LeavesAllBut d old new h.shape t coll one
    → (other : List ℕ) (c : Collection) → get db other ≡ Some c → other ≢ coll → HasCollection d new t other c
