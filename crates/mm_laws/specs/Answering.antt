-- What the number of an index's coming or going says, and which refusal of an insert comes first.
use Rattle.std.specs.Prelude.{◌≡◌, ℕ, ◌+◌, Bool, true, List, length, nat_lt}
use Rattle.std.specs.FinMap.{get}
use Rattle.mm_bson.specs.Tree.{Elements}
use Rattle.mm_bson.specs.Spelling.{spelling}
use Rattle.mm_model.specs.declared.command.Command.TheVariants.{Insert, EnsureIndex, DropIndex}
use Rattle.mm_model.specs.declared.reply.Reply.TheVariants.{Done, DocTooLarge}
use Rattle.mm_model.specs.Database.{Database, or_new}
use Rattle.mm_model.specs.After.{after}

-- how many indexes the collection has, or would be made with
abbrev pub index_count : Database → List ℕ → ℕ
index_count db coll = length (or_new (get db coll)).indexes

-- An ensureIndex answers how many indexes came, so 0 for one that is there.
abbrev pub EnsureCounts : Type 0
EnsureCounts = (name : List ℕ) (nodes : ℕ) (db : Database) (coll index : List ℕ) (spec : Elements) (unique : Bool) (n : ℕ)
    → (after name nodes db (EnsureIndex coll index spec unique)).0 ≡ Done n → index_count (after name nodes db (EnsureIndex coll index spec unique)).1 coll ≡ index_count db coll + n

-- A dropIndex answers how many went.
abbrev pub DropCounts : Type 0
DropCounts = (name : List ℕ) (nodes : ℕ) (db : Database) (coll index : List ℕ) (n : ℕ)
    → (after name nodes db (DropIndex coll index)).0 ≡ Done n → index_count (after name nodes db (DropIndex coll index)).1 coll + n ≡ index_count db coll

-- A document that is too large is refused as such, whatever its _id and its keys are.
abbrev pub TooLargeComesFirst : Type 0
TooLargeComesFirst = (name : List ℕ) (nodes : ℕ) (db : Database) (coll : List ℕ) (d : Elements)
    → nat_lt 0x100_0000 (length (spelling d)) ≡ true → (after name nodes db (Insert coll d)).0 ≡ DocTooLarge (length (spelling d))
