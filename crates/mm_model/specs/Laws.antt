-- What `after` keeps and gives, in other words than its definition.
use Rattle.std.specs.Prelude.{◌≡◌, ◌≢◌, ◌≤◌, ◌<◌, ◌+◌, ℕ, Bool, true, false, List, [], ◌∷◌, ◌++◌, Option, Some, None, length, nat_lt, ◌↔◌, count_by, zero, suc, not}
use Rattle.std.specs.declared.cmp.Ordering.TheVariants.{Less}
use Rattle.std.specs.FinMap.{get}
use Rattle.mm_bson.specs.Tree.{Tree, Elements, no_elements, element, document}
use Rattle.mm_bson.specs.Order.{compare}
use Rattle.mm_keys.specs.Key.{key_len}
use Rattle.mm_query.specs.Form.{has_operators}
use Rattle.mm_model.specs.declared.command.Command.{Command}
use Rattle.mm_model.specs.declared.command.Command.TheVariants.{Insert, Find, Update, Remove, Create, EnsureIndex, DropIndex}
use Rattle.mm_model.specs.declared.reply.Reply.{Reply}
use Rattle.mm_model.specs.declared.reply.Reply.TheVariants.{Done, Found, NsFull}
use Rattle.mm_query.specs.Selection.{selects}
use Rattle.mm_model.specs.Database.{Index, Collection, Database, id_name, id_of, id_index, nodes_in}
use Rattle.mm_model.specs.Keyed.{has_array, same_key}
use Rattle.mm_model.specs.Commands.{collection_of, index_named}
use Rattle.mm_model.specs.After.{after}
use Rattle.mm_model.specs.History.{Group, flat, fold, prefix, behind}

-- ---- what a database keeps

-- a value below the _id of each of these
abbrev pub AllAbove : Tree → List Elements → Type 0
AllAbove id [] = Unit {0}
AllAbove id (d ∷ ds) = (compare id (id_of d) ≡ Less) × AllAbove id ds

-- documents in rising order of _id, so that no two have equal ones
abbrev pub AreRising : List Elements → Type 0
AreRising [] = Unit {0}
AreRising (d ∷ ds) = AllAbove (id_of d) ds × AreRising ds

-- none of these has the document's key
abbrev pub AllApart : Elements → Elements → List Elements → Type 0
AllApart spec d [] = Unit {0}
AllApart spec d (e ∷ es) = (same_key spec d e ≡ false) × AllApart spec d es

-- no two of these documents have equal keys
abbrev pub AreApart : Elements → List Elements → Type 0
AreApart spec [] = Unit {0}
AreApart spec (d ∷ ds) = AllApart spec d ds × AreApart spec ds

-- the document has a key for the index: no keyed value is an array, and the key has at most 1024 bytes
pub record HasKeyFor (index : Index) (d : Elements) : Type 0 where
  pub no_array : has_array d index.spec ≡ false
  pub short : nat_lt 1024 (key_len d index.spec) ≡ false

abbrev pub AllKeyed : Index → List Elements → Type 0
AllKeyed index [] = Unit {0}
AllKeyed index (d ∷ ds) = HasKeyFor index d × AllKeyed index ds

-- what an index keeps: each document has a key, and no two have one where it is unique
pub record Indexes (ds : List Elements) (index : Index) : Type 0 where
  pub keyed : AllKeyed index ds
  pub apart : index.unique ≡ true → AreApart index.spec ds

abbrev pub AllIndex : List Elements → List Index → Type 0
AllIndex ds [] = Unit {0}
AllIndex ds (index ∷ is) = Indexes ds index × AllIndex ds is

-- no name stands again behind itself
abbrev pub AreNamed : List Index → Type 0
AreNamed [] = Unit {0}
AreNamed (index ∷ is) = (index_named index.name is ≡ None) × AreNamed is

-- Documents in the order of different _ids; _id_ first among at most ten indexes of different names, which keep the documents.
pub record IsCollection (c : Collection) : Type 0 where
  pub rising : AreRising c.documents
  pub others : List Index
  pub first : c.indexes ≡ id_index ∷ others
  pub few : length c.indexes ≤ 10
  pub named : AreNamed c.indexes
  pub kept : AllIndex c.documents c.indexes

abbrev pub IsDatabase : Database → Type 0
IsDatabase db = (coll : List ℕ) (c : Collection) → get db coll ≡ Some c → IsCollection c

-- Every command keeps what a database keeps.
abbrev pub DatabasesStay : Type 0
DatabasesStay = (name : List ℕ) (nodes : ℕ) (db : Database) (c : Command) → IsDatabase db → IsDatabase (after name nodes db c).1

-- ---- what stays

-- a command was carried out
abbrev pub is_ok : Reply → Bool
is_ok (Done n) = true
is_ok (Found ds) = true
is_ok _ = false

abbrev pub RefusedKeeps : Type 0
RefusedKeeps = (name : List ℕ) (nodes : ℕ) (db : Database) (c : Command) → is_ok (after name nodes db c).0 ≡ false → (after name nodes db c).1 ≡ db

abbrev pub FindKeeps : Type 0
FindKeeps = (name : List ℕ) (nodes : ℕ) (db : Database) (coll : List ℕ) (f : Elements) (index : Option (List ℕ)) → (after name nodes db (Find coll f index)).1 ≡ db

-- a collection that a command doesn't name
abbrev pub OthersStay : Type 0
OthersStay = (name : List ℕ) (nodes : ℕ) (db : Database) (c : Command) (other : List ℕ) → other ≢ collection_of c → get (after name nodes db c).1 other ≡ get db other

-- the documents under a name; none where there is no collection
abbrev pub documents_in : Option Collection → List Elements
documents_in None = []
documents_in (Some c) = c.documents

abbrev pub documents_at : Database → List ℕ → List Elements
documents_at db coll = documents_in (get db coll)

abbrev pub IndexingKeepsDocuments : Type 0
IndexingKeepsDocuments = (name : List ℕ) (nodes : ℕ) (db : Database) (coll index : List ℕ) (spec : Elements) (unique : Bool) (other : List ℕ)
    → (documents_at (after name nodes db (EnsureIndex coll index spec unique)).1 other ≡ documents_at db other)
    × (documents_at (after name nodes db (DropIndex coll index)).1 other ≡ documents_at db other)

-- ---- what replies say

-- the number of documents that a filter finds
abbrev pub matching : Database → List ℕ → Elements → ℕ
matching db coll f = count_by (selects f) (documents_at db coll)

-- the number in an Ok is that of the documents found: at most one where only the first is asked for
abbrev pub capped : Bool → ℕ → ℕ
capped true zero = zero
capped true (suc n) = 1
capped false n = n

abbrev pub FindCounts : Type 0
FindCounts = (name : List ℕ) (nodes : ℕ) (db : Database) (coll : List ℕ) (f : Elements) (index : Option (List ℕ)) (ds : List Elements)
    → (after name nodes db (Find coll f index)).0 ≡ Found ds → length ds ≡ matching db coll f

abbrev pub RemoveCounts : Type 0
RemoveCounts = (name : List ℕ) (nodes : ℕ) (db : Database) (coll : List ℕ) (f : Elements) (one : Bool) (n : ℕ)
    → (after name nodes db (Remove coll f one)).0 ≡ Done n → n ≡ capped one (matching db coll f)

abbrev pub UpdateCounts : Type 0
UpdateCounts = (name : List ℕ) (nodes : ℕ) (db : Database) (coll : List ℕ) (f change : Elements) (multi : Bool) (n : ℕ)
    → (after name nodes db (Update coll f change multi)).0 ≡ Done n → n ≡ capped (not multi) (matching db coll f)

-- ---- what is found again

-- a value that asks for itself as a filter's condition: it isn't a document that begins with an operator's name
abbrev pub IsPlain : Tree → Type 0
IsPlain (document es) = has_operators es ≡ false
IsPlain _ = Unit {0}

-- the filter of one _id
abbrev pub by_id : Tree → Elements
by_id id = element id_name id no_elements

-- What was put in is found by its _id, and nothing else is.
abbrev pub InsertedIsFound : Type 0
InsertedIsFound = (name : List ℕ) (nodes : ℕ) (db : Database) (coll : List ℕ) (d : Elements) → IsDatabase db → IsPlain (id_of d)
    → (after name nodes db (Insert coll d)).0 ≡ Done 1
    → (after name nodes (after name nodes db (Insert coll d)).1 (Find coll (by_id (id_of d)) None)).0 ≡ Found (d ∷ [])

-- The filter without conditions takes every document out.
abbrev pub RemoveAllLeavesNone : Type 0
RemoveAllLeavesNone = (name : List ℕ) (nodes : ℕ) (db : Database) (coll : List ℕ) (n : ℕ)
    → (after name nodes db (Remove coll no_elements false)).0 ≡ Done n → documents_at (after name nodes db (Remove coll no_elements false)).1 coll ≡ []

-- ---- histories

-- The database after two lists of groups is that after the second, from the one after the first.
abbrev pub FoldsJoin : Type 0
FoldsJoin = (name : List ℕ) (nodes d : ℕ) (db : Database) (groups others : List Group) → fold name nodes d db (groups ++ others) ≡ fold name nodes d (fold name nodes d db groups) others

-- A prefix by whole groups: the flat history is that of the prefix and then that of the groups behind it, and the database after all groups is that after the ones behind, from the one after the prefix.
abbrev pub FoldsPassPrefixes : Type 0
FoldsPassPrefixes = (name : List ℕ) (nodes d : ℕ) (db : Database) (k : ℕ) (groups : List Group)
    → (flat groups ≡ flat (prefix k groups) ++ flat (behind k groups))
    × (fold name nodes d db groups ≡ fold name nodes d (fold name nodes d db (prefix k groups)) (behind k groups))

-- ---- nodes

-- A database that has room for its names keeps it.
abbrev pub RoomStays : Type 0
RoomStays = (name : List ℕ) (nodes : ℕ) (db : Database) (c : Command) → nodes_in db ≤ nodes → nodes_in (after name nodes db c).1 ≤ nodes

-- A new collection takes two nodes, and is refused exactly where fewer are free.
abbrev pub CreateIsFull : Type 0
CreateIsFull = (name : List ℕ) (nodes : ℕ) (db : Database) (coll : List ℕ) → get db coll ≡ None
    → ((after name nodes db (Create coll)).0 ≡ NsFull ↔ nodes < nodes_in db + 2)
    × ((after name nodes db (Create coll)).0 ≡ Done 1 → nodes_in (after name nodes db (Create coll)).1 ≡ nodes_in db + 2)
