-- What a find gives: each document that matches, in the order that was asked for.
use Rattle.std.specs.Prelude.{◌≡◌, ◌⊎◌, ℕ, Bool, List, [], ◌∷◌, Option, None, Some, count_by}
use Rattle.std.specs.declared.cmp.Ordering.TheVariants.{Less, Equal}
use Rattle.std.specs.FinMap.{get}
use Rattle.mm_bson.specs.Tree.{Elements}
use Rattle.mm_bson.specs.Order.{compare}
use Rattle.mm_keys.specs.Key.{key}
use Rattle.mm_keys.specs.KeyOrder.{key_compare}
use Rattle.mm_model.specs.declared.command.Command.TheVariants.{Find}
use Rattle.mm_model.specs.declared.reply.Reply.TheVariants.{Found}
use Rattle.mm_model.specs.Database.{Index, Collection, Database, id_of, selected}
use Rattle.mm_model.specs.Commands.{index_named}
use Rattle.mm_model.specs.After.{after}
use Rattle.mm_model.specs.Laws.{IsDatabase, AreRising, documents_at}

-- Of the documents found as many pass any test as of those that match: none is lost, and none comes twice.
abbrev pub FindsWhatMatches : Type 0
FindsWhatMatches = (name : List ℕ) (nodes : ℕ) (db : Database) (coll : List ℕ) (f : Elements) (index : Option (List ℕ)) (ds : List Elements) (test : Elements → Bool)
    → (after name nodes db (Find coll f index)).0 ≡ Found ds → count_by test ds ≡ count_by test (selected f (documents_at db coll))

-- A find without an index gives documents in rising order of _id.
abbrev pub FindsById : Type 0
FindsById = (name : List ℕ) (nodes : ℕ) (db : Database) (coll : List ℕ) (f : Elements) (ds : List Elements) → IsDatabase db
    → (after name nodes db (Find coll f None)).0 ≡ Found ds → AreRising ds

-- a document before another: by the index's keys and, where these are equal, by _id
abbrev pub Precedes : Elements → Elements → Elements → Type 0
Precedes spec d e = (key_compare spec (key d spec) (key e spec) ≡ Less) ⊎ ((key_compare spec (key d spec) (key e spec) ≡ Equal) × (compare (id_of d) (id_of e) ≡ Less))

abbrev pub LeadsOn : Elements → Elements → List Elements → Type 0
LeadsOn spec d [] = Unit {0}
LeadsOn spec d (e ∷ es) = Precedes spec d e

-- each document stands before the next
abbrev pub AreInOrder : Elements → List Elements → Type 0
AreInOrder spec [] = Unit {0}
AreInOrder spec (d ∷ ds) = LeadsOn spec d ds × AreInOrder spec ds

-- A find by an index gives documents in the order of its keys, and those of equal keys in the order of _id.
abbrev pub FindsByKey : Type 0
FindsByKey = (name : List ℕ) (nodes : ℕ) (db : Database) (coll : List ℕ) (f : Elements) (c : Collection) (index : List ℕ) (i : Index) (ds : List Elements) → IsDatabase db
    → get db coll ≡ Some c → index_named index c.indexes ≡ Some i → (after name nodes db (Find coll f (Some index))).0 ≡ Found ds → AreInOrder i.spec ds
