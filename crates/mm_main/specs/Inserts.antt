-- The actions that are played: inserts into one collection, none of which waits for its group's sync.
use Rattle.std.specs.Prelude.{◌≡◌, ℕ, ◌<◌, false, if◌then◌else◌, List, [], ◌∷◌, ◌⊎◌, length, map, Option, Some, None}
use Rattle.std.specs.Str.{bytes_eq}
use Rattle.mm_bson.specs.Tree.{Elements, no_elements}
use Rattle.mm_model.specs.declared.action.Action.{Action}
use Rattle.mm_model.specs.declared.action.Action.TheVariants.{Run}
use Rattle.mm_model.specs.declared.command.Command.TheVariants.{Insert}
use Rattle.mm_script.specs.declared.fault.LineWhat.{LineWhat}
use Rattle.mm_script.specs.declared.fault.LineWhat.TheVariants.{Verb, Word, Step}
use Rattle.mm_script.specs.Render.{line_of}
use Rattle.mm_main.specs.Collections.{IsCollection}

-- the action inserts a document into the collection
abbrev pub IsInsert : List ℕ → Action → Type 0
IsInsert collection (Run line session db (Insert coll doc) j) = (coll ≡ collection) × (j ≡ false)
IsInsert collection _ = ⊥

abbrev pub AreInserts : List ℕ → List Action → Type 0
AreInserts collection [] = Unit {0}
AreInserts collection (action ∷ actions) = IsInsert collection action × AreInserts collection actions

-- the document that an action inserts, and those of some actions
abbrev pub doc_of : Action → Elements
doc_of (Run line session db (Insert coll doc) j) = doc
doc_of _ = no_elements

abbrev pub docs_of : List Action → List Elements
docs_of actions = map doc_of actions

-- the collection into which the first action inserts
abbrev pub collection_in : List Action → List ℕ
collection_in (Run line session db (Insert coll doc) j ∷ actions) = coll
collection_in _ = []

-- all of the actions insert into one collection, which has a collection's name
pub record ArePlayed (actions : List Action) : Type 0 where
  pub inserts : AreInserts (collection_in actions) actions
  pub name : 0 < length actions → IsCollection (collection_in actions)

-- What of an action isn't played, from the left: its verb, or its collection, which isn't the one; or a `j` behind it.
abbrev pub unplayed : List ℕ → Action → Option LineWhat
unplayed collection (Run line session db (Insert coll doc) j) = if bytes_eq coll collection then (if j then Some Word else None) else Some Verb
unplayed collection (Run line session db command j) = Some Verb
unplayed collection _ = Some Step

-- The first of the actions that isn't played stands on line n, and this of it isn't.
abbrev pub IsFirstUnplayed : List ℕ → ℕ → LineWhat → List Action → Type 0
IsFirstUnplayed collection n what [] = ⊥
IsFirstUnplayed collection n what (action ∷ actions) =
    ((unplayed collection action ≡ Some what) × (n ≡ line_of action)) ⊎ ((unplayed collection action ≡ None) × IsFirstUnplayed collection n what actions)
