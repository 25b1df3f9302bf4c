-- Documents that are put in without `_id`.
use Rattle.std.specs.Prelude.{◌≡◌, ℕ, List, [], ◌∷◌, None}
use Rattle.mm_bson.specs.Tree.{object_id, Elements}
use Rattle.mm_bson.specs.Path.{find}
use Rattle.mm_model.specs.declared.command.Command.TheVariants.{Insert, Find}
use Rattle.mm_model.specs.declared.reply.Reply.TheVariants.{Done, Found}
use Rattle.mm_model.specs.Database.{Database, id_name}
use Rattle.mm_model.specs.After.{after}
use Rattle.mm_model.specs.Laws.{IsDatabase, by_id}
use Rattle.mm_script.specs.Documents.{made_id, with_id}

-- What a script's insert puts in for a document without `_id` is found by the made one, and nothing else is.
abbrev pub MadeIdsAreFound : Type 0
MadeIdsAreFound = (name : List ℕ) (nodes : ℕ) (db : Database) (coll : List ℕ) (stamp session line : ℕ) (d : Elements) → IsDatabase db → find id_name d ≡ None
    → (after name nodes db (Insert coll (with_id (made_id stamp session line) d))).0 ≡ Done 1
    → (after name nodes (after name nodes db (Insert coll (with_id (made_id stamp session line) d))).1 (Find coll (by_id (object_id (made_id stamp session line))) None)).0
    ≡ Found (with_id (made_id stamp session line) d ∷ [])
