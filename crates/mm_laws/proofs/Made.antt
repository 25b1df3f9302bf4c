-- A document that was put in without _id is found by the made one.
use Rattle.std.proofs.Common.{◌≡◌, ℕ, List, [], ◌∷◌, None, sym, ap, subst}
use Rattle.mm_bson.specs.Tree.{object_id, Elements, element}
use Rattle.mm_model.specs.declared.command.Command.TheVariants.{Insert, Find}
use Rattle.mm_model.specs.declared.reply.Reply.TheVariants.{Done, Found}
use Rattle.mm_model.specs.Database.{Database, id_name}
use Rattle.mm_model.specs.After.{after}
use Rattle.mm_model.specs.Laws.{by_id}
use Rattle.mm_model.proofs.Found.{inserted_is_found}
use Rattle.mm_script.specs.Documents.{made_id, id_in_front}
use Rattle.mm_laws.specs.Made.{MadeIdsAreFound}

abbrev Finds : List ℕ → ℕ → Database → List ℕ → List ℕ → Elements → Type 0
Finds name nodes db coll made d = (after name nodes db (Insert coll d)).0 ≡ Done 1 → (after name nodes (after name nodes db (Insert coll d)).1 (Find coll (by_id (object_id made)) None)).0 ≡ Found (d ∷ [])

pub made_are_found : MadeIdsAreFound
made_are_found name nodes db coll stamp session line d is none =
    let made = made_id stamp session line in
    subst (Finds name nodes db coll made) (sym (ap (id_in_front made d) none)) (inserted_is_found name nodes db coll (element id_name (object_id made) d) is tt)
