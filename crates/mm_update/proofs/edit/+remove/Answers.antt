use Rattle.std.proofs.Common.{◌≡◌, ◌∷◌, Some, sym, ap, ◌∙◌}
use Rattle.std.proofs.lemmas.Result.{on_ok_weaker}
use Rattle.mm_bson.specs.Path.{names, find}
use Rattle.mm_update.specs.Drafted.{node_tree}
use Rattle.mm_update.specs.Edited.{with_value, removed}
use Rattle.mm_update.specs.Paths.{behind}
use Rattle.mm_update.proofs.Onward.{taken_inside, inside_put}
use Rattle.mm_update.proofs.edit.+remove.Goals as goal

pub remove-returns-in-Some : goal.remove-returns-in-Some
remove-returns-in-Some t c =
    let es = c.prepare.new.self in
    let name = c.split-first.result.name.now in
    let rest = c.in-Some.rest.now in
    let steps : names c.args.path.now ≡ name ∷ names rest = c.split-first.ensures.steps ∙ ap (λ o. name ∷ behind o) c.in-Some.is in
    on_ok_weaker c.remove_inside.result (λ e. e ∙ sym (ap (λ ns. removed ns es) steps ∙ taken_inside rest name (removed (names rest)) es) ∙ ap (removed (names c.args.path.now)) c.prepare.ensures) c.remove_inside.ensures

pub remove_inside-returns-in_ok-node-in-Some : goal.remove_inside-returns-in_ok-node-in-Some
remove_inside-returns-in_ok-node-in-Some t c =
    let es = c.args.draft.now in
    let name = c.args.name.now in
    let inside = removed (names c.args.rest.now) in
    let made = c.in_ok-node-in-Some.ensures in
    let found : find name es ≡ Some (node_tree c.in-Some.old) = sym c.in-Some.ensures.value in
    on_ok_weaker c.put.result (λ e. e ∙ c.take.ensures.rest (node_tree c.in_ok-node-in-Some.node) ∙ ap (λ u. with_value name u es) made ∙ inside_put name inside es (node_tree c.in-Some.old) found) c.put.ensures
