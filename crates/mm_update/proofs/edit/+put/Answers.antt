use Rattle.std.proofs.Common.{sym, ap, ◌∙◌}
use Rattle.std.proofs.lemmas.Result.{err_from_is_err_and}
use Rattle.std.specs.Prelude.{option_map}
use Rattle.mm_bson.specs.Tree.{document}
use Rattle.mm_bson.specs.Path.{names}
use Rattle.mm_update.specs.Paths.{behind}
use Rattle.mm_update.specs.Drafted.{node_tree}
use Rattle.mm_update.specs.Edited.{mapped, and_then, opened, put, value_by, with_value}
use Rattle.mm_update.proofs.Onward.{Fails-mapped, Fails-then, Fails-along, onward_behind}
use Rattle.mm_update.proofs.edit.+put.Goals as goal

pub put-returns-in_err-node : goal.put-returns-in_err-node
put-returns-in_err-node t c =
    let p = err_from_is_err_and c.from_residual-in_err-node.result c.from_residual-in_err-node.ensures.1 in
    let es = c.args.draft.now in
    let name = c.split-first.result.name.now in
    let failed = rw c.prepare.ensures at (rw c.take-old.ensures.value at c.in_err-node.ensures) in
    rw (p.1, p.2, c.split-first.ensures.steps) (Fails-mapped (λ u. with_value name u es) c.in_err-node.field-0.0 _ failed)

pub onward-returns-in_err-draft-in-Some : goal.onward-returns-in_err-draft-in-Some
onward-returns-in_err-draft-in-Some t c =
    let p = err_from_is_err_and c.from_residual.result c.from_residual.ensures.1 in
    let path = c.args.step.now.path in
    let value = value_by c.args.step.now.operator path c.args.step.now.operand in
    let o = option_map node_tree c.args.old in
    let f = c.in_err-draft-in-Some.field-0.0 in
    let rest = c.in-Some.path.now in
    let inside = put path value (names rest) in
    let whole = onward_behind path c.args.rest rest value o (ap behind c.in-Some.is) in
    rw (p.1, p.2) (Fails-along f (mapped document (and_then inside (opened path o))) _ (sym whole) (Fails-mapped document f (and_then inside (opened path o)) (Fails-then inside f (opened path o) c.in_err-draft-in-Some.ensures)))

pub onward-returns-in_ok-put-in-Some : goal.onward-returns-in_ok-put-in-Some
onward-returns-in_ok-put-in-Some t c =
    let path = c.args.step.now.path in
    let value = value_by c.args.step.now.operator path c.args.step.now.operand in
    let o = option_map node_tree c.args.old in
    let rest = c.in-Some.path.now in
    let inside = put path value (names rest) in
    onward_behind path c.args.rest rest value o (ap behind c.in-Some.is) ∙ ap (λ x. mapped document (and_then inside x)) c.in_ok-draft-in-Some.ensures ∙ ap (mapped document) c.in_ok-put-in-Some.ensures
