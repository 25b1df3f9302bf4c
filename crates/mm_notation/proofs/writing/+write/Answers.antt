use Rattle.std.specs.Prelude.{codes, ◌++◌}
use Rattle.mm_bson.specs.View.{tree}
use Rattle.mm_notation.specs.Written.{written_string, written_value}
use Rattle.mm_notation.proofs.Puts.{grows_none, grows_behind, on_err, behind_ok, same_err, behind_err}
use Rattle.mm_notation.proofs.writing.+write.Goals as goal

-- ---- one member

pub put_member-returns-in_err-put_string-clause-err : goal.put_member-returns-in_err-put_string-clause-err
put_member-returns-in_err-put_string-clause-err t c = on_err c.from_residual.result c.in_err-put_string.ensures.err

pub put_member-returns-in_err-put-clause-err : goal.put_member-returns-in_err-put-clause-err
put_member-returns-in_err-put-clause-err t c = on_err c.from_residual-in_err-put.result (grows_behind c.args.out.now.items c.put_string.new.out.items c.put.new.out.items (written_string c.as_bytes.result.now) c.in_ok-put_string.ensures.ok (grows_none c.put_string.new.out.items c.put.new.out.items c.in_err-put.ensures.err))

pub put_member-returns-clause-ok : goal.put_member-returns-clause-ok
put_member-returns-clause-ok t c =
    let name = written_string c.args.member.now.name in
    let value = written_value (tree c.args.member.now.value) in
    behind_ok c.put_value.result c.args.out.now.items c.put_string.new.out.items c.put_value.new.out.items name (codes ": " ++ value) (rw c.as_bytes.ensures.bytes at c.in_ok-put_string.ensures.ok)
    (behind_ok c.put_value.result c.put_string.new.out.items c.put.new.out.items c.put_value.new.out.items (codes ": ") value c.in_ok-put.ensures.ok c.put_value.ensures.ok)

pub put_member-returns-clause-err : goal.put_member-returns-clause-err
put_member-returns-clause-err t c =
    behind_err c.put_value.result c.args.out.now.items c.put_string.new.out.items c.put_value.new.out.items (written_string c.as_bytes.result.now) c.in_ok-put_string.ensures.ok
    (behind_err c.put_value.result c.put_string.new.out.items c.put.new.out.items c.put_value.new.out.items (codes ": ") c.in_ok-put.ensures.ok c.put_value.ensures.err)

-- ---- more members

pub put_more_members-returns-in_err-put-clause-err : goal.put_more_members-returns-in_err-put-clause-err
put_more_members-returns-in_err-put-clause-err t c = on_err c.from_residual.result (grows_behind c.args.out.now.items c.members.out.items c.put.new.out.items c.members.invariant.grows.0 c.members.invariant.grows.1 (grows_none c.members.out.items c.put.new.out.items c.in_err-put.ensures.err))

pub put_more_members-returns-in_err-put_member-clause-err : goal.put_more_members-returns-in_err-put_member-clause-err
put_more_members-returns-in_err-put_member-clause-err t c = on_err c.from_residual-in_err-put_member.result (grows_behind c.args.out.now.items c.members.out.items c.put_member.new.out.items c.members.invariant.grows.0 c.members.invariant.grows.1 (grows_behind c.members.out.items c.put.new.out.items c.put_member.new.out.items (codes ", ") c.in_ok-put.ensures.ok c.in_err-put_member.ensures.err))

pub put_more_members-returns-clause-err : goal.put_more_members-returns-clause-err
put_more_members-returns-clause-err t c = behind_err c.put-2.result c.args.out.now.items c.members.out.items c.put-2.new.out.items c.members.invariant.grows.0 c.members.invariant.grows.1 (same_err c.put-2.result c.members.out.items c.put-2.new.out.items c.put-2.ensures.err)

-- ---- more values

pub put_more_values-returns-in_err-put-clause-err : goal.put_more_values-returns-in_err-put-clause-err
put_more_values-returns-in_err-put-clause-err t c = on_err c.from_residual.result (grows_behind c.args.out.now.items c.values.out.items c.put.new.out.items c.values.invariant.grows.0 c.values.invariant.grows.1 (grows_none c.values.out.items c.put.new.out.items c.in_err-put.ensures.err))

pub put_more_values-returns-in_err-put_value-clause-err : goal.put_more_values-returns-in_err-put_value-clause-err
put_more_values-returns-in_err-put_value-clause-err t c = on_err c.from_residual-in_err-put_value.result (grows_behind c.args.out.now.items c.values.out.items c.put_value.new.out.items c.values.invariant.grows.0 c.values.invariant.grows.1 (grows_behind c.values.out.items c.put.new.out.items c.put_value.new.out.items (codes ", ") c.in_ok-put.ensures.ok c.in_err-put_value.ensures.err))

pub put_more_values-returns-clause-err : goal.put_more_values-returns-clause-err
put_more_values-returns-clause-err t c = behind_err c.put-2.result c.args.out.now.items c.values.out.items c.put-2.new.out.items c.values.invariant.grows.0 c.values.invariant.grows.1 (same_err c.put-2.result c.values.out.items c.put-2.new.out.items c.put-2.ensures.err)

-- ---- an array that holds some

pub put_array-returns-in_err-put-in-len1-up-clause-err : goal.put_array-returns-in_err-put-in-len1-up-clause-err
put_array-returns-in_err-put-in-len1-up-clause-err t c = on_err c.from_residual.result (grows_none c.args.out.now.items c.put-in-len1-up.new.out.items c.in_err-put-in-len1-up.ensures.err)

pub put_array-returns-in_err-put_value-in-len1-up-clause-err : goal.put_array-returns-in_err-put_value-in-len1-up-clause-err
put_array-returns-in_err-put_value-in-len1-up-clause-err t c = on_err c.from_residual-in_err-put_value-in-len1-up.result (grows_behind c.args.out.now.items c.put-in-len1-up.new.out.items c.put_value.new.out.items (codes "[") c.in_ok-put-in-len1-up.ensures.ok c.in_err-put_value-in-len1-up.ensures.err)

pub put_array-returns-in_ok-put_value-in-len1-up-clause-err : goal.put_array-returns-in_ok-put_value-in-len1-up-clause-err
put_array-returns-in_ok-put_value-in-len1-up-clause-err t c =
    behind_err c.put_more_values.result c.args.out.now.items c.put-in-len1-up.new.out.items c.put_more_values.new.out.items (codes "[") c.in_ok-put-in-len1-up.ensures.ok
    (behind_err c.put_more_values.result c.put-in-len1-up.new.out.items c.put_value.new.out.items c.put_more_values.new.out.items _ c.in_ok-put_value-in-len1-up.ensures.ok c.put_more_values.ensures.err)

-- ---- a document that holds some

pub put_document-returns-in_err-put-in-len1-up-clause-err : goal.put_document-returns-in_err-put-in-len1-up-clause-err
put_document-returns-in_err-put-in-len1-up-clause-err t c = on_err c.from_residual.result (grows_none c.args.out.now.items c.put-in-len1-up.new.out.items c.in_err-put-in-len1-up.ensures.err)

pub put_document-returns-in_err-put_member-in-len1-up-clause-err : goal.put_document-returns-in_err-put_member-in-len1-up-clause-err
put_document-returns-in_err-put_member-in-len1-up-clause-err t c = on_err c.from_residual-in_err-put_member-in-len1-up.result (grows_behind c.args.out.now.items c.put-in-len1-up.new.out.items c.put_member.new.out.items (codes "{") c.in_ok-put-in-len1-up.ensures.ok c.in_err-put_member-in-len1-up.ensures.err)

pub put_document-returns-in_ok-put_member-in-len1-up-clause-err : goal.put_document-returns-in_ok-put_member-in-len1-up-clause-err
put_document-returns-in_ok-put_member-in-len1-up-clause-err t c =
    behind_err c.put_more_members.result c.args.out.now.items c.put-in-len1-up.new.out.items c.put_more_members.new.out.items (codes "{") c.in_ok-put-in-len1-up.ensures.ok
    (behind_err c.put_more_members.result c.put-in-len1-up.new.out.items c.put_member.new.out.items c.put_more_members.new.out.items _ c.in_ok-put_member-in-len1-up.ensures.ok c.put_more_members.ensures.err)
