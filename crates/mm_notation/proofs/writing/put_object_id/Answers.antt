use Rattle.std.specs.Prelude.{codes, ◌++◌}
use Rattle.mm_notation.specs.Written.{written_hex}
use Rattle.mm_notation.proofs.Puts.{grows_none, grows_behind, on_err, behind_ok, same_err, behind_err}
use Rattle.mm_notation.proofs.writing.put_object_id.Goals as goal

pub returns-in_err-put-clause-err : goal.returns-in_err-put-clause-err
returns-in_err-put-clause-err c = on_err c.from_residual.result (grows_none c.args.out.now.items c.put.new.out.items c.in_err-put.ensures.err)

pub returns-in_err-put_hex-clause-err : goal.returns-in_err-put_hex-clause-err
returns-in_err-put_hex-clause-err c = on_err c.from_residual-in_err-put_hex.result (grows_behind c.args.out.now.items c.put.new.out.items c.put_hex.new.out.items (codes "ObjectId(") c.in_ok-put.ensures.ok c.in_err-put_hex.ensures.err)

pub returns-clause-ok : goal.returns-clause-ok
returns-clause-ok c =
    behind_ok c.put-2.result c.args.out.now.items c.put.new.out.items c.put-2.new.out.items (codes "ObjectId(") (written_hex c.args.id.now ++ (codes ")")) c.in_ok-put.ensures.ok
    (behind_ok c.put-2.result c.put.new.out.items c.put_hex.new.out.items c.put-2.new.out.items (written_hex c.args.id.now) (codes ")") c.in_ok-put_hex.ensures.ok
    c.put-2.ensures.ok)

pub returns-clause-err : goal.returns-clause-err
returns-clause-err c =
    behind_err c.put-2.result c.args.out.now.items c.put.new.out.items c.put-2.new.out.items (codes "ObjectId(") c.in_ok-put.ensures.ok
    (behind_err c.put-2.result c.put.new.out.items c.put_hex.new.out.items c.put-2.new.out.items (written_hex c.args.id.now) c.in_ok-put_hex.ensures.ok
    (same_err c.put-2.result c.put_hex.new.out.items c.put-2.new.out.items c.put-2.ensures.err))
