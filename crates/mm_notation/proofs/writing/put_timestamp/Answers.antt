use Rattle.std.specs.Prelude.{codes, ◌++◌}
use Rattle.std.specs.Fmt.{decimal}
use Rattle.mm_notation.proofs.Puts.{grows_none, grows_behind, on_err, behind_ok, same_err, behind_err}
use Rattle.mm_notation.proofs.writing.put_timestamp.Goals as goal

pub returns-in_err-put-clause-err : goal.returns-in_err-put-clause-err
returns-in_err-put-clause-err c = on_err c.from_residual.result (grows_none c.args.out.now.items c.put.new.out.items c.in_err-put.ensures.err)

pub returns-in_err-put_unsigned-clause-err : goal.returns-in_err-put_unsigned-clause-err
returns-in_err-put_unsigned-clause-err c = on_err c.from_residual-in_err-put_unsigned.result (grows_behind c.args.out.now.items c.put.new.out.items c.put_unsigned.new.out.items (codes "Timestamp(") c.in_ok-put.ensures.ok (grows_none c.put.new.out.items c.put_unsigned.new.out.items c.in_err-put_unsigned.ensures.err))

pub returns-in_err-put-2-clause-err : goal.returns-in_err-put-2-clause-err
returns-in_err-put-2-clause-err c = on_err c.from_residual-in_err-put-2.result (grows_behind c.args.out.now.items c.put.new.out.items c.put-2.new.out.items (codes "Timestamp(") c.in_ok-put.ensures.ok (grows_behind c.put.new.out.items c.put_unsigned.new.out.items c.put-2.new.out.items (decimal c.args.seconds) c.in_ok-put_unsigned.ensures.ok (grows_none c.put_unsigned.new.out.items c.put-2.new.out.items c.in_err-put-2.ensures.err)))

pub returns-in_err-put_unsigned-2-clause-err : goal.returns-in_err-put_unsigned-2-clause-err
returns-in_err-put_unsigned-2-clause-err c = on_err c.from_residual-in_err-put_unsigned-2.result (grows_behind c.args.out.now.items c.put.new.out.items c.put_unsigned-2.new.out.items (codes "Timestamp(") c.in_ok-put.ensures.ok (grows_behind c.put.new.out.items c.put_unsigned.new.out.items c.put_unsigned-2.new.out.items (decimal c.args.seconds) c.in_ok-put_unsigned.ensures.ok (grows_behind c.put_unsigned.new.out.items c.put-2.new.out.items c.put_unsigned-2.new.out.items (codes ", ") c.in_ok-put-2.ensures.ok (grows_none c.put-2.new.out.items c.put_unsigned-2.new.out.items c.in_err-put_unsigned-2.ensures.err))))

pub returns-clause-ok : goal.returns-clause-ok
returns-clause-ok c =
    behind_ok c.put-3.result c.args.out.now.items c.put.new.out.items c.put-3.new.out.items (codes "Timestamp(") (decimal c.args.seconds ++ (codes ", " ++ (decimal c.args.increment ++ (codes ")")))) c.in_ok-put.ensures.ok
    (behind_ok c.put-3.result c.put.new.out.items c.put_unsigned.new.out.items c.put-3.new.out.items (decimal c.args.seconds) (codes ", " ++ (decimal c.args.increment ++ (codes ")"))) c.in_ok-put_unsigned.ensures.ok
    (behind_ok c.put-3.result c.put_unsigned.new.out.items c.put-2.new.out.items c.put-3.new.out.items (codes ", ") (decimal c.args.increment ++ (codes ")")) c.in_ok-put-2.ensures.ok
    (behind_ok c.put-3.result c.put-2.new.out.items c.put_unsigned-2.new.out.items c.put-3.new.out.items (decimal c.args.increment) (codes ")") c.in_ok-put_unsigned-2.ensures.ok
    c.put-3.ensures.ok)))

pub returns-clause-err : goal.returns-clause-err
returns-clause-err c =
    behind_err c.put-3.result c.args.out.now.items c.put.new.out.items c.put-3.new.out.items (codes "Timestamp(") c.in_ok-put.ensures.ok
    (behind_err c.put-3.result c.put.new.out.items c.put_unsigned.new.out.items c.put-3.new.out.items (decimal c.args.seconds) c.in_ok-put_unsigned.ensures.ok
    (behind_err c.put-3.result c.put_unsigned.new.out.items c.put-2.new.out.items c.put-3.new.out.items (codes ", ") c.in_ok-put-2.ensures.ok
    (behind_err c.put-3.result c.put-2.new.out.items c.put_unsigned-2.new.out.items c.put-3.new.out.items (decimal c.args.increment) c.in_ok-put_unsigned-2.ensures.ok
    (same_err c.put-3.result c.put_unsigned-2.new.out.items c.put-3.new.out.items c.put-3.ensures.err))))
