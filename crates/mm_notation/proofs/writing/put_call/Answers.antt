use Rattle.mm_notation.proofs.Puts.{grows_none, grows_behind, on_err}
use Rattle.mm_notation.proofs.writing.put_call.Goals as goal

pub returns-in_err-put-clause-err : goal.returns-in_err-put-clause-err
returns-in_err-put-clause-err c = on_err c.from_residual.result (grows_none c.args.out.now.items c.put.new.out.items c.in_err-put.ensures.err)

pub returns-in_err-put_int-clause-err : goal.returns-in_err-put_int-clause-err
returns-in_err-put_int-clause-err c = on_err c.from_residual-in_err-put_int.result (grows_behind c.args.out.now.items c.put.new.out.items c.put_int.new.out.items (c.args.word.now) c.in_ok-put.ensures.ok (grows_none c.put.new.out.items c.put_int.new.out.items c.in_err-put_int.ensures.err))
