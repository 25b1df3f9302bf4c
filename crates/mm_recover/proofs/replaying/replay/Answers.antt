use Rattle.std.proofs.lemmas.Result.{err_from_is_err_and}
use Rattle.mm_recover.proofs.Replayed.{of_device}
use Rattle.mm_recover.proofs.replaying.replay.Goals as goal

pub returns-in_err-make_last-clause-cut : goal.returns-in_err-make_last-clause-cut
returns-in_err-make_last-clause-cut g c = c.make_last.ensures.cut

pub returns-in_err-make_last-clause-err : goal.returns-in_err-make_last-clause-err
returns-in_err-make_last-clause-err g c = let p = err_from_is_err_and c.from_residual.result c.from_residual.ensures.1 in rw (p.1, p.2) (of_device c.in_err-make_last.field-0.0)

pub returns-clause-cut : goal.returns-clause-cut
returns-clause-cut g c = c.make_last.ensures.cut
