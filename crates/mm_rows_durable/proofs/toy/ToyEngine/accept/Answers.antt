use Rattle.mm_rows_durable.proofs.Seats.{some_database}
use Rattle.mm_rows_durable.proofs.toy.ToyEngine.accept.Goals as goal

pub returns-clause-ok : goal.returns-clause-ok
returns-clause-ok c = (some_database, tt)
