use Rattle.mm_laws.proofs.Answering.{ensure_counts, drop_counts}
use Rattle.mm_laws.proofs.laws.indexing_counts_indexes.Goals as goal

pub returns-clause-ensure : goal.returns-clause-ensure
returns-clause-ensure c = ensure_counts

pub returns-clause-drop : goal.returns-clause-drop
returns-clause-drop c = drop_counts
