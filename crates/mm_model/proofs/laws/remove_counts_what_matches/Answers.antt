use Rattle.mm_model.proofs.Counts.{remove_counts}
use Rattle.mm_model.proofs.laws.remove_counts_what_matches.Goals as goal

pub returns : goal.returns
returns c = remove_counts
