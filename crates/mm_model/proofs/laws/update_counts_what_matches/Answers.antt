use Rattle.mm_model.proofs.Counts.{update_counts}
use Rattle.mm_model.proofs.laws.update_counts_what_matches.Goals as goal

pub returns : goal.returns
returns c = update_counts
