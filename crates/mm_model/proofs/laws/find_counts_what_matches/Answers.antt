use Rattle.mm_model.proofs.Counts.{find_counts}
use Rattle.mm_model.proofs.laws.find_counts_what_matches.Goals as goal

pub returns : goal.returns
returns c = find_counts
