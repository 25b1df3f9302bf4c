use Rattle.mm_query.proofs.Selected.{selects-decides}
use Rattle.mm_query.proofs.laws.selects_what_matches.Goals as goal

pub returns : goal.returns
returns c = selects-decides
