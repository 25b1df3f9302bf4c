use Rattle.mm_laws.proofs.Finding.{what_matches}
use Rattle.mm_laws.proofs.laws.finds_give_what_matches.Goals as goal

pub returns : goal.returns
returns c = what_matches
