use Rattle.mm_query.proofs.Contrary.{nin_contrary, ne_contrary}
use Rattle.mm_query.proofs.laws.contraries.Goals as goal

pub returns-clause-nin : goal.returns-clause-nin
returns-clause-nin c = nin_contrary

pub returns-clause-ne : goal.returns-clause-ne
returns-clause-ne c = ne_contrary
