use Rattle.mm_cases_check.proofs.NameFacts.{of_some, index_facts}
use Rattle.mm_cases_check.proofs.names.index.Goals as goal

pub returns : goal.returns
returns c = of_some c.new.result c.new.ensures.bytes (λ x e. index_facts x e)
