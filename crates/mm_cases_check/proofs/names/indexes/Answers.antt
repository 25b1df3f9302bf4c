use Rattle.mm_cases_check.proofs.NameFacts.{of_some, indexes_facts}
use Rattle.mm_cases_check.proofs.names.indexes.Goals as goal

pub returns : goal.returns
returns c = of_some c.new.result c.new.ensures.bytes (λ x e. indexes_facts x e)
