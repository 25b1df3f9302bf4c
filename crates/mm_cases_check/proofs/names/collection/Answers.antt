use Rattle.mm_cases_check.proofs.NameFacts.{of_some, collection_facts}
use Rattle.mm_cases_check.proofs.names.collection.Goals as goal

pub returns : goal.returns
returns c = of_some c.new.result c.new.ensures.bytes (λ x e. collection_facts x e)
