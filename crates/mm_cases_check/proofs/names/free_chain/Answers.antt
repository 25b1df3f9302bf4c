use Rattle.mm_cases_check.proofs.NameFacts.{of_some, chain_facts}
use Rattle.mm_cases_check.proofs.names.free_chain.Goals as goal

pub returns : goal.returns
returns c = of_some c.new.result c.new.ensures.bytes (λ x e. chain_facts x e)
