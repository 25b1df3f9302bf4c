use Rattle.mm_cases_check.proofs.NameFacts.{of_some, dropped_facts}
use Rattle.mm_cases_check.proofs.names.dropped_one.Goals as goal

pub returns : goal.returns
returns c = of_some c.new.result c.new.ensures.bytes (λ x e. dropped_facts x e)
