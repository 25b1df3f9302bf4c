use Rattle.mm_laws.proofs.Finding.{by_id_rising, by_key_ordered}
use Rattle.mm_laws.proofs.laws.finds_are_sorted.Goals as goal

pub returns-clause-id : goal.returns-clause-id
returns-clause-id c = by_id_rising

pub returns-clause-key : goal.returns-clause-key
returns-clause-key c = by_key_ordered
