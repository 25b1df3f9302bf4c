use Rattle.mm_standing.proofs.ItemPlaces.{laid_are_low, once_apart}
use Rattle.mm_standing.proofs.ItemPairs.{items_come, items_go, items_are_sorted, items_lack}
use Rattle.mm_standing.proofs.ItemKeys.{keys_are_keys, keys_are_taken}
use Rattle.mm_standing.proofs.items.pairs_follow_documents.Goals as goal

pub returns-clause-low : goal.returns-clause-low
returns-clause-low c = laid_are_low

pub returns-clause-apart : goal.returns-clause-apart
returns-clause-apart c = once_apart

pub returns-clause-come : goal.returns-clause-come
returns-clause-come c = items_come

pub returns-clause-go : goal.returns-clause-go
returns-clause-go c = items_go

pub returns-clause-sorted : goal.returns-clause-sorted
returns-clause-sorted c = items_are_sorted

pub returns-clause-lack : goal.returns-clause-lack
returns-clause-lack c = items_lack

pub returns-clause-keys : goal.returns-clause-keys
returns-clause-keys c = keys_are_keys

pub returns-clause-taken : goal.returns-clause-taken
returns-clause-taken c = keys_are_taken
