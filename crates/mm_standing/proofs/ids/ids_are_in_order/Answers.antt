use Rattle.mm_standing.proofs.IdsInOrder.{ids_order_pairs, ids_are_in_order, walk_is_scan, held_are_documents, id_is_first, held_in_order, held_walk_is_scan}
use Rattle.mm_standing.proofs.ids.ids_are_in_order.Goals as goal

pub returns-clause-pairs : goal.returns-clause-pairs
returns-clause-pairs c = ids_order_pairs

pub returns-clause-each : goal.returns-clause-each
returns-clause-each c = ids_are_in_order

pub returns-clause-walk : goal.returns-clause-walk
returns-clause-walk c = walk_is_scan

pub returns-clause-documents : goal.returns-clause-documents
returns-clause-documents c = held_are_documents

pub returns-clause-first : goal.returns-clause-first
returns-clause-first c = id_is_first

pub returns-clause-held : goal.returns-clause-held
returns-clause-held c = held_in_order

pub returns-clause-scan : goal.returns-clause-scan
returns-clause-scan c = held_walk_is_scan
