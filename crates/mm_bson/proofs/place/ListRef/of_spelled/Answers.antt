use Rattle.std.proofs.Common.{ap}
use Rattle.mm_bson.specs.Named.{unnamed}
use Rattle.mm_bson.proofs.Walks.{list_held, array_spelled, document_in-again}
use Rattle.mm_bson.proofs.place.ListRef.of_spelled.Goals as goal

pub invariant_of-result : goal.invariant_of-result
invariant_of-result c = list_held c.args.bytes.now c.requires.0 c.requires.1

pub returns-clause-spelled : goal.returns-clause-spelled
returns-clause-spelled c = array_spelled _ _ (list_held c.args.bytes.now c.requires.0 c.requires.1)

pub returns-clause-same : goal.returns-clause-same
returns-clause-same c = λ es h. ap unnamed (document_in-again c.args.bytes.now es h.document)
