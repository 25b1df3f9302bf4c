use Rattle.mm_bson.proofs.Walks.{document_held, document_in-again}
use Rattle.mm_bson.proofs.place.DocRef.of_spelled.Goals as goal

pub invariant_of-result : goal.invariant_of-result
invariant_of-result c = document_held c.args.bytes.now c.requires.0 c.requires.1

pub returns-clause-spelled : goal.returns-clause-spelled
returns-clause-spelled c = (document_held c.args.bytes.now c.requires.0 c.requires.1).spelled

pub returns-clause-same : goal.returns-clause-same
returns-clause-same c = λ es h. document_in-again c.args.bytes.now es h
