use Rattle.mm_nstable.specs.Changes.{ns_of}
use Rattle.mm_nstable.proofs.Tables.{details_given}
use Rattle.mm_nstable.proofs.table.details.Goals as goal

pub returns-clause-table : goal.returns-clause-table
returns-clause-table c = λ table used. details_given (ns_of c.args.draft.now) c.args.node c.node_details.result c.node_details.ensures table used
