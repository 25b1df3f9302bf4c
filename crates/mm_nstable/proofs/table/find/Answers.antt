use Rattle.mm_nstable.specs.Changes.{ns_of}
use Rattle.mm_nstable.proofs.Tables.{found_is, found_used, found_named}
use Rattle.mm_nstable.proofs.table.find.Goals as goal

pub returns-clause-is : goal.returns-clause-is
returns-clause-is c = found_is (ns_of c.args.draft.now) c.args.name.now c.holder.result c.requires c.holder.ensures.name c.holder.ensures.some c.holder.ensures.none

pub returns-clause-used : goal.returns-clause-used
returns-clause-used c = found_used (ns_of c.args.draft.now) c.args.name.now c.holder.result c.holder.ensures.some

pub returns-clause-name : goal.returns-clause-name
returns-clause-name c = found_named (ns_of c.args.draft.now) c.args.name.now c.holder.result c.holder.ensures.name c.holder.ensures.some
