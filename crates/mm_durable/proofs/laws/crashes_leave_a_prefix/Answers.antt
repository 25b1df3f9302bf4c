use Rattle.mm_journal.proofs.Real.{the_format, the_names}
use Rattle.mm_prefix.proofs.Laws.{leaves_prefix, acknowledged}
use Rattle.mm_durable.specs.Names.{db_of}
use Rattle.mm_durable.proofs.laws.crashes_leave_a_prefix.Goals as goal

pub returns-clause-each : goal.returns-clause-each
returns-clause-each c = λ t u story history k m image left. k.durable.leaves.each m image left.since left.left left.chance

pub returns-clause-recovers : goal.returns-clause-recovers
returns-clause-recovers c = λ t u story history k m image left images are.
    let log = c.args.log.now in
    leaves_prefix the_format the_names (db_of log.names.items) t story k.counts history log.receipts.items u k.durable m image left.since left.left left.chance images are

pub returns-clause-acknowledged : goal.returns-clause-acknowledged
returns-clause-acknowledged c = λ t u story history k n there m image earlier left images are.
    let log = c.args.log.now in
    acknowledged the_format the_names (db_of log.names.items) t story k.counts history log.receipts.items u k.durable n there m image earlier left.since left.left left.chance images are
