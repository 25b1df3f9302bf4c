use Rattle.std.proofs.Common.{arith}
use Rattle.mm_durable.specs.Durable.{items_of}
use Rattle.mm_durable.proofs.Reading.{recovers_items}
use Rattle.mm_durable.proofs.Serving.{served_safe}
use Rattle.mm_durable.proofs.laws.crashes_leave_items.Goals as goal

pub returns-clause-safe : goal.returns-clause-safe
returns-clause-safe g c = λ orderly t u story history k. served_safe t u story history c.args.durable.now.log (items_of c.args.durable.now) orderly.sound k

pub returns-clause-each : goal.returns-clause-each
returns-clause-each g c = λ t u story history k m image left. k.leaves.each m image left.since left.left left.chance

pub returns-clause-items : goal.returns-clause-items
returns-clause-items g c = λ t u story history k m image left images are. recovers_items t u story history c.args.durable.now.log (items_of c.args.durable.now) k m image left images are

pub returns-clause-acknowledged : goal.returns-clause-acknowledged
returns-clause-acknowledged g c = λ t u story history k n there m image earlier left images are.
    let d = c.args.durable.now in
    let r = recovers_items t u story history d.log (items_of d) k m image left images are in
    record { to = r.to; among = omega (arith, r.no_less, k.given n there m earlier); files = r.files; recovers = r.recovers; reads = r.reads }
