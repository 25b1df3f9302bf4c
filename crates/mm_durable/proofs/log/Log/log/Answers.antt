use Rattle.std.proofs.Common.{◌≡◌, [], append-nil, sym, ap, arith}
use Rattle.mm_durable.specs.Log.{pending_sections, with_oldest}
use Rattle.mm_durable.proofs.Logs.{none_pending, asks_nothing}
use Rattle.mm_durable.proofs.Marks.{idle}
use Rattle.mm_durable.proofs.log.Log.log.Goals as goal

pub returns-else-synced_count-sealed_count-clause-kept : goal.returns-else-synced_count-sealed_count-clause-kept
returns-else-synced_count-sealed_count-clause-kept g c = idle c.args.self.now c.requires.sound _

pub returns-else-synced_count-sealed_count-clause-receipts : goal.returns-else-synced_count-sealed_count-clause-receipts
returns-else-synced_count-sealed_count-clause-receipts g c = sym (append-nil c.args.self.now.receipts.items)

pub returns-else-synced_count-sealed_count-clause-journal : goal.returns-else-synced_count-sealed_count-clause-journal
returns-else-synced_count-sealed_count-clause-journal g c =
    let old = c.args.self.now in
    let none : pending_sections old ≡ [] = none_pending old c.requires.sound (omega (arith, c.if-synced_count-sealed_count.false, c.synced_count.ensures, c.sealed_count.ensures)) in
    ap (with_oldest old.journal) (sym none)

pub returns-else-synced_count-sealed_count-clause-made : goal.returns-else-synced_count-sealed_count-clause-made
returns-else-synced_count-sealed_count-clause-made g c =
    let old = c.args.self.now in
    asks_nothing old (none_pending old c.requires.sound (omega (arith, c.if-synced_count-sealed_count.false, c.synced_count.ensures, c.sealed_count.ensures))) _
