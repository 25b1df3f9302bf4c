use Rattle.std.proofs.Common.{sym, ◌∙◌, ap}
use Rattle.mm_crash.specs.Asks.{lay_asks}
use Rattle.mm_jfiles.proofs.Asking.{some_before}
use Rattle.mm_recover.specs.Laying.{parts_entries, newer_entries}
use Rattle.mm_recover.proofs.LayAsks.{some_as}
use Rattle.mm_recover.proofs.NewerAsks.{is_newer}
use Rattle.mm_recover.proofs.laying.lay_section.Goals as goal

pub returns-then-section-lsn-clause-cut : goal.returns-then-section-lsn-clause-cut
returns-then-section-lsn-clause-cut g c = some_before (lay_asks (newer_entries c.args.lsn c.args.section.now)) (g.D.Disk.told c.args.disk.now)

pub returns-clause-cut : goal.returns-clause-cut
returns-clause-cut g c = some_as (parts_entries c.as_slice.result.now) (newer_entries c.args.lsn c.args.section.now) _ _ (ap parts_entries c.as_slice.ensures ∙ sym (is_newer c.args.lsn c.args.section.now c.if-section-lsn.false)) c.lay_parts.ensures.cut
