use Rattle.std.proofs.Common.{◌≡◌, ◌-◌, ◌≤◌, length, take}
use Rattle.mm_outside.specs.Told.{IfTold}
use Rattle.mm_crash.specs.Journal.{AllCan}
use Rattle.mm_journal.proofs.Real.{the_format}
use Rattle.mm_recover.specs.Reading.{AreSmall, AreNumbers, HasFront, journal_in}
use Rattle.mm_recover.proofs.journal.read_front.Given as goal

abbrev pub invariant-loop-at : goal.invariant-loop-at
invariant-loop-at g l = record {
  within : l.at ≤ length l.numbers - 1;
  small : AreSmall l.sections.items;
  can : AllCan the_format l.sections.items;
  reads : IfTold (g.D.Disk.told l.fn.disk) (λ t. AreNumbers (journal_in t) 0 l.numbers → HasFront l.lsn (journal_in t) (take l.at l.numbers) l.sections.items);
  told : g.D.Disk.told l.disk ≡ g.D.Disk.told l.fn.disk;
  moment : g.D.Disk.moment l.disk ≡ g.D.Disk.moment l.fn.disk;
  faults : g.D.Disk.faults l.fn.disk ≤ g.D.Disk.faults l.disk;
}

abbrev pub decreases-loop-at : goal.decreases-loop-at
decreases-loop-at g l = length l.numbers - l.at
