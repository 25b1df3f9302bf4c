use Rattle.std.proofs.Common.{◌≡◌, ◌-◌, ◌≤◌}
use Rattle.mm_outside.specs.Told.{IfTold, image_of}
use Rattle.mm_recover.specs.Loading.{files_with, IsQuiet, HasFirst}
use Rattle.mm_recover.proofs.loading.load_files.Given as goal

abbrev pub invariant-loop-place : goal.invariant-loop-place
invariant-loop-place g l = record {
  within : l.place ≤ 9;
  first : IfTold (g.D.Disk.told l.fn.disk) (λ t. HasFirst (files_with (image_of t) l.log.lsn l.log.sections.items l.name) l.place l.views);
  quiet : IsQuiet l.views;
  told : g.D.Disk.told l.disk ≡ g.D.Disk.told l.fn.disk;
  moment : g.D.Disk.moment l.disk ≡ g.D.Disk.moment l.fn.disk;
  faults : g.D.Disk.faults l.fn.disk ≤ g.D.Disk.faults l.disk;
}

abbrev pub decreases-loop-place : goal.decreases-loop-place
decreases-loop-place g l = 9 - l.place
