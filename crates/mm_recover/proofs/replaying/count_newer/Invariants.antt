use Rattle.std.proofs.Common.{◌≡◌, ◌≤◌, length, take}
use Rattle.mm_crash.specs.Journal.{above}
use Rattle.mm_recover.proofs.replaying.count_newer.Given as goal

abbrev pub invariant-loop-section : goal.invariant-loop-section
invariant-loop-section l = record {
  counted : l.count ≡ length (above l.lsn (take l.section-index l.sections));
  few : l.count ≤ l.section-index;
}
