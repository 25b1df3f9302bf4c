use Rattle.std.proofs.Common.{◌≡◌, ℕ, List, take}
use Rattle.std.specs.BTreeSet.{contains_text}
use Rattle.mm_recover.specs.Laying.{newer_entries}
use Rattle.mm_recover.specs.Touched.{is_touched}
use Rattle.mm_recover.proofs.LayAsks.{all_entries}
use Rattle.mm_recover.proofs.touched.touched_set.Given as goal

abbrev pub invariant-loop-section : goal.invariant-loop-section
invariant-loop-section l = (file : List ℕ) → contains_text l.names file ≡ is_touched file (all_entries (newer_entries l.lsn) (take l.section-index l.sections))
