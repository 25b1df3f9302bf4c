use Rattle.std.proofs.Common.{◌≡◌, ◌≤◌, ◌-◌, length}
use Rattle.mm_script.specs.Grammar.{setting}
use Rattle.mm_script.specs.Lines.{lines}
use Rattle.mm_script.specs.Reading.{script_at}
use Rattle.mm_script.proofs.LoopSteps.{onto}
use Rattle.mm_script.proofs.script.actions_of.Given as goal

abbrev pub invariant-lines : goal.invariant-lines
invariant-lines l = record {
  shorter : length l.rest ≤ length l.bytes;
  few : l.number ≤ 100_001;
  so_far : onto l.actions.items (script_at (setting l.names l.stamp l.steps) (length l.bytes) (length l.bytes - length l.rest) l.number (lines l.rest))
      ≡ script_at (setting l.names l.stamp l.steps) (length l.bytes) 0 1 (lines l.bytes);
}

abbrev pub decreases-lines : goal.decreases-lines
decreases-lines l = length l.rest
