use Rattle.mm_nstable.specs.Nodes.{IsTable}
use Rattle.mm_nstable.specs.Changes.{ns_of}
use Rattle.mm_rows_files.proofs.nstable.first_other.Given as goal

abbrev pub invariant-loop-i : goal.invariant-loop-i
invariant-loop-i l = IsTable (ns_of l.draft)
