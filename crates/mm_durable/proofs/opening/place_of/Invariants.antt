use Rattle.std.proofs.Common.{◌≡◌, ◌+◌, drop}
use Rattle.mm_durable.specs.Names.{index_of}
use Rattle.mm_durable.proofs.opening.place_of.Given as goal

abbrev pub invariant-loop-one : goal.invariant-loop-one
invariant-loop-one l = record {
  place : l.place ≡ l.one-index;
  so : index_of l.names l.name ≡ l.one-index + index_of (drop l.one-index l.names) l.name;
}
