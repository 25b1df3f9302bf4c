use Rattle.mm_durable.proofs.Least.{IsLeastOf}
use Rattle.mm_durable.proofs.log.least.Given as goal

abbrev pub invariant-loop-number : goal.invariant-loop-number
invariant-loop-number l = record {
  least : IsLeastOf l.least l.numbers l.number-index l.one;
}
