use Rattle.std.proofs.Common.{◌≡◌, ◌+◌, length, drop}
use Rattle.mm_bson.specs.Spelling.{values_spelling}
use Rattle.mm_update.specs.Drafted.{values_at}
use Rattle.mm_update.proofs.measure.array_len.Given as goal

abbrev pub invariant-loop-next : goal.invariant-loop-next
invariant-loop-next l = record {
  counted : l.len + length (values_spelling l.place (values_at (drop l.next-index l.values))) ≡ 5 + length (values_spelling 0 (values_at l.values));
  places : l.place + length (drop l.next-index l.values) ≡ length l.values;
}
