use Rattle.std.proofs.Common.{◌≡◌, ◌++◌, ◌+◌, ◌<◌, ◌^◌, length, drop}
use Rattle.mm_bson.specs.Spelling.{values_spelling, AreValues}
use Rattle.mm_update.specs.Drafted.{values_at}
use Rattle.mm_update.proofs.write.put_items.Given as goal

abbrev pub invariant-loop-next : goal.invariant-loop-next
invariant-loop-next l = record {
  items : l.out.items ++ values_spelling l.place (values_at (drop l.next-index l.values)) ≡ l.fn.out.items ++ values_spelling 0 (values_at l.values);
  sound : AreValues (values_at (drop l.next-index l.values)) → AreValues (values_at l.values);
  short : length (values_spelling l.place (values_at (drop l.next-index l.values))) < 2 ^ 31;
  few : l.place + length (drop l.next-index l.values) ≡ length l.values;
}
