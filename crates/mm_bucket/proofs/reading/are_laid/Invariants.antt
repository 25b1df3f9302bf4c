use Rattle.std.proofs.Common.{◌≡◌, ◌+◌, ◌-◌}
use Rattle.mm_bucket.specs.Pairs.{key_len}
use Rattle.mm_bucket.specs.Layout.{pairs_in, slots}
use Rattle.mm_bucket.specs.Marks.{Front, AreMarked}
use Rattle.mm_bucket.proofs.reading.are_laid.Given as goal

abbrev pub invariant-loop-i : goal.invariant-loop-i
invariant-loop-i l = record {
  front : Front l.bytes l.begin l.i;
  marked : AreMarked l.taken (slots l.bytes 40 (pairs_in l.bytes 40 l.i));
  left : l.left + key_len (pairs_in l.bytes 40 l.i) ≡ 8152 - l.begin;
}
