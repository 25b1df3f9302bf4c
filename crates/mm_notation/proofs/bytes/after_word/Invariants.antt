use Rattle.std.proofs.Common.{◌≡◌, ◌+◌, ◌≤◌, length, drop}
use Rattle.mm_notation.specs.Reading.{word_at}
use Rattle.mm_notation.proofs.bytes.after_word.Given as goal

abbrev pub invariant-word : goal.invariant-word
invariant-word l = record {
  same : word_at (drop l.byte-index l.word) l.rest ≡ word_at l.word l.text;
  left : length l.rest + l.byte-index ≤ length l.text;
}
