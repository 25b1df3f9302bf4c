use Rattle.std.proofs.Common.{◌≡◌, ◌+◌, length, drop}
use Rattle.std.specs.Prelude.{option_map}
use Rattle.mm_update.specs.Drafted.{place_in}
use Rattle.mm_update.proofs.index.place_among.Given as goal

abbrev pub invariant-loop-entry : goal.invariant-loop-entry
invariant-loop-entry l = record {
  count : l.place + length (drop l.entry-index l.entries) ≡ l.start + length l.entries;
  same : option_map (λ k. l.place + k) (place_in l.name (drop l.entry-index l.entries)) ≡ option_map (λ k. l.start + k) (place_in l.name l.entries);
}
