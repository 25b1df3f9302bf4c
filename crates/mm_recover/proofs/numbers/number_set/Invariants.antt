use Rattle.std.proofs.Common.{◌≡◌, ℕ, take, map, string_bytes}
use Rattle.std.specs.Ordering.{nat_cmp}
use Rattle.std.specs.BTreeSet.{contains}
use Rattle.mm_recover.specs.Reading.{has_number}
use Rattle.mm_recover.proofs.numbers.number_set.Given as goal

abbrev pub invariant-loop-name : goal.invariant-loop-name
invariant-loop-name l = (n : ℕ) → contains nat_cmp l.numbers n ≡ has_number (map string_bytes (take l.name-index l.names)) n
