use Rattle.std.proofs.Common.{◌≡◌, ◌++◌, map, string_bytes}
use Rattle.mm_recover.proofs.touched.in_order.Given as goal

abbrev pub invariant-loop-name : goal.invariant-loop-name
invariant-loop-name l = map string_bytes l.names.items ++ map string_bytes l.name-iterator ≡ map string_bytes l.set.keys
