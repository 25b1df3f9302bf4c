use Rattle.std.proofs.Common.{◌≡◌, ◌-◌, ◌*◌, ◌^◌, ◌≤◌}
use Rattle.mm_records.specs.Shape.{list_for, list_from}
use Rattle.mm_check.proofs.numbers.list_of.Given as goal

abbrev pub invariant-loop-list : goal.invariant-loop-list
invariant-loop-list l = (l.size ≡ 32 * 2 ^ l.list) × (l.list ≤ 18) × (list_for l.len ≡ list_from l.list (18 - l.list) l.len)
