use Rattle.std.proofs.Common.{◌≡◌, ℕ, ◌+◌, ◌^◌, ◌<◌, ◌≤◌}
use Rattle.mm_records.proofs.asking.power_of.Given as goal

-- the size is a power of two, and no smaller one from 32 on is long enough
abbrev pub invariant-loop-step : goal.invariant-loop-step
invariant-loop-step l = record { is : l.size ≡ 2 ^ (5 + l.step); less : (j : ℕ) → j < l.step → 2 ^ (5 + j) < l.len; most : l.size ≤ 8388608 }
