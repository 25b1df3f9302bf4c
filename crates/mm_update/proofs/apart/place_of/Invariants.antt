use Rattle.std.proofs.Common.{◌≡◌, ◌≢◌, ℕ, ◌-◌, ◌<◌, ◌≤◌, [], map, length, get_or}
use Rattle.std.specs.declared.cmp.Ordering.TheVariants.{Less}
use Rattle.mm_bson.specs.Path.{names}
use Rattle.mm_update.specs.Paths.{by_steps}
use Rattle.mm_update.proofs.apart.place_of.Given as goal

abbrev pub invariant-loop-low : goal.invariant-loop-low
invariant-loop-low l = record {
  within : l.high ≤ length l.paths;
  order : l.low ≤ l.high;
  before : (j : ℕ) → j < l.low → by_steps (names (get_or (map (λ t. t.now) l.paths) j [])) (names l.path) ≡ Less;
  after : (j : ℕ) → l.high ≤ j → j < length l.paths → by_steps (names (get_or (map (λ t. t.now) l.paths) j [])) (names l.path) ≢ Less;
}

abbrev pub decreases-loop-low : goal.decreases-loop-low
decreases-loop-low l = l.high - l.low
