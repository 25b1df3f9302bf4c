use Rattle.std.proofs.Common.{◌≡◌, ◌≢◌, ℕ, ◌+◌, ◌-◌, ◌/◌, ◌<◌, [], List, map, length, get_or, arith}
use Rattle.std.specs.declared.cmp.Ordering.TheVariants.{Less}
use Rattle.mm_bson.specs.Path.{names}
use Rattle.mm_update.specs.Paths.{by_steps}
use Rattle.mm_update.proofs.Ordered.{mapped_at, mapped_length, all_before, none_before, place_found}
use Rattle.mm_update.proofs.apart.place_of.Goals as goal

pub loop-low-init : goal.loop-low-init
loop-low-init c = record {
  within = omega arith;
  order = omega arith;
  before = λ j lt. absurd (omega (arith, lt));
  after = λ j le lt e. absurd (omega (arith, le, lt));
}

pub loop-low-preserved-in-Less : goal.loop-low-preserved-in-Less
loop-low-preserved-in-Less c =
    let paths = c.args.paths.now in
    let ps : List (List ℕ) = map (λ t. t.now) paths in
    let m = c.loop-low.low + (c.loop-low.high - c.loop-low.low) / 2 in
    let inside : m < length paths = omega arith in
    let at : get_or ps m [] ≡ c.index-paths-middle.result.now = mapped_at (λ t. t.now) paths m c.index-paths-middle.result [] inside c.index-paths-middle.is in
    let less : by_steps (names (get_or ps m [])) (names c.args.path.now) ≡ Less = rw at cc in
    record {
      within = c.loop-low.invariant.within;
      order = omega arith;
      before = all_before c.args.path.now ps [] c.requires m (omega (arith, mapped_length (λ t. t.now) paths)) less;
      after = c.loop-low.invariant.after;
    }

pub loop-low-preserved : goal.loop-low-preserved
loop-low-preserved c =
    let paths = c.args.paths.now in
    let ps : List (List ℕ) = map (λ t. t.now) paths in
    let m = c.loop-low.low + (c.loop-low.high - c.loop-low.low) / 2 in
    let inside : m < length paths = omega arith in
    let at : get_or ps m [] ≡ c.index-paths-middle.result.now = mapped_at (λ t. t.now) paths m c.index-paths-middle.result [] inside c.index-paths-middle.is in
    let other : by_steps (names (get_or ps m [])) (names c.args.path.now) ≢ Less = λ less. c.in_default.not-Less cc in
    record {
      within = omega arith;
      order = omega arith;
      before = c.loop-low.invariant.before;
      after = λ j le lt. none_before c.args.path.now ps [] c.requires m (omega (arith, mapped_length (λ t. t.now) paths)) other j le (omega (arith, lt, mapped_length (λ t. t.now) paths));
    }

pub returns : goal.returns
returns c =
    let paths = c.args.paths.now in
    let ps : List (List ℕ) = map (λ t. t.now) paths in
    place_found c.args.path.now c.loop-low.low ps [] (omega (arith, mapped_length (λ t. t.now) paths)) c.loop-low.invariant.before
    (λ j le lt. c.loop-low.invariant.after j (omega (arith, le)) (omega (arith, lt, mapped_length (λ t. t.now) paths)))
