use Rattle.std.proofs.Common.{◌≡◌, ℕ, ◌-◌, ◌<◌, true, false, [], List, map, length, get_or, arith}
use Rattle.mm_bson.specs.Path.{names}
use Rattle.mm_update.specs.Paths.{leads}
use Rattle.mm_update.proofs.Ordered.{mapped_at, mapped_length, led_overlaps, free_before}
use Rattle.mm_update.proofs.apart.is_led_to.Goals as goal

pub returns-then-place-eq0-clause-free : goal.returns-then-place-eq0-clause-free
returns-then-place-eq0-clause-free c = λ is. rw c.if-place-eq0.true tt

pub returns-clause-led : goal.returns-clause-led
returns-clause-led c = λ is.
    let paths = c.args.paths.now in
    let ps : List (List ℕ) = map (λ t. t.now) paths in
    let j = c.args.place - 1 in
    let inside : j < length paths = omega arith in
    let at : get_or ps j [] ≡ c.index-paths-place.result.now = mapped_at (λ t. t.now) paths j c.index-paths-place.result [] inside c.index-paths-place.is in
    let led : leads (names (get_or ps j [])) (names c.args.path.now) ≡ true = rw at cc in
    led_overlaps c.args.path.now ps [] j (omega (arith, mapped_length (λ t. t.now) paths)) led

pub returns-clause-free : goal.returns-clause-free
returns-clause-free c = λ is.
    let paths = c.args.paths.now in
    let ps : List (List ℕ) = map (λ t. t.now) paths in
    let j = c.args.place - 1 in
    let inside : j < length paths = omega arith in
    let at : get_or ps j [] ≡ c.index-paths-place.result.now = mapped_at (λ t. t.now) paths j c.index-paths-place.result [] inside c.index-paths-place.is in
    let free : leads (names (get_or ps j [])) (names c.args.path.now) ≡ false = rw at cc in
    free_before c.args.path.now c.args.place ps []
    (λ i e.
    let same : i ≡ j = omega (arith, e) in
    rw same free)
