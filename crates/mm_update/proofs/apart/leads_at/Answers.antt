use Rattle.std.proofs.Common.{◌≡◌, ℕ, ◌<◌, true, false, [], List, map, length, get_or, arith}
use Rattle.mm_bson.specs.Path.{names}
use Rattle.mm_update.specs.Paths.{leads}
use Rattle.mm_update.proofs.Ordered.{mapped_at, mapped_length, leading_overlaps, free_at}
use Rattle.mm_update.proofs.apart.leads_at.Goals as goal

pub returns-then-place-paths-clause-free : goal.returns-then-place-paths-clause-free
returns-then-place-paths-clause-free c = λ is.
    let paths = c.args.paths.now in
    free_at c.args.path.now c.args.place (map (λ t. t.now) paths) [] (λ lt. absurd (omega (arith, lt, mapped_length (λ t. t.now) paths)))

pub returns-clause-leads : goal.returns-clause-leads
returns-clause-leads c = λ is.
    let paths = c.args.paths.now in
    let ps : List (List ℕ) = map (λ t. t.now) paths in
    let j = c.args.place in
    let inside : j < length paths = omega arith in
    let at : get_or ps j [] ≡ c.index-paths-place.result.now = mapped_at (λ t. t.now) paths j c.index-paths-place.result [] inside c.index-paths-place.is in
    let led : leads (names c.args.path.now) (names (get_or ps j [])) ≡ true = rw at cc in
    leading_overlaps c.args.path.now ps [] j (omega (arith, mapped_length (λ t. t.now) paths)) led

pub returns-clause-free : goal.returns-clause-free
returns-clause-free c = λ is.
    let paths = c.args.paths.now in
    let ps : List (List ℕ) = map (λ t. t.now) paths in
    let j = c.args.place in
    let inside : j < length paths = omega arith in
    let at : get_or ps j [] ≡ c.index-paths-place.result.now = mapped_at (λ t. t.now) paths j c.index-paths-place.result [] inside c.index-paths-place.is in
    let free : leads (names c.args.path.now) (names (get_or ps j [])) ≡ false = rw at cc in
    free_at c.args.path.now j ps [] (λ lt. free)
