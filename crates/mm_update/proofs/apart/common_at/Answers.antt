use Rattle.std.proofs.Common.{◌≡◌, ℕ, ◌<◌, [], List, map, length, get_or, sym, ◌∙◌, arith}
use Rattle.mm_bson.specs.Path.{names}
use Rattle.mm_update.specs.Meeting.{common}
use Rattle.mm_update.proofs.Ordered.{mapped_at, mapped_length}
use Rattle.mm_update.proofs.Commons.{at_is, at_none}
use Rattle.mm_update.proofs.apart.common_at.Goals as goal

pub returns-then-place-paths : goal.returns-then-place-paths
returns-then-place-paths c =
    let paths = c.args.paths.now in
    sym (at_none c.args.path.now c.args.place (map (λ t. t.now) paths) (omega (arith, mapped_length (λ t. t.now) paths)))

pub returns : goal.returns
returns c =
    let paths = c.args.paths.now in
    let ps : List (List ℕ) = map (λ t. t.now) paths in
    let q = c.args.path.now in
    let j = c.args.place in
    let inside : j < length paths = omega arith in
    let at : get_or ps j [] ≡ c.index-paths-place.result.now = mapped_at (λ t. t.now) paths j c.index-paths-place.result [] inside c.index-paths-place.is in
    let here : c.common.result ≡ common (names (get_or ps j [])) (names q) = rw at cc in
    here ∙ sym (at_is q j ps (omega (arith, mapped_length (λ t. t.now) paths)))
