use Rattle.std.proofs.Common.{◌≡◌, ℕ, suc, ◌-◌, ◌<◌, [], List, map, length, get_or, sym, ap, ◌∙◌, arith}
use Rattle.mm_bson.specs.Path.{names}
use Rattle.mm_update.specs.Meeting.{common, common_before}
use Rattle.mm_update.proofs.Ordered.{mapped_at, mapped_length}
use Rattle.mm_update.proofs.Commons.{before_is}
use Rattle.mm_update.proofs.apart.common_before.Goals as goal

pub returns : goal.returns
returns c =
    let paths = c.args.paths.now in
    let ps : List (List ℕ) = map (λ t. t.now) paths in
    let q = c.args.path.now in
    let j = c.args.place - 1 in
    let inside : j < length paths = omega arith in
    let at : get_or ps j [] ≡ c.index-paths-place.result.now = mapped_at (λ t. t.now) paths j c.index-paths-place.result [] inside c.index-paths-place.is in
    let place : suc j ≡ c.args.place = omega arith in
    let here : c.common.result ≡ common (names (get_or ps j [])) (names q) = rw at cc in
    here ∙ sym (before_is q j ps (omega (arith, mapped_length (λ t. t.now) paths))) ∙ ap (λ (k : ℕ). common_before q k ps) place
