use Rattle.std.proofs.Common.{◌≡◌, ℕ, List, map, sym, ap, ◌∙◌, arith}
use Rattle.mm_bson.specs.Path.{names}
use Rattle.mm_update.specs.Paths.{AreInOrder}
use Rattle.mm_update.specs.Meeting.{most_common}
use Rattle.mm_update.proofs.Ordered.{mapped_length, place_within}
use Rattle.mm_update.proofs.Commons.{most_near}
use Rattle.mm_update.proofs.apart.Apart.common.Goals as goal

pub common_before-requires : goal.common_before-requires
common_before-requires c =
    let paths = c.as_slice-paths.result.now in
    let le = place_within c.args.path.now c.place_of-place.result (map (λ t. t.now) paths) c.place_of-place.ensures in
    omega (arith, le, mapped_length (λ t. t.now) paths)

pub returns : goal.returns
returns c =
    let paths = c.as_slice-paths.result.now in
    let ps : List (List ℕ) = map (λ t. t.now) paths in
    let q = c.args.path.now in
    let k = c.place_of-place.result in
    let order : AreInOrder ps = rw c.as_slice-paths.ensures.value c.self.invariant in
    let near = most_near q k ps order c.place_of-place.ensures in
    let view : ps ≡ c.args.self.now = ap (map (λ t. t.now)) c.as_slice-paths.ensures.value ∙ c.self.view_is in
    rw (c.max.ensures, c.common_before.ensures, c.common_at.ensures) (sym near ∙ ap (λ (all : List (List ℕ)). most_common all (names q)) view)
