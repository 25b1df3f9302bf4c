use Rattle.std.proofs.Common.{◌≡◌, ◌∙◌, List, true, ap, subst, arith, sum_by}
use Rattle.std.specs.Prelude.{◌||◌}
use Rattle.mm_ranges.specs.Places.{Range, is_covered, is_normal, merged, weight_of}
use Rattle.mm_ranges.specs.Room.{shown}
use Rattle.mm_ranges.proofs.Order.{spaced_of_normal}
use Rattle.mm_ranges.proofs.Weights.{weight-merged}
use Rattle.mm_ranges.proofs.Inserting.{covered-merged, is_normal-merged}
use Rattle.mm_ranges.proofs.range_set.RangeSet.merge.Goals as goal

normal_other : (c : goal.After-merge) → is_normal c.args.other.now ≡ true
normal_other c = subst (λ (rs : List Range). is_normal rs ≡ true) c.other.view_is c.other.invariant

is_merged : (c : goal.After-merge) → shown c.merge.«new».self ≡ merged (shown c.self.inside.spans) c.args.other.now
is_merged c = c.merge.ensures.shown ∙ ap (λ (rs : List Range). merged rs c.args.other.now) c.in_ok-make_room.ensures.shown

normal_again : (c : goal.After-merge) → is_normal (shown c.merge.«new».self) ≡ true
normal_again c = ap is_normal (is_merged c) ∙ is_normal-merged (shown c.self.inside.spans) c.args.other.now c.self.invariant (normal_other c)

pub invariant_of-self-2 : goal.invariant_of-self-2
invariant_of-self-2 c = normal_again c

pub returns-clause-covered : goal.returns-clause-covered
returns-clause-covered c = λ f p.
    ap (λ (rs : List Range). is_covered rs f p) (is_merged c)
    ∙ covered-merged (shown c.self.inside.spans) c.args.other.now f p (spaced_of_normal (shown c.self.inside.spans) c.self.invariant) (spaced_of_normal c.args.other.now (normal_other c))
    ∙ ap (λ (rs : List Range). is_covered c.args.other.now f p || is_covered rs f p) c.self.view_is

pub returns-clause-normal : goal.returns-clause-normal
returns-clause-normal c = normal_again c

pub returns-clause-weight : goal.returns-clause-weight
returns-clause-weight c =
    let less = weight-merged (shown c.self.inside.spans) c.args.other.now (spaced_of_normal (shown c.self.inside.spans) c.self.invariant) (spaced_of_normal c.args.other.now (normal_other c)) in
    let new = ap (sum_by weight_of) (is_merged c) in
    let old = ap (sum_by weight_of) c.self.view_is in
    omega (arith, less, new, old)
