use Rattle.std.proofs.Common.{◌≡◌, ◌∙◌, ◌+◌, ◌*◌, ◌≤◌, ◌++◌, Some, refl, ap, arith}
use Rattle.mm_frames.specs.declared.extent_header.ExtentHeader.{ExtentHeader}
use Rattle.mm_links.specs.Links.{first_of}
use Rattle.mm_extents.specs.Heap.{extent}
use Rattle.mm_extents.proofs.Fields.{keeps_both}
use Rattle.mm_extents.proofs.Spots.{none_of}
use Rattle.mm_extents.proofs.DropWalks.{start, low_next, next_used, more_left, dropped_all, stepped, few_steps}
use Rattle.mm_extents.proofs.dropping.free_extents.Goals as goal

pub loop-step-init : goal.loop-step-init
loop-step-init c = record {
  walked = λ heap chain ps f u. start c.args.draft.now.image c.args.name.now heap chain ps c.args.free.now c.args.first f u;
  kept = record { lengths = λ f. refl; ns = refl; headers = λ f. refl };
  weight = omega arith;
}

pub named_spot-requires : goal.named_spot-requires
named_spot-requires c =
    let w = c.loop-step.invariant.walked c.requires.0 c.requires.1.0 c.requires.1.1.0 c.requires.1.1.1.0 c.requires.1.1.1.1 in
    (first_of w.rest, (w.left.head, low_next _ _ _ _ _ _ _ _ w))

pub read_extent-requires : goal.read_extent-requires
read_extent-requires c =
    let w = c.loop-step.invariant.walked c.requires.0 c.requires.1.0 c.requires.1.1.0 c.requires.1.1.1.0 c.requires.1.1.1.1 in
    let here : first_of w.rest ≡ Some (c.in-Some.at.file, c.in-Some.at.ofs) = c.in-Some.ensures.some (first_of w.rest) w.left.head (low_next _ _ _ _ _ _ _ _ w) in
    let x = next_used _ _ _ _ _ _ _ _ w (c.in-Some.at.file, c.in-Some.at.ofs) here in
    let i = w.frees.shown.inside (c.in-Some.at.file, c.in-Some.at.ofs) (extent x.1.0.h) x.1.0.is in
    omega (arith, i)

pub free_extent-requires : goal.free_extent-requires
free_extent-requires c =
    let w = c.loop-step.invariant.walked c.requires.0 c.requires.1.0 c.requires.1.1.0 c.requires.1.1.1.0 c.requires.1.1.1.1 in
    let here : first_of w.rest ≡ Some (c.in-Some.at.file, c.in-Some.at.ofs) = c.in-Some.ensures.some (first_of w.rest) w.left.head (low_next _ _ _ _ _ _ _ _ w) in
    let x = next_used _ _ _ _ _ _ _ _ w (c.in-Some.at.file, c.in-Some.at.ofs) here in
    (w.t, (c.requires.1.0 ++ w.before, (x.0, (w.frees, x.1.0))))

pub loop-step-preserved : goal.loop-step-preserved
loop-step-preserved c =
    let more = c.loop-step.invariant.weight in
    let one = c.free_extent.ensures.weight in
    record {
      walked = λ heap chain ps f u.
          let w = c.loop-step.invariant.walked heap chain ps f u in
          let here : first_of w.rest ≡ Some (c.in-Some.at.file, c.in-Some.at.ofs) = c.in-Some.ensures.some (first_of w.rest) w.left.head (low_next _ _ _ _ _ _ _ _ w) in
          let x = next_used _ _ _ _ _ _ _ _ w (c.in-Some.at.file, c.in-Some.at.ofs) here in
          let goes = ap (λ (h : ExtentHeader). h.xnext) (c.read_extent.ensures ∙ w.frees.shown.shown (c.in-Some.at.file, c.in-Some.at.ofs) (extent x.1.0.h) x.1.0.is) ∙ x.1.1 in
          stepped _ _ _ _ _ _ _ _ w (c.in-Some.at.file, c.in-Some.at.ofs) x.0 x.1.0 c.read_extent.result.xnext c.free_extent.«new».draft.image c.free_extent.«new».free goes (c.in_ok-free_extent.ensures.ok w.t (chain ++ w.before) x.0 w.frees x.1.0) here;
      kept = keeps_both _ _ _ c.loop-step.invariant.kept c.in_ok-free_extent.ensures.kept;
      weight = omega (arith, more, one);
    }

pub returns-in_default-clause-ok : goal.returns-in_default-clause-ok
returns-in_default-clause-ok c = λ heap chain ps f u.
    let w = c.loop-step.invariant.walked heap chain ps f u in
    let none = none_of _ c.named_spot.result c.named_spot.ensures.none (λ x e. c.in_default.not-Some x e) in
    dropped_all _ _ _ _ _ _ _ _ w (none (first_of w.rest) w.left.head (low_next _ _ _ _ _ _ _ _ w))

pub returns-in_default-clause-kept : goal.returns-in_default-clause-kept
returns-in_default-clause-kept c = c.loop-step.invariant.kept

pub returns-in_default-clause-weight : goal.returns-in_default-clause-weight
returns-in_default-clause-weight c = λ heap chain ps f u.
    let w = c.loop-step.invariant.walked heap chain ps f u in
    let few = (few_steps c.args.draft.now.image _ c.args.name.now heap chain ps c.args.free.now _ c.args.first _ _ f u w).1 in
    let more = c.loop-step.invariant.weight in
    omega (arith, few, more)

pub unreachable-requires : goal.unreachable-requires
unreachable-requires c =
    let w = c.loop-step.invariant.walked c.requires.0 c.requires.1.0 c.requires.1.1.0 c.requires.1.1.1.0 c.requires.1.1.1.1 in
    let most = (few_steps c.args.draft.now.image _ c.args.name.now c.requires.0 c.requires.1.0 c.requires.1.1.0 c.args.free.now _ c.args.first _ _ c.requires.1.1.1.0 c.requires.1.1.1.1 w).0 in
    let past = c.loop-step-test.false in
    omega (arith, most, past)

pub returns-in_err-free_extent-clause-weight : goal.returns-in_err-free_extent-clause-weight
returns-in_err-free_extent-clause-weight c = λ heap chain ps f u.
    let w = c.loop-step.invariant.walked heap chain ps f u in
    let here : first_of w.rest ≡ Some (c.in-Some.at.file, c.in-Some.at.ofs) = c.in-Some.ensures.some (first_of w.rest) w.left.head (low_next _ _ _ _ _ _ _ _ w) in
    let few = more_left _ _ _ _ _ _ _ _ w (c.in-Some.at.file, c.in-Some.at.ofs) here in
    let more = c.loop-step.invariant.weight in
    let one = c.free_extent.ensures.weight in
    omega (arith, few, more, one)
