use Rattle.std.proofs.Common.{refl, sym, ◌∙◌}
use Rattle.std.proofs.lemmas.List.{at_drop_all}
use Rattle.mm_check.specs.BlockQuestions.{first_gap_of}
use Rattle.mm_check.proofs.Chained.{item_has}
use Rattle.mm_check.proofs.PhaseLoops.{gap_none, gap_some}
use Rattle.mm_check.proofs.gaps.first_gap_of.Goals as goal

pub blocks_by_extent-requires : goal.blocks_by_extent-requires
blocks_by_extent-requires c = c.requires.blocks

pub extent_gap-requires : goal.extent_gap-requires
extent_gap-requires c = c.requires.extents _ (item_has c.args.extents.now c.loop-i.i _ (0, 0) c.loop-i-test.true refl)

pub loop-i-preserved : goal.loop-i-preserved
loop-i-preserved c = c.loop-i.invariant ∙ gap_none c.args.views.now.private c.args.placed.now c.args.extents.now c.loop-i.i (0, 0) c.loop-i-test.true (sym c.in_default.is ∙ c.in_ok-at.ensures c.args.placed.now c.requires.once c.in_ok-map.ensures)

pub returns-in-Some : goal.returns-in-Some
returns-in-Some c =
    sym (c.loop-i.invariant ∙ gap_some c.args.views.now.private c.args.placed.now c.args.extents.now c.loop-i.i c.in-Some.at (0, 0) c.loop-i-test.true (sym c.in-Some.is ∙ c.in_ok-at.ensures c.args.placed.now c.requires.once c.in_ok-map.ensures))

pub returns : goal.returns
returns c = sym (c.loop-i.invariant ∙ at_drop_all (first_gap_of c.args.views.now.private c.args.placed.now) c.args.extents.now c.loop-i.i c.loop-i-test.false)
