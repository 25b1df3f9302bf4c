use Rattle.std.proofs.Common.{List, refl, subst}
use Rattle.std.proofs.lemmas.List.{take_all}
use Rattle.mm_links.specs.Links.{Place}
use Rattle.mm_check.specs.BlockMap.{HasBlocks}
use Rattle.mm_check.proofs.Chained.{item_has}
use Rattle.mm_check.proofs.PhaseLoops.{puts_next, none_blocks}
use Rattle.mm_check.proofs.gaps.blocks_by_extent.Goals as goal

pub loop-i-init : goal.loop-i-init
loop-i-init c = none_blocks c.args.views.now.private c.new-map.result c.new-map.ensures.empty

pub place_block-requires : goal.place_block-requires
place_block-requires c = c.requires _ (item_has c.args.placed.now c.loop-i.i _ (0, 0) c.loop-i-test.true refl)

pub loop-i-preserved : goal.loop-i-preserved
loop-i-preserved c = puts_next c.args.views.now.private c.args.placed.now c.loop-i.i _ (0, 0) c.loop-i.map c.place_block.new.map c.loop-i.invariant c.loop-i-test.true refl c.in_ok-place_block.ensures

pub returns : goal.returns
returns c = subst (λ (xs : List Place). HasBlocks c.args.views.now.private xs c.loop-i.map) (take_all c.loop-i.i c.args.placed.now c.loop-i-test.false) c.loop-i.invariant
