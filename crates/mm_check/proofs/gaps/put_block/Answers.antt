use Rattle.std.proofs.Common.{◌<◌, ◌^◌, List, [], ◌∷◌, ◌++◌, ap, ◌∙◌, arith}
use Rattle.mm_walk.specs.Tiles.{Block}
use Rattle.mm_check.proofs.BlockLoops.{put_blocks}
use Rattle.mm_check.proofs.gaps.put_block.Goals as goal

pub returns : goal.returns
returns c =
    let small : c.args.ofs < 2 ^ 32 = omega arith in
    put_blocks c.args.map.now c.remove-held.new.self c.insert.new.self c.key-at.result (c.args.file, c.args.ofs) c.remove-held.result c.push.new.self c.args.block c.key-at.ensures small c.remove-held.ensures.value c.remove-held.ensures.updates
    (c.in_ok-push.ensures.items ∙ ap (λ (xs : List Block). xs ++ c.args.block ∷ []) c.blocks_or-blocks.ensures) c.in_ok-insert.ensures.updates
