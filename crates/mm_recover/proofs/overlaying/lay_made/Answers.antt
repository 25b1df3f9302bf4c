use Rattle.std.proofs.Common.{[], ◌∷◌}
use Rattle.mm_recover.specs.Laying.{made_entry}
use Rattle.mm_recover.proofs.LayAsks.{map_all}
use Rattle.mm_recover.proofs.LaidOver.{lays_none, lays_next_at, lays_done, lays_as}
use Rattle.mm_recover.specs.Overlaid.{own_name}
use Rattle.mm_recover.proofs.overlaying.lay_made.Goals as goal

pub loop-made-init : goal.loop-made-init
loop-made-init c = lays_none (own_name c.args.file.now) c.args.content

pub loop-made-preserved : goal.loop-made-preserved
loop-made-preserved c = lays_next_at (λ x. made_entry c.args.name.now x ∷ []) (own_name c.args.file.now) c.args.all.now c.loop-made.made-index _ c.loop-made-test.true c.args.content c.loop-made.content c.in_ok-content.content c.loop-made.invariant c.in_ok-content.ensures

pub returns : goal.returns
returns c = lays_as (own_name c.args.file.now) _ _ c.args.content c.loop-made.content (map_all (made_entry c.args.name.now) c.args.all.now) (lays_done (λ x. made_entry c.args.name.now x ∷ []) (own_name c.args.file.now) c.args.all.now c.loop-made.made-index c.args.content c.loop-made.content c.loop-made-test.false c.loop-made.invariant)
