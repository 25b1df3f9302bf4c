use Rattle.std.proofs.Common.{[], ◌∷◌, get_or, refl}
use Rattle.mm_recover.specs.Laying.{made_entry}
use Rattle.mm_recover.proofs.LayAsks.{map_all}
use Rattle.mm_recover.proofs.TouchedNames.{adds_none, adds_one, adds_next_at, adds_done, adds_as}
use Rattle.mm_recover.proofs.touched.add_made.Goals as goal

pub loop-made-init : goal.loop-made-init
loop-made-init c = adds_none c.args.names

pub loop-made-preserved : goal.loop-made-preserved
loop-made-preserved c = adds_next_at (λ x. made_entry c.args.name.now x ∷ []) c.args.all.now c.loop-made.made-index (record { file = 0; len = 0 }) c.loop-made-test.true c.args.names c.loop-made.names c.in_ok-names.names c.loop-made.invariant
    (adds_one (made_entry c.args.name.now (get_or c.args.all.now c.loop-made.made-index (record { file = 0; len = 0 }))) _ c.loop-made.names c.in_ok-names.names refl c.in_ok-names.ensures)

pub returns : goal.returns
returns c = adds_as _ _ c.args.names c.loop-made.names (map_all (made_entry c.args.name.now) c.args.all.now) (adds_done (λ x. made_entry c.args.name.now x ∷ []) c.args.all.now c.loop-made.made-index c.args.names c.loop-made.names c.loop-made-test.false c.loop-made.invariant)
