use Rattle.std.proofs.Common.{[], ◌∷◌, arith}
use Rattle.mm_jfiles.proofs.Asking.{some_all}
use Rattle.mm_recover.specs.Laying.{made_entry}
use Rattle.mm_recover.proofs.LayAsks.{laid_next_at, laid_cut_at, laid_done, map_all, made_as, some_as}
use Rattle.mm_recover.proofs.laying.lay_made.Goals as goal

pub returns-in_err-lay_one_made-clause-cut : goal.returns-in_err-lay_one_made-clause-cut
returns-in_err-lay_one_made-clause-cut g c = some_as _ _ _ _ (map_all (made_entry c.args.name.now) c.args.all.now) (laid_cut_at (λ x. made_entry c.args.name.now x ∷ []) c.args.all.now c.loop-made.made-index _ c.loop-made-test.true _ _ _ c.loop-made.invariant.told c.lay_one_made.ensures.cut)

pub loop-made-preserved : goal.loop-made-preserved
loop-made-preserved g c = record {
  told = laid_next_at (λ x. made_entry c.args.name.now x ∷ []) c.args.all.now c.loop-made.made-index _ c.loop-made-test.true _ _ _ c.loop-made.invariant.told c.in_ok-lay_one_made.ensures.made;
  faults = omega arith;
}

pub returns-clause-made : goal.returns-clause-made
returns-clause-made g c = made_as _ _ _ _ (map_all (made_entry c.args.name.now) c.args.all.now) (laid_done (λ x. made_entry c.args.name.now x ∷ []) c.args.all.now c.loop-made.made-index _ _ c.loop-made-test.false c.loop-made.invariant.told)

pub returns-clause-cut : goal.returns-clause-cut
returns-clause-cut g c = some_all _ _ _ (returns-clause-made g c)
