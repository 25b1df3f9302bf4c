use Rattle.std.proofs.Common.{arith}
use Rattle.mm_jfiles.proofs.Asking.{some_all}
use Rattle.mm_recover.proofs.EachAsk.{removal_of, removals_are, each_next, each_cut, each_done, made_by, some_by, number_at}
use Rattle.mm_recover.proofs.closing.remove_all.Goals as goal

pub remove_file-requires : goal.remove_file-requires
remove_file-requires g c = number_at c.args.numbers.now c.loop-at.at 0 c.loop-at-test.true c.requires

pub returns-in_err-remove_file-clause-cut : goal.returns-in_err-remove_file-clause-cut
returns-in_err-remove_file-clause-cut g c = some_by _ _ _ _ (removals_are c.args.numbers.now) (each_cut removal_of c.args.numbers.now c.loop-at.at 0 c.loop-at-test.true _ _ _ c.loop-at.invariant.told c.remove_file.ensures.cut)

pub loop-at-preserved : goal.loop-at-preserved
loop-at-preserved g c = record {
  told = each_next removal_of c.args.numbers.now c.loop-at.at 0 c.loop-at-test.true _ _ _ c.loop-at.invariant.told c.in_ok-remove_file.ensures.made;
  faults = omega arith;
}

pub returns-clause-made : goal.returns-clause-made
returns-clause-made g c = made_by _ _ _ _ (removals_are c.args.numbers.now) (each_done removal_of c.args.numbers.now c.loop-at.at _ _ c.loop-at-test.false c.loop-at.invariant.told)

pub returns-clause-cut : goal.returns-clause-cut
returns-clause-cut g c = some_all _ _ _ (returns-clause-made g c)
