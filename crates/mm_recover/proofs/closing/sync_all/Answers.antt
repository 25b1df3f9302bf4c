use Rattle.std.proofs.Common.{[], get_or, string_bytes, refl, ◌∙◌, ap, arith}
use Rattle.mm_jfiles.proofs.Asking.{some_one, made_one, some_all}
use Rattle.mm_recover.proofs.EachAsk.{sync_of, syncs_are, each_next, each_cut, each_done, made_by, some_by}
use Rattle.mm_recover.proofs.closing.sync_all.Goals as goal

pub returns-in_err-sync-clause-cut : goal.returns-in_err-sync-clause-cut
returns-in_err-sync-clause-cut g c =
    let names = c.args.names.now in
    let i = c.loop-name.name-index in
    let item = c.name-item.result in
    some_by _ _ _ _ (syncs_are names) (each_cut sync_of names i item c.loop-name-test.true _ _ _ c.loop-name.invariant.told
    (some_one (sync_of (get_or names i item)) [] _ _ _ _ c.sync.result (c.deref.ensures ∙ ap string_bytes c.name-item.is) refl c.sync.ensures.told))

pub loop-name-preserved : goal.loop-name-preserved
loop-name-preserved g c =
    let names = c.args.names.now in
    let i = c.loop-name.name-index in
    let item = c.name-item.result in
    record {
      told = each_next sync_of names i item c.loop-name-test.true _ _ _ c.loop-name.invariant.told (made_one (sync_of (get_or names i item)) _ _ _ _ (c.deref.ensures ∙ ap string_bytes c.name-item.is) refl c.in_ok-sync.ensures.told);
      faults = omega arith;
    }

pub returns-clause-made : goal.returns-clause-made
returns-clause-made g c = made_by _ _ _ _ (syncs_are c.args.names.now) (each_done sync_of c.args.names.now c.loop-name.name-index _ _ c.loop-name-test.false c.loop-name.invariant.told)

pub returns-clause-cut : goal.returns-clause-cut
returns-clause-cut g c = some_all _ _ _ (returns-clause-made g c)
