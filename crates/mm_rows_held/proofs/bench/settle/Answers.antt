use Rattle.mm_rows_held.proofs.Benches.{applied_stays, stays_then, fed_stays, fed_settled, sat_same, sat_settled}
use Rattle.mm_rows_held.proofs.bench.settle.Goals as goal

pub agree-requires : goal.agree-requires
agree-requires c =
    let old = c.args.bench.now in
    let stays = stays_then _ _ _ (applied_stays old.held c.apply.new.self _ c.apply.ensures.applied c.apply.ensures.same) c.remap.ensures in
    (fed_stays old.held c.remap.new.self old.items old.feed stays c.requires.fed).own

pub agree_pass-requires : goal.agree_pass-requires
agree_pass-requires c =
    let old = c.args.bench.now in
    let stays = stays_then _ _ _ (stays_then _ _ _ (applied_stays old.held c.apply.new.self _ c.apply.ensures.applied c.apply.ensures.same) c.remap.ensures) c.agree.ensures.same in
    (sat_same old.held c.agree.new.self old.line old.first stays.rings stays.rooms c.requires.first).seat

pub agree_pass-requires-2 : goal.agree_pass-requires-2
agree_pass-requires-2 c =
    let old = c.args.bench.now in
    let stays = stays_then _ _ _ (stays_then _ _ _ (stays_then _ _ _ (applied_stays old.held c.apply.new.self _ c.apply.ensures.applied c.apply.ensures.same) c.remap.ensures) c.agree.ensures.same) c.agree_pass.ensures.same in
    (sat_same old.held c.agree_pass.new.self old.line old.second stays.rings stays.rooms c.requires.second).seat

pub returns : goal.returns
returns c =
    let old = c.args.bench.now in
    let new = c.agree_pass-2.new.self in
    let stays = stays_then _ _ _ (stays_then _ _ _ (stays_then _ _ _ (stays_then _ _ _ (applied_stays old.held c.apply.new.self _ c.apply.ensures.applied c.apply.ensures.same) c.remap.ensures) c.agree.ensures.same) c.agree_pass.ensures.same) c.agree_pass-2.ensures.same in
    record {
      first = sat_settled old.held new old.line old.first c.agree_pass.new.pass stays (c.agree_pass.ensures.pass.0, c.agree_pass.ensures.pass.1) c.agree_pass.ensures.taken c.requires.first;
      second = sat_settled old.held new old.line old.second c.agree_pass-2.new.pass stays (c.agree_pass-2.ensures.pass.0, c.agree_pass-2.ensures.pass.1) c.agree_pass-2.ensures.taken c.requires.second;
      fed = fed_settled old.held new old.items old.feed c.agree.new.feed stays c.agree.ensures.ring.0 c.requires.fed;
    }
