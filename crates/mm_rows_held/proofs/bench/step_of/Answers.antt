use Rattle.mm_rows_held.proofs.Benches.{sat_later, fed_stays}
use Rattle.mm_rows_held.proofs.bench.step_of.Goals as goal

pub returns-then-second : goal.returns-then-second
returns-then-second c =
    let stays = c.step_in.ensures.stays in
    let old = c.args.bench.now in
    record {
      first = sat_later old.held c.step_in.new.held old.line old.first stays c.requires.first;
      second = c.step_in.ensures.pass;
      fed = fed_stays old.held c.step_in.new.held old.items old.feed stays c.requires.fed;
    }

pub returns-else-second : goal.returns-else-second
returns-else-second c =
    let stays = c.step_in-else-second.ensures.stays in
    let old = c.args.bench.now in
    record {
      first = c.step_in-else-second.ensures.pass;
      second = sat_later old.held c.step_in-else-second.new.held old.line old.second stays c.requires.second;
      fed = fed_stays old.held c.step_in-else-second.new.held old.items old.feed stays c.requires.fed;
    }
