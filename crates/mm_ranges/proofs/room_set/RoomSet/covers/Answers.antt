use Rattle.mm_ranges.specs.Spans.{spans_of}
use Rattle.mm_ranges.proofs.Shown.{covers_shown}
use Rattle.mm_ranges.proofs.room_set.RoomSet.covers.Goals as goal

pub returns-else-len-eq0 : goal.returns-else-len-eq0
returns-else-len-eq0 c = covers_shown (spans_of c.self.inside.starts.entries) c.args.self.now c.are_covered.result c.args.file c.args.at c.args.len c.self.view_is c.are_covered.ensures
