use Rattle.std.proofs.Common.{◌≡◌, ◌+◌, ◌≤◌, length}
use denote.Text.{Utf8}
use denote.Shadow.{shadow}
use Rattle.mm_bson.specs.Path.{names}
use Rattle.mm_update.specs.Meeting.{farther, meet}
use Rattle.mm_update.proofs.long.meeting_with.Given as goal

abbrev pub invariant-loop-value : goal.invariant-loop-value
invariant-loop-value l = record {
  text : shadow (Utf8 l.rest);
  within : l.kept + length l.rest ≤ length l.path;
  told : farther l.kept (meet (names l.rest) l.inside) ≡ meet (names l.path) l.doc;
}

abbrev pub decreases-loop-value : goal.decreases-loop-value
decreases-loop-value l = length l.rest
