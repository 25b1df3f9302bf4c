use Rattle.std.proofs.Common.{◌+◌, ◌*◌, length}
use Rattle.mm_update.proofs.edit.+remove.Given as goal

abbrev pub decreases-remove : goal.decreases-remove
decreases-remove l = 3 * length l.path.now

abbrev pub decreases-remove_inside : goal.decreases-remove_inside
decreases-remove_inside l = 3 * length l.rest.now + 2

abbrev pub decreases-node_without : goal.decreases-node_without
decreases-node_without l = 3 * length l.rest.now + 1
