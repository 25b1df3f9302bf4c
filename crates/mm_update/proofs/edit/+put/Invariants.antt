use Rattle.std.proofs.Common.{◌+◌, ◌*◌, length}
use Rattle.mm_update.specs.Paths.{behind_len}
use Rattle.mm_update.proofs.edit.+put.Given as goal

abbrev pub decreases-put : goal.decreases-put
decreases-put l = 2 * length l.path.now + 1

abbrev pub decreases-onward : goal.decreases-onward
decreases-onward l = 2 * behind_len l.rest
