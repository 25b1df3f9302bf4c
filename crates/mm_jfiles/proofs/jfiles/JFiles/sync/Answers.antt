use Rattle.std.proofs.Common.{rules, [], ◌∷◌}
use Rattle.mm_jfiles.specs.Files.{sync_ask}
use Rattle.mm_jfiles.proofs.Asking.{some_before, some_one}
use Rattle.mm_jfiles.proofs.jfiles.JFiles.sync.Goals as goal

pub returns-in_err-name-clause-cut : goal.returns-in_err-name-clause-cut
returns-in_err-name-clause-cut g c = some_before (sync_ask c.args.self.now ∷ []) _

pub returns-in_err-sync-clause-cut : goal.returns-in_err-sync-clause-cut
returns-in_err-sync-clause-cut g c = some_one (sync_ask c.args.self.now) [] _ _ _ _ c.sync.result (search rules) (search rules) c.sync.ensures.told

pub returns-clause-cut : goal.returns-clause-cut
returns-clause-cut g c = some_one (sync_ask c.args.self.now) [] _ _ _ _ c.sync.result (search rules) (search rules) c.sync.ensures.told
