use Rattle.std.proofs.Common.{rules, [], ◌∷◌}
use Rattle.mm_outside.specs.Told.{Creates, Writes, Syncs}
use Rattle.mm_outside.specs.Ask.{Ask}
use Rattle.mm_jfiles.specs.Names.{journal_name}
use Rattle.mm_jfiles.specs.Files.{Files, header_of, next_number, begin_asks}
use Rattle.mm_jfiles.proofs.Asking.{some_before, some_one, some_then, made_then, made_one}
use Rattle.mm_jfiles.proofs.jfiles.JFiles.begin.Goals as goal

abbrev make : Files → Ask
make f = record { name = journal_name (next_number f); change = Creates }

abbrev head : Files → Ask
head f = record { name = journal_name (next_number f); change = Writes 0 (header_of (next_number f)) }

abbrev settle : Files → Ask
settle f = record { name = journal_name (next_number f); change = Syncs }

pub returns-in_err-reserve-clause-cut : goal.returns-in_err-reserve-clause-cut
returns-in_err-reserve-clause-cut g c = some_before (begin_asks c.args.self.now) _

pub returns-in_err-new_name-clause-cut : goal.returns-in_err-new_name-clause-cut
returns-in_err-new_name-clause-cut g c = some_before (begin_asks c.args.self.now) _

pub returns-in_err-create-clause-cut : goal.returns-in_err-create-clause-cut
returns-in_err-create-clause-cut g c = some_one (make c.args.self.now) (head c.args.self.now ∷ settle c.args.self.now ∷ []) _ _ _ _ c.create.result (search rules) (search rules) c.create.ensures.told

pub returns-in_err-write_at-clause-cut : goal.returns-in_err-write_at-clause-cut
returns-in_err-write_at-clause-cut g c = some_then (make c.args.self.now ∷ []) (head c.args.self.now ∷ settle c.args.self.now ∷ []) _ _ _ (made_one (make c.args.self.now) _ _ _ _ (search rules) (search rules) c.in_ok-create.ensures.told)
    (some_one (head c.args.self.now) (settle c.args.self.now ∷ []) _ _ _ _ c.write_at.result (search rules) (search rules) c.write_at.ensures.told)

pub returns-in_err-sync-clause-cut : goal.returns-in_err-sync-clause-cut
returns-in_err-sync-clause-cut g c = some_then (make c.args.self.now ∷ []) (head c.args.self.now ∷ settle c.args.self.now ∷ []) _ _ _ (made_one (make c.args.self.now) _ _ _ _ (search rules) (search rules) c.in_ok-create.ensures.told)
    (some_then (head c.args.self.now ∷ []) (settle c.args.self.now ∷ []) _ _ _ (made_one (head c.args.self.now) _ _ _ _ (search rules) (search rules) c.in_ok-write_at.ensures.told)
    (some_one (settle c.args.self.now) [] _ _ _ _ c.sync.result (search rules) (search rules) c.sync.ensures.told))

pub returns-clause-made : goal.returns-clause-made
returns-clause-made g c = made_then (make c.args.self.now ∷ []) (head c.args.self.now ∷ settle c.args.self.now ∷ []) _ _ _ (made_one (make c.args.self.now) _ _ _ _ (search rules) (search rules) c.in_ok-create.ensures.told)
    (made_then (head c.args.self.now ∷ []) (settle c.args.self.now ∷ []) _ _ _ (made_one (head c.args.self.now) _ _ _ _ (search rules) (search rules) c.in_ok-write_at.ensures.told)
    (made_one (settle c.args.self.now) _ _ _ _ (search rules) (search rules) c.in_ok-sync.ensures.told))

pub returns-clause-cut : goal.returns-clause-cut
returns-clause-cut g c = some_then (make c.args.self.now ∷ []) (head c.args.self.now ∷ settle c.args.self.now ∷ []) _ _ _ (made_one (make c.args.self.now) _ _ _ _ (search rules) (search rules) c.in_ok-create.ensures.told)
    (some_then (head c.args.self.now ∷ []) (settle c.args.self.now ∷ []) _ _ _ (made_one (head c.args.self.now) _ _ _ _ (search rules) (search rules) c.in_ok-write_at.ensures.told)
    (some_one (settle c.args.self.now) [] _ _ _ _ c.sync.result (search rules) (search rules) c.sync.ensures.told))
