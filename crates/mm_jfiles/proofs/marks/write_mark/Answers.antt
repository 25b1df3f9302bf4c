use Rattle.std.proofs.Common.{ℕ, rules, [], ◌∷◌}
use Rattle.mm_frames.specs.Lsn.{lsn_bytes}
use Rattle.mm_outside.specs.Told.{Creates, Resizes, Writes, Syncs}
use Rattle.mm_outside.specs.Ask.{Ask}
use Rattle.mm_jfiles.specs.Names.{lsn_name}
use Rattle.mm_jfiles.proofs.Asking.{some_one, some_then, made_then, made_one}
use Rattle.mm_jfiles.proofs.marks.write_mark.Goals as goal

abbrev make : Ask
make = record { name = lsn_name; change = Creates }

abbrev size : Ask
size = record { name = lsn_name; change = Resizes 88 }

abbrev put : ℕ → Ask
put lsn = record { name = lsn_name; change = Writes 0 (lsn_bytes lsn) }

abbrev settle : Ask
settle = record { name = lsn_name; change = Syncs }

pub returns-in_err-create-clause-cut : goal.returns-in_err-create-clause-cut
returns-in_err-create-clause-cut g c = some_one make (size ∷ put c.args.lsn ∷ settle ∷ []) _ _ _ _ c.create.result (search rules) (search rules) c.create.ensures.told

pub returns-in_err-set_len-clause-cut : goal.returns-in_err-set_len-clause-cut
returns-in_err-set_len-clause-cut g c = some_then (make ∷ []) (size ∷ put c.args.lsn ∷ settle ∷ []) _ _ _ (made_one make _ _ _ _ (search rules) (search rules) c.in_ok-create.ensures.told)
    (some_one size (put c.args.lsn ∷ settle ∷ []) _ _ _ _ c.set_len.result (search rules) (search rules) c.set_len.ensures.told)

pub returns-in_err-write_at-clause-cut : goal.returns-in_err-write_at-clause-cut
returns-in_err-write_at-clause-cut g c = some_then (make ∷ []) (size ∷ put c.args.lsn ∷ settle ∷ []) _ _ _ (made_one make _ _ _ _ (search rules) (search rules) c.in_ok-create.ensures.told)
    (some_then (size ∷ []) (put c.args.lsn ∷ settle ∷ []) _ _ _ (made_one size _ _ _ _ (search rules) (search rules) c.in_ok-set_len.ensures.told)
    (some_one (put c.args.lsn) (settle ∷ []) _ _ _ _ c.write_at.result (search rules) (search rules) c.write_at.ensures.told))

pub returns-in_err-sync-clause-cut : goal.returns-in_err-sync-clause-cut
returns-in_err-sync-clause-cut g c = some_then (make ∷ []) (size ∷ put c.args.lsn ∷ settle ∷ []) _ _ _ (made_one make _ _ _ _ (search rules) (search rules) c.in_ok-create.ensures.told)
    (some_then (size ∷ []) (put c.args.lsn ∷ settle ∷ []) _ _ _ (made_one size _ _ _ _ (search rules) (search rules) c.in_ok-set_len.ensures.told)
    (some_then (put c.args.lsn ∷ []) (settle ∷ []) _ _ _ (made_one (put c.args.lsn) _ _ _ _ (search rules) (search rules) c.in_ok-write_at.ensures.told)
    (some_one settle [] _ _ _ _ c.sync.result (search rules) (search rules) c.sync.ensures.told)))

pub returns-clause-made : goal.returns-clause-made
returns-clause-made g c = made_then (make ∷ []) (size ∷ put c.args.lsn ∷ settle ∷ []) _ _ _ (made_one make _ _ _ _ (search rules) (search rules) c.in_ok-create.ensures.told)
    (made_then (size ∷ []) (put c.args.lsn ∷ settle ∷ []) _ _ _ (made_one size _ _ _ _ (search rules) (search rules) c.in_ok-set_len.ensures.told)
    (made_then (put c.args.lsn ∷ []) (settle ∷ []) _ _ _ (made_one (put c.args.lsn) _ _ _ _ (search rules) (search rules) c.in_ok-write_at.ensures.told)
    (made_one settle _ _ _ _ (search rules) (search rules) c.in_ok-sync.ensures.told)))

pub returns-clause-cut : goal.returns-clause-cut
returns-clause-cut g c = some_then (make ∷ []) (size ∷ put c.args.lsn ∷ settle ∷ []) _ _ _ (made_one make _ _ _ _ (search rules) (search rules) c.in_ok-create.ensures.told)
    (some_then (size ∷ []) (put c.args.lsn ∷ settle ∷ []) _ _ _ (made_one size _ _ _ _ (search rules) (search rules) c.in_ok-set_len.ensures.told)
    (some_then (put c.args.lsn ∷ []) (settle ∷ []) _ _ _ (made_one (put c.args.lsn) _ _ _ _ (search rules) (search rules) c.in_ok-write_at.ensures.told)
    (some_one settle [] _ _ _ _ c.sync.result (search rules) (search rules) c.sync.ensures.told)))
