use Rattle.std.proofs.Common.{ℕ, List, [], ◌∷◌, rules}
use Rattle.mm_outside.specs.Told.{Creates, Writes}
use Rattle.mm_outside.specs.Ask.{Ask}
use Rattle.mm_jfiles.proofs.Asking.{some_one, some_then, made_one}
use Rattle.mm_recover.proofs.laying.put_bytes.Goals as goal

abbrev make : List ℕ → Ask
make name = record { name = name; change = Creates }

abbrev put : List ℕ → ℕ → List ℕ → Ask
put name at bytes = record { name = name; change = Writes at bytes }

pub returns-in_err-create-clause-cut : goal.returns-in_err-create-clause-cut
returns-in_err-create-clause-cut g c = some_one (make c.args.name.now) (put c.args.name.now c.args.at c.args.bytes.now ∷ []) _ _ _ _ c.create.result (search rules) (search rules) c.create.ensures.told

pub returns-in_err-write_at-clause-cut : goal.returns-in_err-write_at-clause-cut
returns-in_err-write_at-clause-cut g c = some_then (make c.args.name.now ∷ []) (put c.args.name.now c.args.at c.args.bytes.now ∷ []) _ _ _ (made_one (make c.args.name.now) _ _ _ _ (search rules) (search rules) c.in_ok-create.ensures.told)
    (some_one (put c.args.name.now c.args.at c.args.bytes.now) [] _ _ _ _ c.write_at.result (search rules) (search rules) c.write_at.ensures.told)

pub returns-clause-cut : goal.returns-clause-cut
returns-clause-cut g c = some_then (make c.args.name.now ∷ []) (put c.args.name.now c.args.at c.args.bytes.now ∷ []) _ _ _ (made_one (make c.args.name.now) _ _ _ _ (search rules) (search rules) c.in_ok-create.ensures.told)
    (some_one (put c.args.name.now c.args.at c.args.bytes.now) [] _ _ _ _ c.write_at.result (search rules) (search rules) c.write_at.ensures.told)
