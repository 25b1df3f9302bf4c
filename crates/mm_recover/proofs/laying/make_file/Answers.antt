use Rattle.std.proofs.Common.{ℕ, List, [], ◌∷◌, rules}
use Rattle.mm_outside.specs.Told.{Creates, Resizes}
use Rattle.mm_outside.specs.Ask.{Ask}
use Rattle.mm_jfiles.proofs.Asking.{some_one, some_then, made_one}
use Rattle.mm_recover.proofs.laying.make_file.Goals as goal

abbrev make : List ℕ → Ask
make name = record { name = name; change = Creates }

abbrev size : List ℕ → ℕ → Ask
size name len = record { name = name; change = Resizes len }

pub returns-in_err-create-clause-cut : goal.returns-in_err-create-clause-cut
returns-in_err-create-clause-cut g c = some_one (make c.args.name.now) (size c.args.name.now 0 ∷ size c.args.name.now c.args.len ∷ []) _ _ _ _ c.create.result (search rules) (search rules) c.create.ensures.told

pub returns-in_err-set_len-clause-cut : goal.returns-in_err-set_len-clause-cut
returns-in_err-set_len-clause-cut g c = some_then (make c.args.name.now ∷ []) (size c.args.name.now 0 ∷ size c.args.name.now c.args.len ∷ []) _ _ _ (made_one (make c.args.name.now) _ _ _ _ (search rules) (search rules) c.in_ok-create.ensures.told)
    (some_one (size c.args.name.now 0) (size c.args.name.now c.args.len ∷ []) _ _ _ _ c.set_len.result (search rules) (search rules) c.set_len.ensures.told)

pub returns-in_err-set_len-2-clause-cut : goal.returns-in_err-set_len-2-clause-cut
returns-in_err-set_len-2-clause-cut g c = some_then (make c.args.name.now ∷ []) (size c.args.name.now 0 ∷ size c.args.name.now c.args.len ∷ []) _ _ _ (made_one (make c.args.name.now) _ _ _ _ (search rules) (search rules) c.in_ok-create.ensures.told)
    (some_then (size c.args.name.now 0 ∷ []) (size c.args.name.now c.args.len ∷ []) _ _ _ (made_one (size c.args.name.now 0) _ _ _ _ (search rules) (search rules) c.in_ok-set_len.ensures.told)
    (some_one (size c.args.name.now c.args.len) [] _ _ _ _ c.set_len-2.result (search rules) (search rules) c.set_len-2.ensures.told))

pub returns-clause-cut : goal.returns-clause-cut
returns-clause-cut g c = some_then (make c.args.name.now ∷ []) (size c.args.name.now 0 ∷ size c.args.name.now c.args.len ∷ []) _ _ _ (made_one (make c.args.name.now) _ _ _ _ (search rules) (search rules) c.in_ok-create.ensures.told)
    (some_then (size c.args.name.now 0 ∷ []) (size c.args.name.now c.args.len ∷ []) _ _ _ (made_one (size c.args.name.now 0) _ _ _ _ (search rules) (search rules) c.in_ok-set_len.ensures.told)
    (some_one (size c.args.name.now c.args.len) [] _ _ _ _ c.set_len-2.result (search rules) (search rules) c.set_len-2.ensures.told))
