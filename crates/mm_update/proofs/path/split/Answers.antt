use Rattle.std.proofs.Common.{◌∷◌, lit<, ap, ◌∙◌}
use Rattle.std.proofs.lemmas.Str.Pattern.{split_parts}
use Rattle.mm_bson.specs.Path.{names}
use Rattle.mm_update.proofs.Steps.{names-cut, names-whole, HasNoZero-front, HasNoZero-back}
use Rattle.mm_update.proofs.path.split.Goals as goal

pub returns-in-Some-clause-steps : goal.returns-in-Some-clause-steps
returns-in-Some-clause-steps c =
    let parts = rw c.in-Some.is at (split_parts 46 c.args.path.now c.split_once.result c.split_once.ensures.cases (lit< tt)) in
    ap names parts.0 ∙ names-cut _ c.in-Some.rest.now parts.1

pub returns-in-Some-clause-name : goal.returns-in-Some-clause-name
returns-in-Some-clause-name c = λ h.
    let parts = rw c.in-Some.is at (split_parts 46 c.args.path.now c.split_once.result c.split_once.ensures.cases (lit< tt)) in
    HasNoZero-front _ (46 ∷ c.in-Some.rest.now) (rw parts.0 at h)

pub returns-in-Some-clause-rest : goal.returns-in-Some-clause-rest
returns-in-Some-clause-rest c = λ h.
    let parts = rw c.in-Some.is at (split_parts 46 c.args.path.now c.split_once.result c.split_once.ensures.cases (lit< tt)) in
    (HasNoZero-back _ (46 ∷ c.in-Some.rest.now) (rw parts.0 at h)).1

pub returns-in-None-clause-steps : goal.returns-in-None-clause-steps
returns-in-None-clause-steps c = names-whole c.args.path.now (rw c.in-None.is at (split_parts 46 c.args.path.now c.split_once.result c.split_once.ensures.cases (lit< tt)))
