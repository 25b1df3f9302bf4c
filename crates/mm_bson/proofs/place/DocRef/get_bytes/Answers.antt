use Rattle.std.proofs.Common.{sym, ◌∙◌}
use Rattle.mm_bson.specs.Path.{names, value_at_path}
use Rattle.mm_bson.proofs.Paths.{goes_on, is_missing, ends, value_at-shallow, found_in-shallow}
use Rattle.mm_bson.proofs.place.DocRef.get_bytes.Goals as goal

pub returns-in-None-clause-value : goal.returns-in-None-clause-value
returns-in-None-clause-value c = sym (is_missing c.steps.rest.now c.in-Some.n c.steps.fields (value_at_path c.args.path.now c.args.self.now) (sym c.in-Some.ensures.value) c.steps.invariant (sym c.in-None.ensures))

pub steps-preserved : goal.steps-preserved
steps-preserved c =
    rw c.after-rest.ensures
    (goes_on c.steps.rest.now c.in-Some.n c.steps.fields (value_at_path c.args.path.now c.args.self.now) (sym c.in-Some.ensures.value) c.steps.invariant c.in-Some-members_in_place.inner (sym c.in-Some-members_in_place.ensures))

pub returns-clause-value : goal.returns-clause-value
returns-clause-value c = c.find_in_place.ensures ∙ sym (ends c.steps.rest.now c.steps.fields (sym c.in_default.ensures.value)) ∙ c.steps.invariant

pub returns-clause-shallow : goal.returns-clause-shallow
returns-clause-shallow c =
    let es = c.args.self.now in
    let path = c.args.path.now in
    let value = c.find_in_place.ensures ∙ sym (ends c.steps.rest.now c.steps.fields (sym c.in_default.ensures.value)) ∙ c.steps.invariant in
    found_in-shallow c.find_in_place.result (value_at_path path es) es value c.is_built.ensures.levels (λ t found. value_at-shallow (names path) es t found)
