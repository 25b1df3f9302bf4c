use Rattle.std.proofs.Common.{◌≡◌, ℕ, Bool, List, sym, ◌∙◌, ap}
use Rattle.std.specs.Prelude.{◌&&◌, ◌==◌, not}
use Rattle.std.specs.List.{list_any}
use Rattle.mm_records.specs.Constants.{is_name, behind_dot, system_indexes, is_collection}
use Rattle.mm_check.proofs.constants.is_collection.Goals as goal

test : (name rest : List ℕ) (a b : Bool) → rest ≡ behind_dot name → a ≡ list_any (λ x. x == 36) rest → b ≡ is_name rest system_indexes → (not a && not b) ≡ is_collection name
unfolding is_collection
test name rest a b e f g = λ i. not ((f ∙ ap (list_any (λ x. x == 36)) e) i) && not ((g ∙ ap (λ (xs : List ℕ). is_name xs system_indexes) e) i)

pub returns-then-has_dollar : goal.returns-then-has_dollar
returns-then-has_dollar c =
    let rest = c.behind_dot-rest.result.now in
    ap (λ (a : Bool). not a && not (is_name rest system_indexes)) (sym c.if-has_dollar.true)
    ∙ test c.args.name.now rest c.has_dollar.result (is_name rest system_indexes) c.behind_dot-rest.ensures c.has_dollar.ensures (λ i. is_name rest system_indexes)

pub returns : goal.returns
returns c =
    ap (λ (a : Bool). not a && not c.is_system_indexes.result) (sym c.if-has_dollar.false)
    ∙ test c.args.name.now c.behind_dot-rest.result.now c.has_dollar.result c.is_system_indexes.result c.behind_dot-rest.ensures c.has_dollar.ensures c.is_system_indexes.ensures
