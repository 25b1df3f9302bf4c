use Rattle.std.proofs.Common.{subst}
use Rattle.std.specs.Prelude.{◌↔◌, IsTrue}
use Rattle.mm_bson.specs.Tree.{Tree}
use Rattle.mm_bson.specs.View.{tree_in}
use Rattle.mm_query.specs.Match.{HoldsAt}
use Rattle.mm_query.proofs.Keeps.{operator_is}
use Rattle.mm_query.proofs.condition.one_holds.Goals as goal

pub returns : goal.returns
returns c =
    let operator = c.args.test.now.operator in
    rw (operator_is operator) (subst (λ (u : Tree). IsTrue c.holds_at.result ↔ HoldsAt operator u (tree_in c.args.value.now) c.args.found) c.as_ref.ensures c.holds_at.ensures)
