use Rattle.std.proofs.Common.{List, Vec, Global, ℕ, map, sym, ◌∙◌, subst}
use Rattle.mm_check.specs.Findings.{Clear5}
use Rattle.mm_check.proofs.CheckSteps.{finds_again}
use Rattle.mm_check.proofs.order.check_extents.Goals as goal

pub extents_of_nodes-requires : goal.extents_of_nodes-requires
extents_of_nodes-requires c = record { clear = c.requires.clear; nodes = c.deref.ensures.value ∙ c.in-Ok.ensures }

pub check_chains-requires : goal.check_chains-requires
check_chains-requires c =
    record {
      clear = subst (λ (vs : List (Vec (ℕ × ℕ) Global)). Clear5 c.args.name.now c.args.views.now.private (map (λ ps. ps.items) vs)) (sym c.deref-in-Ok-extents_of_nodes-2.ensures.value) c.in-Ok-extents_of_nodes.ensures.clear;
      forms = c.requires.forms;
      nodes = c.deref-in-Ok-extents_of_nodes.ensures.value ∙ c.in-Ok.ensures;
    }

pub returns-in-Err : goal.returns-in-Err
returns-in-Err c = record { clear = tt; found = tt }

pub returns-in-Err-extents_of_nodes : goal.returns-in-Err-extents_of_nodes
returns-in-Err-extents_of_nodes c = record { clear = tt; found = finds_again (Vec (Vec (ℕ × ℕ) Global) Global) (Unit {0}) c.args.name.now c.args.views.now.private c.in-Err-extents_of_nodes.fault c.in-Err-extents_of_nodes.ensures.found }

pub returns : goal.returns
returns c = record { clear = c.check_chains.ensures.clear; found = c.check_chains.ensures.found }
