use Rattle.std.proofs.Common.{ℕ, ◌<◌, List, All, length, map, sym, ap, ◌∙◌, subst}
use Rattle.mm_nstable.specs.Nodes.{count_of}
use Rattle.mm_records.specs.Stands.{ns_in}
use Rattle.mm_check.specs.Findings.{owners_of, without_free}
use Rattle.mm_check.specs.Phases.{owner_of}
use Rattle.mm_check.proofs.CheckLaws.{nodes_below}
use Rattle.mm_check.proofs.CheckSteps.{chained_lengths}
use Rattle.mm_check.proofs.order.check_chains.Goals as goal

pub without-requires : goal.without-requires
without-requires c =
    let image = c.args.views.now.private in
    record {
      nodes = subst (λ (ks : List ℕ). All (λ k. k < count_of (ns_in image)) ks) (sym c.requires.nodes) (nodes_below image);
      chains = ap length c.requires.nodes ∙ chained_lengths (λ v. v.items) c.args.name.now image c.args.chains.now c.requires.clear;
    }

pub check_kept-requires : goal.check_kept-requires
check_kept-requires c =
    record {
      clear = c.requires.clear;
      owned = ap (map owner_of) c.deref-in-Ok.ensures.value ∙ c.in-Ok.ensures c.args.name.now (c.deref.ensures.value ∙ c.requires.forms.free)
          ∙ ap (λ (ks : List ℕ). without_free c.args.name.now c.args.views.now.private (owners_of ks (map (λ ps. ps.items) c.args.chains.now))) c.requires.nodes;
    }

pub returns-in-Err : goal.returns-in-Err
returns-in-Err c = record { clear = tt; found = tt }

pub returns-in-Ok : goal.returns-in-Ok
returns-in-Ok c = record { clear = c.check_kept.ensures.clear; found = c.check_kept.ensures.found }
