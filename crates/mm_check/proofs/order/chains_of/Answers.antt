use Rattle.std.proofs.Common.{ℕ, ◌<◌, List, [], All, map, sym, ap, ◌∙◌, subst, Vec, Global}
use Rattle.mm_model.specs.declared.finding.What.TheVariants.{Extents, Lost}
use Rattle.mm_links.specs.Links.{Place, has}
use Rattle.mm_nstable.specs.Nodes.{count_of}
use Rattle.mm_records.specs.Stands.{ns_in}
use Rattle.mm_walk.specs.Questions.{first_failing}
use Rattle.mm_walk.specs.Walk.{AreWhole, BreaksFirst, seen_after}
use Rattle.mm_check.specs.ExtentChain.{lost_questions}
use Rattle.mm_check.specs.Phases.{node_chain}
use Rattle.mm_check.proofs.ChainRows.{knows_none}
use Rattle.mm_check.proofs.CheckLaws.{nodes_below}
use Rattle.mm_check.proofs.Insides.{inside_found}
use Rattle.mm_check.proofs.CheckSteps.{found_finds, broken_finds, at_both}
use Rattle.mm_check.proofs.order.chains_of.Goals as goal

pub node_extents-requires : goal.node_extents-requires
node_extents-requires c =
    let image = c.args.views.now.private in
    record {
      nodes = subst (λ (ks : List ℕ). All (λ k. k < count_of (ns_in image)) ks) (sym c.requires.nodes) (nodes_below image);
      inside = λ p h. inside_found c.args.name.now image _ c.requires.clear p (ap (λ (ps : List Place). has ps p) (sym c.requires.places) ∙ h);
      none = knows_none c.new-seen.result c.new-seen.ensures.empty;
    }

pub returns-in-Err : goal.returns-in-Err
returns-in-Err c =
    let image = c.args.views.now.private in
    record {
      clear = tt;
      found = broken_finds (Vec (Vec (ℕ × ℕ) Global) Global) (Vec (Vec (ℕ × ℕ) Global) Global) c.args.name.now image Extents (λ at. BreaksFirst [] (map (node_chain image c.args.places.now) c.args.nodes.now) at) c.in-Err.broken c.fault.result c.fault.ensures c.in-Err.ensures.broken
          (λ at h. record { found = _; before = c.requires.clear; is = at_both (λ (ps : List Place) (ks : List ℕ). BreaksFirst [] (map (node_chain image ps) ks) at) c.args.places.now _ c.args.nodes.now _ c.requires.places c.requires.nodes h });
    }

pub returns-in-Some : goal.returns-in-Some
returns-in-Some c =
    let image = c.args.views.now.private in
    let lost = c.in-Some.ensures _ c.in-Ok.ensures.seen in
    record {
      clear = tt;
      found = found_finds (Vec (Vec (ℕ × ℕ) Global) Global) c.args.name.now image Lost c.in-Some.at c.found.result c.found.ensures
          (record {
            found = _;
            before = c.requires.clear;
            chains = _;
            whole = at_both (λ (ps : List Place) (ks : List ℕ). AreWhole [] (map (node_chain image ps) ks) (map (λ ps. ps.items) c.in-Ok.chains.items)) c.args.places.now _ c.args.nodes.now _ c.requires.places c.requires.nodes c.in-Ok.ensures.whole;
            is = ap (λ (ps : List Place). first_failing (lost_questions ps (seen_after [] (map (λ ps. ps.items) c.in-Ok.chains.items)))) (sym c.requires.places) ∙ sym lost;
          });
    }

pub returns : goal.returns
returns c =
    let image = c.args.views.now.private in
    let lost = c.in-None.ensures _ c.in-Ok.ensures.seen in
    record {
      clear = record {
        found = _;
        before = c.requires.clear;
        whole = at_both (λ (ps : List Place) (ks : List ℕ). AreWhole [] (map (node_chain image ps) ks) (map (λ ps. ps.items) c.in-Ok.chains.items)) c.args.places.now _ c.args.nodes.now _ c.requires.places c.requires.nodes c.in-Ok.ensures.whole;
        none_lost = ap (λ (ps : List Place). first_failing (lost_questions ps (seen_after [] (map (λ ps. ps.items) c.in-Ok.chains.items)))) (sym c.requires.places) ∙ sym lost;
      };
      found = tt;
    }
