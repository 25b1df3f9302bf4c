use Rattle.std.proofs.Common.{ℕ, List, [], ◌<◌, map, ap, sym, ◌∙◌, subst, refl, Vec, Global}
use Rattle.std.specs.Prelude.{flat_map}
use Rattle.mm_model.specs.declared.finding.What.TheVariants.{Deleted}
use Rattle.mm_links.specs.Links.{has}
use Rattle.mm_nstable.specs.Nodes.{count_of}
use Rattle.mm_records.specs.Stands.{ns_in}
use Rattle.mm_walk.specs.Walk.{AreWhole, BreaksFirst, seen_after}
use Rattle.mm_check.specs.Findings.{Owner, lists_of}
use Rattle.mm_check.specs.Phases.{owner_of}
use Rattle.mm_check.proofs.ChainRows.{fresh_after}
use Rattle.mm_check.proofs.CheckLaws.{owners_below, all_mapped}
use Rattle.mm_check.proofs.Insides.{inside_owners}
use Rattle.mm_check.proofs.CheckSteps.{broken_finds}
use Rattle.mm_check.proofs.order.blocks_of.Goals as goal

pub deleted_blocks-requires : goal.deleted_blocks-requires
deleted_blocks-requires c =
    let image = c.args.views.now.private in
    record {
      nodes = all_mapped (λ (o : Owner). o.node < count_of (ns_in image)) owner_of c.args.owned.now _ c.requires.owned (owners_below c.args.name.now image _);
      inside = λ p h. inside_owners c.args.name.now image _ c.requires.clear.before p (ap (λ (os : List Owner). has (flat_map (λ o. o.extents) os) p) (sym c.requires.owned) ∙ h);
      some = (_, (c.requires.seen, fresh_after [] _ _ c.requires.clear.whole refl));
    }

pub returns-in-Ok : goal.returns-in-Ok
returns-in-Ok c =
    let image = c.args.views.now.private in
    record {
      clear = record {
        before = c.requires.clear;
        whole = subst (λ (os : List Owner). AreWhole (seen_after [] (map (λ ps. ps.items) c.args.records.now)) (flat_map (lists_of image) os) (map (λ ps. ps.items) c.in-Ok.blocks.items)) c.requires.owned (c.in-Ok.ensures.whole _ c.requires.seen (fresh_after [] _ _ c.requires.clear.whole refl));
      };
      found = tt;
    }

pub returns-in-Err : goal.returns-in-Err
returns-in-Err c =
    let image = c.args.views.now.private in
    record {
      clear = tt;
      found = broken_finds (Vec (Vec (ℕ × ℕ) Global) Global) (Vec (Vec (ℕ × ℕ) Global) Global) c.args.name.now image Deleted _ c.in-Err.broken c.fault.result c.fault.ensures c.in-Err.ensures.broken
          (λ at h. record { chains = _; records = _; before = c.requires.clear; is = subst (λ (os : List Owner). BreaksFirst (seen_after [] (map (λ ps. ps.items) c.args.records.now)) (flat_map (lists_of image) os) at) c.requires.owned (h _ c.requires.seen (fresh_after [] _ _ c.requires.clear.whole refl)) });
    }
