use Rattle.std.proofs.Common.{List, [], All, map, refl, sym, ap, ◌∙◌, subst}
use Rattle.mm_walk.specs.Walk.{StaysLow}
use Rattle.mm_check.specs.Phases.{node_reading}
use Rattle.mm_check.specs.declared.extents.NodeExtents.{NodeExtents}
use Rattle.mm_check.proofs.CheckLaws.{all_mapped}
use Rattle.mm_check.proofs.ChainRows.{row_whole, row_seen, row_broken}
use Rattle.mm_check.proofs.Lows.{nodes_low}
use Rattle.mm_check.proofs.phases.node_extents.Goals as goal

pub node_chains-requires : goal.node_chains-requires
node_chains-requires c =
    record {
      nodes = c.requires.nodes;
      extents = record { known = c.in_ok-known.ensures; inside = c.requires.inside };
    }

pub follow_all-requires : goal.follow_all-requires
follow_all-requires c =
    record {
      low = subst (λ (xs : List NodeExtents). All (λ x. StaysLow (node_reading x)) xs) (sym c.deref.ensures.value) (all_mapped StaysLow node_reading c.in_ok-chains.chains.items _ c.in_ok-chains.ensures (nodes_low c.args.views.now.private c.args.all.now c.args.nodes.now c.requires.inside));
      some = ([], (c.requires.none, refl));
    }

pub returns : goal.returns
returns c =
    let e = ap (map node_reading) c.deref.ensures.value ∙ c.in_ok-chains.ensures in
    record {
      whole = row_whole c.follow_all.result c.args.seen.now _ _ c.requires.none e c.follow_all.ensures.whole;
      seen = row_seen c.follow_all.result c.args.seen.now c.follow_all.new.seen c.requires.none c.follow_all.ensures.seen;
      broken = row_broken c.follow_all.result c.args.seen.now _ _ c.requires.none e c.follow_all.ensures.broken;
    }
