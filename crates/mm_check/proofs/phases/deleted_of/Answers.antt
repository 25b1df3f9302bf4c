use Rattle.std.proofs.Common.{◌≡◌, List, All, IfOk, true, map, sym, ap, ◌∙◌, subst}
use Rattle.mm_links.specs.Links.{Place, once}
use Rattle.mm_walk.specs.Walk.{Reading, StaysLow, Knows, AreWhole, BreaksFirst, IfBroken}
use Rattle.mm_check.specs.Phases.{deleted_reading, owner_of}
use Rattle.mm_check.specs.declared.lists.Deleted.{Deleted}
use Rattle.mm_check.proofs.CheckLaws.{all_mapped}
use Rattle.mm_check.proofs.Lows.{lists_low}
use Rattle.mm_check.proofs.phases.deleted_of.Goals as goal

pub node_lists-requires : goal.node_lists-requires
node_lists-requires c = record { node = c.requires.node; extents = record { known = c.in_ok-known.ensures; inside = c.requires.inside } }

pub follow_all-requires : goal.follow_all-requires
follow_all-requires c =
    record {
      low = subst (λ (xs : List Deleted). All (λ x. StaysLow (deleted_reading x)) xs) (sym c.deref.ensures.value) (all_mapped StaysLow deleted_reading c.in_ok-lists.lists.items _ c.in_ok-lists.ensures (lists_low c.args.views.now.private (owner_of c.args.owner.now) c.requires.inside));
      some = c.requires.some;
    }

pub returns : goal.returns
returns c =
    let e = ap (map deleted_reading) c.deref.ensures.value ∙ c.in_ok-lists.ensures in
    record {
      whole = subst (λ (rs : List Reading). IfOk c.follow_all.result (λ all. (before : List Place) → Knows c.args.seen.now before → once before ≡ true → AreWhole before rs (map (λ ps. ps.items) all.items))) e c.follow_all.ensures.whole;
      seen = c.follow_all.ensures.seen;
      broken = subst (λ (rs : List Reading). IfBroken c.follow_all.result (λ at. (before : List Place) → Knows c.args.seen.now before → once before ≡ true → BreaksFirst before rs at)) e c.follow_all.ensures.broken;
    }
