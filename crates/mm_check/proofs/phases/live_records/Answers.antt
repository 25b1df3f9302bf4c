use Rattle.std.proofs.Common.{List, [], IfOk, map, ap, ◌∙◌, subst}
use Rattle.mm_walk.specs.Walk.{Reading, AreWhole, BreaksFirst, IfBroken}
use Rattle.mm_check.specs.Phases.{reading_of}
use Rattle.mm_check.proofs.phases.live_records.Goals as goal

pub returns : goal.returns
returns c =
    let e = ap (map reading_of) c.deref.ensures.value ∙ c.in_ok-chains.ensures in
    record {
      whole = subst (λ (rs : List Reading). IfOk c.live_chains.result (λ all. AreWhole [] rs (map (λ ps. ps.items) all.items))) e c.live_chains.ensures.whole;
      seen = c.live_chains.ensures.seen;
      broken = subst (λ (rs : List Reading). IfBroken c.live_chains.result (λ at. BreaksFirst [] rs at)) e c.live_chains.ensures.broken;
    }
