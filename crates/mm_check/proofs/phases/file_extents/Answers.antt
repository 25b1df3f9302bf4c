use Rattle.std.proofs.Common.{[], All, List, map, refl, sym, ap, ◌∙◌, subst}
use Rattle.mm_walk.specs.Walk.{StaysLow}
use Rattle.mm_check.specs.Findings.{file_chains}
use Rattle.mm_check.specs.Phases.{extents_reading}
use Rattle.mm_check.specs.declared.extents.FileExtents.{FileExtents}
use Rattle.mm_check.proofs.CheckLaws.{all_mapped}
use Rattle.mm_check.proofs.ChainRows.{knows_none, row_whole, row_broken}
use Rattle.mm_check.proofs.Lows.{files_low}
use Rattle.mm_check.proofs.phases.file_extents.Goals as goal

pub follow_all-requires : goal.follow_all-requires
follow_all-requires c =
    record {
      low = subst (λ (xs : List FileExtents). All (λ x. StaysLow (extents_reading x)) xs) (sym c.deref.ensures.value) (all_mapped StaysLow extents_reading c.in_ok-chains.chains.items (file_chains c.args.views.now.private) c.in_ok-chains.ensures (files_low c.args.views.now.private c.requires));
      some = ([], (knows_none c.new-seen.result c.new-seen.ensures.empty, refl));
    }

pub returns : goal.returns
returns c =
    let e = ap (map extents_reading) c.deref.ensures.value ∙ c.in_ok-chains.ensures in
    let none = knows_none c.new-seen.result c.new-seen.ensures.empty in
    record { whole = row_whole c.follow_all.result c.new-seen.result _ _ none e c.follow_all.ensures.whole; broken = row_broken c.follow_all.result c.new-seen.result _ _ none e c.follow_all.ensures.broken }
