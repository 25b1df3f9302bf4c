-- What the check answers, and what stands.
use Rattle.std.proofs.Common.{ℕ, List, [], Result, Ok, Err, subst}
use Rattle.std.specs.Result.{OnOk}
use Rattle.mm_ranges.specs.Overlay.{Image}
use Rattle.mm_links.specs.Links.{Place}
use Rattle.mm_records.specs.Shape.{Shape}
use Rattle.mm_model.specs.declared.finding.CheckFault.{CheckFault}
use Rattle.mm_model.specs.declared.finding.CheckFault.TheVariants.{Found, NoMemory}
use Rattle.mm_walk.proofs.WalkLaws.{all_whole_is_one}
use Rattle.mm_check.specs.Findings.{file_chains, Clear3, Clear9, IsClear}
use Rattle.mm_check.specs.TheCheck.{IfFound}
use Rattle.mm_check.specs.Standing.{HasNoDot, HasShape, found_shape}
use Rattle.mm_check.proofs.FoundStands.{found_stands}
use Rattle.mm_check.proofs.StandsClear.{nothing_found}

pub shape_of : (d : List ℕ) → HasNoDot d → (image : Image) → IsClear d image → (s : Shape) × HasShape d image s
shape_of d no_dot image c = (found_shape d image c.clear.before.before.before.before.found c.chains c.records c.blocks, found_stands d no_dot image c.chains c.records c.blocks c.clear)

-- also of the extents of phase 3 that are told apart from it
pub found_shape_stands : (d : List ℕ) → HasNoDot d → (image : Image) (found chains records blocks : List (List Place)) → Clear3 d image found → Clear9 d image chains records blocks → HasShape d image (found_shape d image found chains records blocks)
found_shape_stands d no_dot image found chains records blocks three nine =
    let five = nine.before.before.before.before in
    subst (λ (f : List (List Place)). HasShape d image (found_shape d image f chains records blocks)) (all_whole_is_one [] (file_chains image) five.found found five.before.whole three.whole)
    (found_stands d no_dot image chains records blocks nine)

pub some_stands : (d : List ℕ) (image : Image) (r : Result (Unit {0}) CheckFault) → OnOk r (IsClear d image) → OnOk r (HasNoDot d → (s : Shape) × HasShape d image s)
some_stands d image (Ok x) c = λ no_dot. shape_of d no_dot image c
some_stands d image (Err f) c = tt

pub none_stands : (d : List ℕ) (image : Image) (r : Result (Unit {0}) CheckFault) → IfFound r (λ f. IsClear d image → ⊥) → IfFound r (λ f. (s : Shape) → HasShape d image s → ⊥)
none_stands d image (Ok x) c = tt
none_stands d image (Err (Found f)) c = λ s st. c (nothing_found d image s st)
none_stands d image (Err NoMemory) c = tt
