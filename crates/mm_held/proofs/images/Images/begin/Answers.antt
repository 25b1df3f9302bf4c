use Rattle.std.proofs.Common.{◌≡◌, [], sym, ◌∙◌, ap, subst}
use Rattle.std.proofs.lemmas.Result.{IfOk-weaker}
use Rattle.std.specs.FinMap.{empty}
use Rattle.mm_ranges.specs.Overlay.{over}
use Rattle.mm_ranges.specs.declared.part.Part.{Part}
use Rattle.mm_views.specs.State.{State, IsRemapped, IsCovered}
use Rattle.mm_tie.specs.Ends.{taker_ring}
use Rattle.mm_held.specs.Images.{item}
use Rattle.mm_held.specs.Loaded.{StandsIfAny, whole_part}
use Rattle.mm_held.proofs.Loading.{images_alike, whole_gives, begun_seen, begun_opening}
use Rattle.mm_held.proofs.images.Images.begin.Goals as goal

-- the two images of the views are one
alike : (old new : State) → IsRemapped old new → old.made ≡ [] → old.opened ≡ [] → old.closed ≡ [] → IsCovered new → new.shared ≡ old.private
alike old new r made opened closed covered = images_alike new covered (r.made ∙ made) (r.opened ∙ opened) (r.closed ∙ closed) ∙ r.private

pub begun-requires-clause-part : goal.begun-requires-clause-part
begun-requires-clause-part g c =
    let r = c.remap.ensures.remapped in
    c.in_ok-part.ensures ∙ ap whole_part (alike c.args.views c.remap.new.self r c.requires.made c.requires.opened c.requires.closed c.remap.ensures.coverage ∙ sym r.private)

pub begun-requires-clause-stands : goal.begun-requires-clause-stands
begun-requires-clause-stands g c = subst (StandsIfAny (g.E.Engine.means c.args.engine.now)) (sym c.remap.ensures.remapped.private) c.requires.stands

pub with_item-requires-clause-whole : goal.with_item-requires-clause-whole
with_item-requires-clause-whole g c =
    let r = c.remap.ensures.remapped in
    let same = alike c.args.views c.remap.new.self r c.requires.made c.requires.opened c.requires.closed c.remap.ensures.coverage ∙ sym r.private in
    ap (λ (p : Part). over p empty) (c.in_ok-part.ensures ∙ ap whole_part same) ∙ (whole_gives c.remap.new.self.private c.remap.ensures.limits ∙ (sym same ∙ sym c.in_ok-begun.ensures.shared))

pub returns-clause-images : goal.returns-clause-images
returns-clause-images g c =
    let r = c.remap.ensures.remapped in
    let part : c.in_ok-part.part ≡ whole_part c.args.views.private = c.in_ok-part.ensures ∙ ap whole_part (alike c.args.views c.remap.new.self r c.requires.made c.requires.opened c.requires.closed c.remap.ensures.coverage) in
    IfOk-weaker c.with_item.result _ _ (λ x is. begun_seen x.0 c.in_ok-begun.begun c.args.first c.args.most (taker_ring x.1) (item c.args.first c.in_ok-part.part 0) (item c.args.first (whole_part c.args.views.private) 0) is (ap (λ p. item c.args.first p 0) part)) c.with_item.ensures.images

pub returns-clause-opening : goal.returns-clause-opening
returns-clause-opening g c =
    let r = c.remap.ensures.remapped in
    let same = alike c.args.views c.remap.new.self r c.requires.made c.requires.opened c.requires.closed c.remap.ensures.coverage in
    let whole : over c.in_ok-part.part empty ≡ c.args.views.private = ap (λ (p : Part). over p empty) (c.in_ok-part.ensures ∙ ap whole_part (same ∙ sym r.private)) ∙ (whole_gives c.remap.new.self.private c.remap.ensures.limits ∙ r.private) in
    IfOk-weaker c.with_item.result _ _ (λ x is. begun_opening x.0 c.in_ok-begun.begun c.args.first c.args.most (taker_ring x.1) (item c.args.first c.in_ok-part.part 0) c.args.views.private is whole) c.with_item.ensures.images
