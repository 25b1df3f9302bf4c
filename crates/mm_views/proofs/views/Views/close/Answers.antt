use Rattle.std.proofs.Common.{sym, ◌∙◌, ap, subst}
use Rattle.mm_ranges.specs.Limits.{IsAllowed}
use Rattle.mm_ranges.specs.Overlay.{over_all, ranges_of}
use Rattle.mm_ranges.specs.declared.part.Part.{Part}
use Rattle.mm_views.specs.State.{State, PartFits}
use Rattle.mm_views.specs.Held.{state_of}
use Rattle.mm_ranges.proofs.Overlaying.{ranges_of-pieces_of}
use Rattle.mm_views.proofs.Sound.{covered_sound, part_fits, part_allowed}
use Rattle.mm_views.proofs.HeldLemmas.{held_closed, held_whole, held_given}
use Rattle.mm_views.proofs.views.Views.close.Goals as goal

pub invariant_of-self : goal.invariant_of-self
invariant_of-self c =
    held_closed c.self.inside.shared c.self.inside.private c.self.inside.made c.new-in-Some.result c.self.inside.opened c.new-in-Some-2.result c.self.inside.closed.items c.push_back_reserved.«new».self.items c.in-Some.prepared c.self.inside.prepared c.take.«new».self _ _
    c.self.invariant (sym c.take.ensures.value ∙ c.in-Some.is) (c.new-in-Some.ensures ∙ c.new.ensures.items) c.new-in-Some-2.ensures c.push_back_reserved.ensures.items c.take.ensures.after _ _

pub returns-clause-whole : goal.returns-clause-whole
returns-clause-whole c =
    held_whole c.self.inside.shared c.self.inside.private c.self.inside.made c.self.inside.opened c.self.inside.closed.items c.push_back_reserved.«new».self.items c.in-Some.prepared c.self.inside.prepared _ _
    c.self.invariant (sym c.take.ensures.value ∙ c.in-Some.is) c.push_back_reserved.ensures.items

pub returns-clause-coverage : goal.returns-clause-coverage
returns-clause-coverage c =
    covered_sound (state_of c.self.inside.shared c.self.inside.private c.new-in-Some.result c.new-in-Some-2.result c.push_back_reserved.«new».self.items c.take.«new».self)
    (held_closed c.self.inside.shared c.self.inside.private c.self.inside.made c.new-in-Some.result c.self.inside.opened c.new-in-Some-2.result c.self.inside.closed.items c.push_back_reserved.«new».self.items c.in-Some.prepared c.self.inside.prepared c.take.«new».self _ _
    c.self.invariant (sym c.take.ensures.value ∙ c.in-Some.is) (c.new-in-Some.ensures ∙ c.new.ensures.items) c.new-in-Some-2.ensures c.push_back_reserved.ensures.items c.take.ensures.after 0 0).sound

pub returns-clause-fits : goal.returns-clause-fits
returns-clause-fits c =
    let s = state_of c.self.inside.shared c.self.inside.private c.self.inside.made c.self.inside.opened c.self.inside.closed.items c.self.inside.prepared in
    subst (λ (t : State). PartFits (over_all t.closed t.shared) c.in-Some.prepared.given) c.self.view_is
    (subst (PartFits (over_all s.closed s.shared)) (sym (held_given s c.in-Some.prepared c.self.inside.prepared _ _ c.self.invariant (sym c.take.ensures.value ∙ c.in-Some.is))) (part_fits s c.self.invariant.sound))

pub returns-clause-allowed : goal.returns-clause-allowed
returns-clause-allowed c =
    let s = state_of c.self.inside.shared c.self.inside.private c.self.inside.made c.self.inside.opened c.self.inside.closed.items c.self.inside.prepared in
    subst IsAllowed (sym (held_given s c.in-Some.prepared c.self.inside.prepared _ _ c.self.invariant (sym c.take.ensures.value ∙ c.in-Some.is))) (part_allowed s c.self.invariant.sound)

pub returns-clause-ranges : goal.returns-clause-ranges
returns-clause-ranges c =
    let s = state_of c.self.inside.shared c.self.inside.private c.self.inside.made c.self.inside.opened c.self.inside.closed.items c.self.inside.prepared in
    ap (λ (p : Part). ranges_of p.pieces) (held_given s c.in-Some.prepared c.self.inside.prepared _ _ c.self.invariant (sym c.take.ensures.value ∙ c.in-Some.is))
    ∙ ranges_of-pieces_of s.opened s.private c.self.invariant.sound.inside
    ∙ ap (λ (t : State). t.opened) c.self.view_is
