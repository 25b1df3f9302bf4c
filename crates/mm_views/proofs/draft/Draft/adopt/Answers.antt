use Rattle.std.proofs.Common.{◌+◌, ◌≤◌, subst, None}
use Rattle.std.specs.Prelude.{is_some}
use Rattle.mm_views.specs.State.{Drafting, weight_in}
use Rattle.mm_views.specs.Held.{state_of, drafting_at}
use Rattle.mm_views.proofs.Sound.{covered_sound}
use Rattle.mm_views.proofs.DraftLemmas.{held_adopted, is_adopted, weight_adopted}
use Rattle.mm_views.proofs.draft.Draft.adopt.Goals as goal

pub invariant_of-result : goal.invariant_of-result
invariant_of-result c =
    held_adopted c.self.inside.shared c.self.inside.image c.self.inside.saved.items c.self.inside.made.items c.self.inside.declared c.self.inside.before c.self.inside.opened c.self.inside.closed.items c.self.inside.prepared (is_some c.self.inside.reserved) c.self.inside.reserved _ _ c.self.invariant
    c.in-Some.made c.merge.«new».self _ _ c.in-Some.is c.merge.ensures.shown

pub returns-clause-coverage : goal.returns-clause-coverage
returns-clause-coverage c =
    covered_sound (state_of c.self.inside.shared c.self.inside.image c.in-Some.made c.merge.«new».self c.self.inside.closed.items None)
    (held_adopted c.self.inside.shared c.self.inside.image c.self.inside.saved.items c.self.inside.made.items c.self.inside.declared c.self.inside.before c.self.inside.opened c.self.inside.closed.items c.self.inside.prepared (is_some c.self.inside.reserved) c.self.inside.reserved _ _ c.self.invariant
    c.in-Some.made c.merge.«new».self 0 0 c.in-Some.is c.merge.ensures.shown).sound

pub returns-clause-weight : goal.returns-clause-weight
returns-clause-weight c =
    let d = drafting_at c.self.inside.shared c.self.inside.image c.self.inside.saved.items c.self.inside.made.items c.self.inside.declared c.self.inside.before c.self.inside.opened c.self.inside.closed.items c.self.inside.prepared (is_some c.self.inside.reserved) in
    let s = state_of c.self.inside.shared c.self.inside.image c.in-Some.made c.merge.«new».self c.self.inside.closed.items None in
    subst (λ (e : Drafting). weight_in s.made s.opened ≤ weight_in e.views.made e.views.opened + weight_in e.made e.declared) c.self.view_is
    (weight_adopted d s (is_adopted c.self.inside.shared c.self.inside.image c.self.inside.saved.items c.self.inside.made.items c.self.inside.declared c.self.inside.before c.self.inside.opened c.self.inside.closed.items c.self.inside.prepared (is_some c.self.inside.reserved) c.self.inside.reserved _ _ c.self.invariant c.in-Some.made c.merge.«new».self c.in-Some.is c.merge.ensures.shown)
    c.self.invariant.draft.sound.normal c.self.invariant.draft.normal)
