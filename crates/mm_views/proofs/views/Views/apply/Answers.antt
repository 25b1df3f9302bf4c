use Rattle.std.proofs.Common.{None}
use Rattle.mm_views.specs.Held.{state_of}
use Rattle.mm_views.proofs.Sound.{covered_sound}
use Rattle.mm_views.proofs.HeldLemmas.{held_applied, oldest_fits}
use Rattle.mm_views.proofs.views.Views.apply.Goals as goal

pub lay_over-requires : goal.lay_over-requires
lay_over-requires c =
    oldest_fits c.self.inside.shared c.self.inside.private c.self.inside.made c.self.inside.opened c.self.inside.closed.items c.pop_front.«new».self.items c.in-Some.kept c.self.inside.prepared c.self.invariant.sound c.in-Some.ensures.items

pub invariant_of-self : goal.invariant_of-self
invariant_of-self c =
    held_applied c.lay_over.«new».image c.self.inside.shared c.self.inside.private c.self.inside.made c.self.inside.opened c.self.inside.closed.items c.pop_front.«new».self.items c.in-Some.kept c.self.inside.prepared _ _
    c.self.invariant.sound c.in-Some.ensures.items c.lay_over.ensures

pub returns-clause-coverage : goal.returns-clause-coverage
returns-clause-coverage c =
    covered_sound (state_of c.lay_over.«new».image c.self.inside.private c.self.inside.made c.self.inside.opened c.pop_front.«new».self.items None)
    (held_applied c.lay_over.«new».image c.self.inside.shared c.self.inside.private c.self.inside.made c.self.inside.opened c.self.inside.closed.items c.pop_front.«new».self.items c.in-Some.kept c.self.inside.prepared 0 0
    c.self.invariant.sound c.in-Some.ensures.items c.lay_over.ensures).sound
