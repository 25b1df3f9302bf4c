use Rattle.std.proofs.Common.{◌∙◌, ap, None}
use Rattle.mm_views.specs.State.{State}
use Rattle.mm_views.specs.Held.{state_of}
use Rattle.mm_views.proofs.Sound.{images_equal, covered_sound}
use Rattle.mm_views.proofs.HeldLemmas.{held_equal, loaded}
use Rattle.mm_views.proofs.views.Views.load.Goals as goal

pub invariant_of-self : goal.invariant_of-self
invariant_of-self c =
    let s = state_of c.self.inside.shared c.self.inside.private c.self.inside.made c.self.inside.opened c.self.inside.closed.items c.self.inside.prepared in
    let made = ap (λ (t : State). t.made) c.self.view_is ∙ c.requires.made in
    let opened = ap (λ (t : State). t.opened) c.self.view_is ∙ c.requires.opened in
    let closed = ap (λ (t : State). t.closed) c.self.view_is ∙ c.requires.closed in
    let both = loaded c.self.inside.shared c.self.inside.private c.put.«new».self c.put-2.«new».self c.args.file c.args.len c.in_ok-shared.shared c.in_ok-private.private
    (images_equal s c.self.invariant.sound made opened closed) c.self.invariant.sound.limits c.requires.file c.requires.len c.in_ok-shared.ensures c.in_ok-private.ensures c.put.ensures c.put-2.ensures in
    held_equal c.put.«new».self c.put-2.«new».self c.self.inside.made c.self.inside.opened c.self.inside.closed.items _ _ both.0 both.1 made opened closed

pub returns-clause-coverage : goal.returns-clause-coverage
returns-clause-coverage c =
    let s = state_of c.self.inside.shared c.self.inside.private c.self.inside.made c.self.inside.opened c.self.inside.closed.items c.self.inside.prepared in
    let made = ap (λ (t : State). t.made) c.self.view_is ∙ c.requires.made in
    let opened = ap (λ (t : State). t.opened) c.self.view_is ∙ c.requires.opened in
    let closed = ap (λ (t : State). t.closed) c.self.view_is ∙ c.requires.closed in
    let both = loaded c.self.inside.shared c.self.inside.private c.put.«new».self c.put-2.«new».self c.args.file c.args.len c.in_ok-shared.shared c.in_ok-private.private
    (images_equal s c.self.invariant.sound made opened closed) c.self.invariant.sound.limits c.requires.file c.requires.len c.in_ok-shared.ensures c.in_ok-private.ensures c.put.ensures c.put-2.ensures in
    covered_sound (state_of c.put.«new».self c.put-2.«new».self c.self.inside.made c.self.inside.opened c.self.inside.closed.items None) (held_equal c.put.«new».self c.put-2.«new».self c.self.inside.made c.self.inside.opened c.self.inside.closed.items 0 0 both.0 both.1 made opened closed).sound
