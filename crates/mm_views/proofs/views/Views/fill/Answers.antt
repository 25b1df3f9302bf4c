use Rattle.std.proofs.Common.{◌∙◌, ◌+◌, ◌≤◌, length, ap, sym, subst, None}
use Rattle.std.specs.Prelude.{IsSome}
use Rattle.std.specs.FinMap.{get}
use Rattle.mm_ranges.specs.Overlay.{Image, bytes_at}
use Rattle.mm_views.specs.State.{State}
use Rattle.mm_views.specs.Held.{state_of}
use Rattle.mm_views.proofs.Sound.{images_equal, covered_sound}
use Rattle.mm_views.proofs.HeldLemmas.{held_equal, filled}
use Rattle.mm_views.proofs.views.Views.fill.Goals as goal

pub lay-requires : goal.lay-requires
lay-requires c =
    let s = state_of c.self.inside.shared c.self.inside.private c.self.inside.made c.self.inside.opened c.self.inside.closed.items c.self.inside.prepared in
    let made = ap (λ (t : State). t.made) c.self.view_is ∙ c.requires.made in
    let opened = ap (λ (t : State). t.opened) c.self.view_is ∙ c.requires.opened in
    let closed = ap (λ (t : State). t.closed) c.self.view_is ∙ c.requires.closed in
    let same = ap (λ (t : State). t.private) (sym c.self.view_is) ∙ sym (images_equal s c.self.invariant.sound made opened closed) in
    record {
      there = subst (λ (image : Image). IsSome (get image c.args.file)) same c.requires.there;
      inside = subst (λ (image : Image). c.args.at + length c.args.bytes.now ≤ length (bytes_at image c.args.file)) same c.requires.inside;
    }

pub invariant_of-self : goal.invariant_of-self
invariant_of-self c =
    let s = state_of c.self.inside.shared c.self.inside.private c.self.inside.made c.self.inside.opened c.self.inside.closed.items c.self.inside.prepared in
    let made = ap (λ (t : State). t.made) c.self.view_is ∙ c.requires.made in
    let opened = ap (λ (t : State). t.opened) c.self.view_is ∙ c.requires.opened in
    let closed = ap (λ (t : State). t.closed) c.self.view_is ∙ c.requires.closed in
    let same = ap (λ (t : State). t.private) (sym c.self.view_is) in
    let both = filled c.self.inside.shared c.self.inside.private c.lay.«new».self c.lay-2.«new».self c.args.file c.args.at c.args.bytes.now
    (images_equal s c.self.invariant.sound made opened closed) c.self.invariant.sound.limits
    (subst (λ (image : Image). IsSome (get image c.args.file)) same c.requires.there)
    (subst (λ (image : Image). c.args.at + length c.args.bytes.now ≤ length (bytes_at image c.args.file)) same c.requires.inside) c.lay.ensures c.lay-2.ensures in
    held_equal c.lay.«new».self c.lay-2.«new».self c.self.inside.made c.self.inside.opened c.self.inside.closed.items _ _ both.0 both.1 made opened closed

pub returns-clause-coverage : goal.returns-clause-coverage
returns-clause-coverage c =
    let s = state_of c.self.inside.shared c.self.inside.private c.self.inside.made c.self.inside.opened c.self.inside.closed.items c.self.inside.prepared in
    let made = ap (λ (t : State). t.made) c.self.view_is ∙ c.requires.made in
    let opened = ap (λ (t : State). t.opened) c.self.view_is ∙ c.requires.opened in
    let closed = ap (λ (t : State). t.closed) c.self.view_is ∙ c.requires.closed in
    let same = ap (λ (t : State). t.private) (sym c.self.view_is) in
    let both = filled c.self.inside.shared c.self.inside.private c.lay.«new».self c.lay-2.«new».self c.args.file c.args.at c.args.bytes.now
    (images_equal s c.self.invariant.sound made opened closed) c.self.invariant.sound.limits
    (subst (λ (image : Image). IsSome (get image c.args.file)) same c.requires.there)
    (subst (λ (image : Image). c.args.at + length c.args.bytes.now ≤ length (bytes_at image c.args.file)) same c.requires.inside) c.lay.ensures c.lay-2.ensures in
    covered_sound (state_of c.lay.«new».self c.lay-2.«new».self c.self.inside.made c.self.inside.opened c.self.inside.closed.items None) (held_equal c.lay.«new».self c.lay-2.«new».self c.self.inside.made c.self.inside.opened c.self.inside.closed.items 0 0 both.0 both.1 made opened closed).sound
