use Rattle.std.proofs.Common.{◌≡◌, ◌∙◌, ap, sym, subst}
use Rattle.mm_ranges.specs.Room.{shown}
use Rattle.mm_views.specs.Made.{without_made}
use Rattle.mm_views.specs.State.{State, IsCovered}
use Rattle.mm_views.specs.Held.{state_of, before_draft}
use Rattle.mm_views.proofs.MadeLists.{all_files_of_made}
use Rattle.mm_views.proofs.Sound.{covered_sound}
use Rattle.mm_views.proofs.draft.Draft.give_up.Goals as goal

pub take_back-requires : goal.take_back-requires
take_back-requires c = all_files_of_made c.self.inside.made.items c.self.invariant.draft.made.allowed

pub returns-clause-coverage : goal.returns-clause-coverage
returns-clause-coverage c =
    let s = state_of c.self.inside.shared (before_draft c.self.inside.saved.items c.self.inside.made.items c.self.inside.image) c.self.inside.before c.self.inside.opened c.self.inside.closed.items c.self.inside.prepared in
    let back : c.take_back.«new».image ≡ s.private = c.take_back.ensures ∙ ap (without_made c.self.inside.made.items) c.lay_back.ensures in
    let t : State = record { shared = s.shared; private = c.take_back.«new».image; made = s.made; opened = shown c.give_back.«new».self; closed = s.closed; is_ready = s.is_ready } in
    let e : t ≡ s =
    λ i. record { shared = s.shared; private = back i; made = s.made; opened = c.give_back.ensures.shown i; closed = s.closed; is_ready = s.is_ready } in
    subst IsCovered (sym e) (covered_sound s c.self.invariant.draft.sound)
