use Rattle.std.proofs.Common.{◌≡◌, ◌+◌, ◌-◌, ◌<◌, ◌++◌, ◌∷◌, [], length, vec_capacity, true, sym, ◌∙◌, ap, subst, arith, rules}
use Rattle.std.specs.Vec.{vec_len}
use Rattle.mm_tie.specs.Items.{Follows, image_of}
use Rattle.mm_held.specs.Images.{Imaged, IsImaged}
use Rattle.mm_held.specs.Held.{HeldView, Closes, held_view}
use Rattle.mm_held.proofs.Sound.{images_there}
use Rattle.mm_held.proofs.Closing.{close_sound, closed_sound, close_closes}
use Rattle.mm_held.proofs.held.HeldOrigin.close.Goals as goal

pub overflow_sub-entries : goal.overflow_sub-entries
overflow_sub-entries g c = let len : c.len.result ≡ length c.self.inside.log.items = search rules in omega (arith, len, c.self.invariant.within)

pub push_reserved-requires : goal.push_reserved-requires
push_reserved-requires g c =
    let room = subst (λ (i : Imaged). length i.given < i.most) (sym (images_there c.self.view_is)) c.requires.room in
    let len : vec_len c.self.inside.counts ≡ length c.self.inside.counts.items = search rules in
    omega (arith, len, room, c.self.invariant.items, c.self.invariant.space)

pub close-requires-clause-ready : goal.close-requires-clause-ready
close-requires-clause-ready g c = subst (λ (i : Imaged). i.views.is_ready ≡ true) (sym (images_there c.self.view_is)) c.requires.ready

pub close-requires-clause-room : goal.close-requires-clause-room
close-requires-clause-room g c = subst (λ (i : Imaged). length i.given < i.most) (sym (images_there c.self.view_is)) c.requires.room

pub close-requires-clause-own : goal.close-requires-clause-own
close-requires-clause-own g c = c.requires.own ∙ sym (ap (λ (i : Imaged). i.ring) (images_there c.self.view_is))

pub invariant_of-self : goal.invariant_of-self
invariant_of-self g c =
    let old = c.self.inside.images in
    let log = c.self.inside.log.items in
    let counts = c.self.inside.counts.items in
    let givers = c.self.inside.givers.items in
    let engine = c.self.inside.engine in
    let p = c.self.inside.probe in
    let n = c.len.result - c.self.inside.closed in
    let len : c.len.result ≡ length log = search rules in
    let rest : n + c.self.inside.closed ≡ length log = omega (arith, len, c.self.invariant.within) in
    let t = g.P.Probe in
    let whole = subst (λ (i : Imaged). image_of i.given ≡ i.views.private) c.close.ensures.closed c.close.ensures.whole in
    let imaged = subst IsImaged c.close.ensures.closed c.close.ensures.imaged in
    let ends : c.len-self-inside.result ≡ length log = search rules in
    closed_sound
    (close_sound (g.E.Engine.means engine) t engine p old counts log givers c.self.inside.closed (vec_capacity c.self.inside.counts) n c.close.result c.self.invariant rest c.close.ensures.item whole imaged)
    c.close.ensures.closed c.push_reserved.ensures.items ends c.push_reserved.ensures.capacity

pub returns-clause-given : goal.returns-clause-given
returns-clause-given g c = ap (λ (i : Imaged). i.given) c.close.ensures.closed ∙ ap (λ (i : Imaged). i.given ++ c.close.result ∷ []) (images_there c.self.view_is)

pub returns-clause-taken : goal.returns-clause-taken
returns-clause-taken g c = c.close.ensures.taken

pub returns-clause-follows : goal.returns-clause-follows
returns-clause-follows g c = subst (λ (i : Imaged). Follows i.given c.close.result) (images_there c.self.view_is) c.close.ensures.follows

pub returns-clause-closes : goal.returns-clause-closes
returns-clause-closes g c =
    let old = c.self.inside.images in
    let log = c.self.inside.log.items in
    let counts = c.self.inside.counts.items in
    let givers = c.self.inside.givers.items in
    let engine = c.self.inside.engine in
    let p = c.self.inside.probe in
    let n = c.len.result - c.self.inside.closed in
    let len : c.len.result ≡ length log = search rules in
    let rest : n + c.self.inside.closed ≡ length log = omega (arith, len, c.self.invariant.within) in
    let t = g.P.Probe in
    let before : HeldView g.row.E.Denot g.row.P.Denot = held_view engine p old counts log givers in
    let closed = close_closes (g.E.Engine.means engine) t engine p old counts log givers c.self.inside.closed (vec_capacity c.self.inside.counts) n c.close.result c.self.invariant rest c.close.ensures.item in
    subst (λ v. Closes v (held_view engine p c.close.new.self c.push_reserved.new.self.items log givers)) c.self.view_is
    (subst (λ ns. Closes before (held_view engine p c.close.new.self ns log givers)) (sym c.push_reserved.ensures.items)
    (subst (λ i. Closes before (held_view engine p i (counts ++ n ∷ []) log givers)) (sym c.close.ensures.closed) closed))

pub returns-clause-most : goal.returns-clause-most
returns-clause-most g c = ap (λ (i : Imaged). i.most) c.close.ensures.closed ∙ ap (λ (i : Imaged). i.most) (images_there c.self.view_is)

pub returns-clause-own : goal.returns-clause-own
returns-clause-own g c = ap (λ (i : Imaged). i.ring) c.close.ensures.closed ∙ ap (λ (i : Imaged). i.ring) (images_there c.self.view_is)

pub returns-clause-ring : goal.returns-clause-ring
returns-clause-ring g c = c.close.ensures.ring
