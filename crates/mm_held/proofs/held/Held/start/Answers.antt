use Rattle.std.proofs.Common.{◌-◌, vec_capacity, ap, subst, arith}
use Rattle.mm_held.specs.Held.{HeldView, IsHeld, IsStarted, AreNewPasses}
use Rattle.mm_held.specs.Images.{Imaged, item}
use Rattle.mm_held.specs.Loaded.{whole_part}
use Rattle.mm_held.specs.Seats.{AreSeats}
use Rattle.mm_held.proofs.Seating.{rooms_bound}
use Rattle.mm_held.proofs.Starting.{began_sound, is_started, new_passes, sound_of_empty, view_of_empty}
use Rattle.mm_held.proofs.held.Held.start.Goals as goal

pub begin-requires-clause-most : goal.begin-requires-clause-most
begin-requires-clause-most g c = omega arith

pub begin-requires-clause-bound : goal.begin-requires-clause-bound
begin-requires-clause-bound g c = omega arith

pub invariant_of-held : goal.invariant_of-held
invariant_of-held g c =
    let images = c.in_ok-images.images in
    let givers = c.in_ok-givers.givers.items in
    let passes = c.in_ok-givers.passes.items in
    let seats = subst (λ rs. AreSeats 0 rs givers passes) c.deref.ensures.value c.in_ok-givers.ensures in
    sound_of_empty c.in_ok-counts.counts.items c.new.result.items c.in_ok-counts.ensures.items c.new.ensures.items
    (began_sound (g.E.Engine.means c.args.engine) g.P.Probe c.args.engine c.args.probe c.args.views images
    (item (c.args.next - 1) (whole_part c.args.views.private) 0) c.args.rooms.items givers passes c.args.groups (vec_capacity c.in_ok-counts.counts)
    c.in_ok-images.ensures.begun (ap (λ (i : Imaged). i.given) c.in_ok-images.ensures.images) c.in_ok-images.ensures.opening (ap (λ (i : Imaged). i.most) c.in_ok-images.ensures.images) c.in_ok-counts.ensures.exact
    c.requires.untold seats (rooms_bound c.args.rooms.items c.requires.some_room) c.requires.all_rooms c.in_ok-images.ensures.imaged)

pub returns-clause-started : goal.returns-clause-started
returns-clause-started g c =
    let m = g.E.Engine.means c.args.engine in
    let images = c.in_ok-images.images in
    let givers = c.in_ok-givers.givers.items in
    let passes = c.in_ok-givers.passes.items in
    let seats = subst (λ rs. AreSeats 0 rs givers passes) c.deref.ensures.value c.in_ok-givers.ensures in
    subst (λ (v : HeldView g.row.E.Denot g.row.P.Denot). IsStarted m c.args.engine c.args.probe c.args.views c.args.next c.args.rooms.items c.args.groups v)
    (view_of_empty c.args.engine c.args.probe images c.in_ok-counts.counts.items c.new.result.items givers c.in_ok-counts.ensures.items c.new.ensures.items)
    (is_started m c.args.engine c.args.probe c.args.views c.args.next c.args.rooms.items c.args.groups images _ givers passes c.in_ok-images.ensures.images c.requires.next c.in_ok-images.ensures.begun c.in_ok-images.ensures.opening seats)

pub returns-clause-fact : goal.returns-clause-fact
returns-clause-fact g c =
    let m = g.E.Engine.means c.args.engine in
    let t = g.P.Probe in
    let images = c.in_ok-images.images in
    let givers = c.in_ok-givers.givers.items in
    let passes = c.in_ok-givers.passes.items in
    let seats = subst (λ rs. AreSeats 0 rs givers passes) c.deref.ensures.value c.in_ok-givers.ensures in
    subst (λ (v : HeldView g.row.E.Denot g.row.P.Denot). IsHeld m t v)
    (view_of_empty c.args.engine c.args.probe images c.in_ok-counts.counts.items c.new.result.items givers c.in_ok-counts.ensures.items c.new.ensures.items)
    (began_sound m t c.args.engine c.args.probe c.args.views images
    (item (c.args.next - 1) (whole_part c.args.views.private) 0) c.args.rooms.items givers passes c.args.groups (vec_capacity c.in_ok-counts.counts)
    c.in_ok-images.ensures.begun (ap (λ (i : Imaged). i.given) c.in_ok-images.ensures.images) c.in_ok-images.ensures.opening (ap (λ (i : Imaged). i.most) c.in_ok-images.ensures.images) c.in_ok-counts.ensures.exact
    c.requires.untold seats (rooms_bound c.args.rooms.items c.requires.some_room) c.requires.all_rooms c.in_ok-images.ensures.imaged).held

pub returns-clause-passes : goal.returns-clause-passes
returns-clause-passes g c =
    let images = c.in_ok-images.images in
    let givers = c.in_ok-givers.givers.items in
    let passes = c.in_ok-givers.passes.items in
    let seats = subst (λ rs. AreSeats 0 rs givers passes) c.deref.ensures.value c.in_ok-givers.ensures in
    subst (λ (v : HeldView g.row.E.Denot g.row.P.Denot). AreNewPasses v passes)
    (view_of_empty c.args.engine c.args.probe images c.in_ok-counts.counts.items c.new.result.items givers c.in_ok-counts.ensures.items c.new.ensures.items)
    (new_passes c.args.engine c.args.probe images c.args.rooms.items givers passes seats c.requires.some_room)
