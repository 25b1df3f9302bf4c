use Rattle.std.proofs.Common.{Some, None, IsSome, refl, sym, ap, ◌∙◌, subst}
use Rattle.mm_btree.specs.Nodes.{Item, node_of, put}
use Rattle.mm_btree.proofs.Places.{place_eq-is}
use Rattle.mm_btree.proofs.Steps.{put_there}
use Rattle.mm_btree.proofs.Parts.{left_alike, right_alike, right_ready, part_done}
use Rattle.mm_btree.proofs.JoinCalls.{put_over}
use Rattle.mm_btree.proofs.joining.part_anew.Goals as goal

pub write-requires-clause-alike : goal.write-requires-clause-alike
write-requires-clause-alike g c =
    let w = c.requires.whole in
    right_alike w.0 c.args.whole c.args.rest.now c.args.last w.1 c.requires.last w.2

pub write-requires-2-clause-there : goal.write-requires-2-clause-there
write-requires-2-clause-there g c =
    let node = g.S.NodeStore.bucket_at in
    subst IsSome (sym (c.in_ok-write.ensures.same c.args.left)) (put_there (node c.args.store.now) c.args.right c.args.left (node_of c.args.rest.now) c.requires.left)

pub write-requires-2-clause-alike : goal.write-requires-2-clause-alike
write-requires-2-clause-alike g c =
    let w = c.requires.whole in
    left_alike w.0 c.args.whole c.remove_at.new.self c.args.rest.now c.args.last w.1 c.requires.last w.2 c.remove_at.ensures

pub adopt-requires : goal.adopt-requires
adopt-requires g c =
    let node = g.S.NodeStore.bucket_at in
    let w = c.requires.whole in
    right_ready (node c.args.store.now) (node c.write.new.self) (node c.write-2.new.self) c.args.left c.args.right w.0 c.args.whole c.remove_at.new.self c.args.rest.now c.args.last
    w.1 c.requires.last w.2 w.3 c.remove_at.ensures c.in_ok-write.ensures.same c.in_ok-write-2.ensures.same

pub returns-clause-ok : goal.returns-clause-ok
returns-clause-ok g c =
    let node = g.S.NodeStore.bucket_at in
    let m = put (node c.args.store.now) c.args.right None in
    λ w p a. part_done m (node c.write.new.self) (node c.write-2.new.self) (node c.adopt.new.store) c.args.left c.args.right w c.args.whole c.remove_at.new.self c.args.rest.now c.args.last
    (record { mid = c.in_ok-mid.mid; right = c.args.right }) c.in_ok-mid.mid.key c.in_ok-mid.mid.rec p c.requires.last a c.remove_at.ensures (rw (place_eq-is c.args.right c.args.right refl) refl)
    (λ q. c.in_ok-write.ensures.same q ∙ put_over (node c.args.store.now) c.args.right q (Some (node_of c.args.rest.now))) c.in_ok-write-2.ensures.same c.in_ok-adopt.ensures.ok
    refl (ap (λ (i : Item). i.key) c.in_ok-mid.ensures) (ap (λ (i : Item). i.rec) c.in_ok-mid.ensures)
