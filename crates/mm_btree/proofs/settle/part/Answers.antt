use Rattle.std.proofs.Common.{IsSome, sym, ◌∙◌, subst}
use Rattle.mm_btree.specs.Nodes.{node_of}
use Rattle.mm_btree.proofs.Steps.{put_there}
use Rattle.mm_btree.proofs.Parts.{left_alike, right_alike, right_ready, part_done}
use Rattle.mm_btree.proofs.settle.part.Goals as goal

pub add-requires : goal.add-requires
add-requires g c =
    let w = c.requires.whole in
    right_alike w.0 c.args.left c.args.right.now c.args.last w.1 c.requires.last w.2

pub write-requires-clause-there : goal.write-requires-clause-there
write-requires-clause-there g c =
    let node = g.S.NodeStore.bucket_at in
    subst IsSome (sym (c.in_ok-place.ensures.same c.args.at)) (put_there (node c.args.store.now) c.in_ok-place.place c.args.at (node_of c.args.right.now) c.requires.there)

pub write-requires-clause-alike : goal.write-requires-clause-alike
write-requires-clause-alike g c =
    let w = c.requires.whole in
    left_alike w.0 c.args.left c.remove_at.new.self c.args.right.now c.args.last w.1 c.requires.last w.2 c.remove_at.ensures

pub adopt-requires : goal.adopt-requires
adopt-requires g c =
    let node = g.S.NodeStore.bucket_at in
    let w = c.requires.whole in
    right_ready (node c.args.store.now) (node c.add.new.self) (node c.write.new.self) c.args.at c.in_ok-place.place w.0 c.args.left c.remove_at.new.self c.args.right.now c.args.last
    w.1 c.requires.last w.2 w.3 c.remove_at.ensures c.in_ok-place.ensures.same c.in_ok-write.ensures.same

pub returns-clause-ok : goal.returns-clause-ok
returns-clause-ok g c =
    let node = g.S.NodeStore.bucket_at in
    λ w p a. part_done (node c.args.store.now) (node c.add.new.self) (node c.write.new.self) (node c.adopt.new.store) c.args.at c.in_ok-place.place w c.args.left c.remove_at.new.self c.args.right.now c.args.last
    c.made.result c.in_ok-key.key.items c.rec-record.result p c.requires.last a c.remove_at.ensures c.in_ok-place.ensures.free c.in_ok-place.ensures.same c.in_ok-write.ensures.same c.in_ok-adopt.ensures.ok
    c.made.ensures (c.in_ok-key.ensures.items ∙ c.key.ensures.is) c.rec-record.ensures
