use Rattle.mm_btree.specs.Nodes.{node_of}
use Rattle.mm_btree.proofs.RootCalls.{root_ready, root_done}
use Rattle.mm_btree.proofs.adding.grow.Goals as goal

pub adopt-requires : goal.adopt-requires
adopt-requires g c =
    let node = g.S.NodeStore.bucket_at in
    root_ready (node c.args.store.now) (node c.add.new.self) c.args.root c.in_ok-place.place c.args.up.now (node_of c.over-bucket.result) c.over-bucket.ensures.node c.requires.there c.in_ok-place.ensures.same

pub returns-clause-same : goal.returns-clause-same
returns-clause-same g c =
    let node = g.S.NodeStore.bucket_at in
    root_done (node c.args.store.now) (node c.add.new.self) (node c.adopt.new.store) c.args.root c.in_ok-place.place c.args.up.now (node_of c.over-bucket.result) c.over-bucket.ensures.node c.in_ok-place.ensures.same c.in_ok-adopt.ensures.ok
