use Rattle.mm_bson.specs.Spelling.{spelling}
use Rattle.mm_btree.specs.Nodes.{Item}
use Rattle.mm_rows_trees.proofs.IndexLaws.{may_put, some_put}
use Rattle.mm_rows_trees.proofs.index.put_alone.Goals as goal

pub insert-requires-clause-index : goal.insert-requires-clause-index
insert-requires-clause-index c =
    let t = c.args.tree.now in
    let x : Item = record { key = spelling c.args.key.now; rec = c.args.rec } in
    let h = c.requires.index in
    let e = c.in_ok-remove.ensures in
    may_put c.args.draft.now c.remove.new.draft t.store.node t.owner t.position t.spec x h (e.kept c.if-branch.false) ((e.there h.0 h.1).0 c.if-branch.false)

pub returns-in-Ok : goal.returns-in-Ok
returns-in-Ok c =
    let t = c.args.tree.now in
    let x : Item = record { key = spelling c.args.key.now; rec = c.args.rec } in
    let h = c.requires.index in
    let e = c.in_ok-remove.ensures in
    some_put c.args.draft.now c.remove.new.draft c.insert.new.draft t.store.node t.owner t.position t.spec x h (e.kept c.if-branch.false) ((e.there h.0 h.1).0 c.if-branch.false) c.in-Ok.ensures.ok
