use Rattle.mm_bson.specs.Spelling.{spelling}
use Rattle.mm_btree.specs.Nodes.{Item}
use Rattle.mm_rows_trees.proofs.IndexLaws.{some_taken}
use Rattle.mm_rows_trees.proofs.index.taken.Goals as goal

pub returns : goal.returns
returns c =
    let t = c.args.tree.now in
    let x : Item = record { key = spelling c.args.key.now; rec = c.args.rec } in
    some_taken c.args.draft.now c.remove.new.draft t.store.node t.owner t.position t.spec x c.remove.result c.requires.index c.remove.ensures.out c.remove.ensures.kept
