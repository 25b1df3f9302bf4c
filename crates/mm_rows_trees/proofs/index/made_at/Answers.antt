use Rattle.std.proofs.Common.{◌∙◌, sym, ap, subst}
use Rattle.mm_records.specs.declared.store.RecordStore.{RecordStore}
use Rattle.mm_trees.specs.declared.tree.Tree.{Tree}
use Rattle.mm_trees.specs.Indexes.{IsUnmade}
use Rattle.mm_rows_trees.proofs.FileLaws.{unmade}
use Rattle.mm_rows_trees.proofs.index.made_at.Goals as goal

pub make-requires : goal.make-requires
make-requires c =
    let same = c.at-tree.ensures ∙ ap (λ (s : RecordStore). record { store = s; owner = c.args.nodes.1; position = 0; spec = c.args.spec }) c.at.ensures in
    subst (λ (t : Tree). IsUnmade c.args.draft.now.image t.store.node t.owner t.position) (sym same) (unmade c.args.draft.now.image c.args.nodes.0 c.args.nodes.1 c.requires)
