-- A draft is deeper than those inside it.
use Rattle.std.specs.Prelude.{◌≤◌, List, [], ◌∷◌, Option, Some, None}
use Rattle.std.proofs.Common.{arith}
use denote.Param.Weighed.{most}
use Rattle.mm_bson.specs.Tree.{tree_depth, depth}
use Rattle.mm_update.specs.declared.draft.Node.{Node}
use Rattle.mm_update.specs.declared.draft.Node.TheVariants.{Document}
use Rattle.mm_update.specs.declared.draft.Entry.{Entry}
use Rattle.mm_update.specs.declared.draft.Draft.TheDeep.{deep-Entry, deep-Node}
use Rattle.mm_update.specs.Drafted.{node_tree, entry_on, drafted}

pub node_falls : (n : Node) → deep-Node n ≤ tree_depth (node_tree n)
node_falls (Document d) = omega arith
node_falls _ = omega arith

pub draft_falls : (es : List Entry) → most deep-Entry es ≤ depth (drafted es)
draft_falls [] = omega arith
draft_falls (e ∷ es) = by e.node (draft_falls es)
  where
    by : (o : Option Node) → most deep-Entry es ≤ depth (drafted es) → most deep-Entry (record { name = e.name; node = o } ∷ es) ≤ depth (entry_on e.name.now o (drafted es))
    by None later = omega (arith, later)
    by (Some n) later = omega (arith, later, node_falls n)
