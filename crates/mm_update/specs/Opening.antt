-- What a node is to a step behind it: a document, or something else.
use Rattle.std.specs.Prelude.{◌≡◌, None}
use Rattle.mm_bson.specs.Tree.{Tree, document}
use Rattle.mm_bson.specs.Path.{members}
use Rattle.mm_update.specs.declared.edit.Opened.{Opened}
use Rattle.mm_update.specs.declared.edit.Opened.TheVariants.{Document, Other}
use Rattle.mm_update.specs.Drafted.{node_tree}

abbrev pub IsOpened : Tree → Opened → Type 0
IsOpened t (Document d) = t ≡ document d
IsOpened t (Other n) = (node_tree n ≡ t) × (members t ≡ None)
