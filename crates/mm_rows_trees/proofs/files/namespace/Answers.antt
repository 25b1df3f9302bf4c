use Rattle.std.proofs.Common.{◌∙◌, sym}
use Rattle.mm_rows_trees.proofs.FileLaws.{absent_of, bare_on}
use Rattle.mm_rows_trees.proofs.files.namespace.Goals as goal

pub find-requires : goal.find-requires
find-requires c = c.requires.bare.1.1.0.table

pub add-requires-clause-stands : goal.add-requires-clause-stands
add-requires-clause-stands c = let b = c.requires.bare in (b.0, (b.1.0, b.1.1.0))

pub add-requires-clause-absent : goal.add-requires-clause-absent
add-requires-clause-absent c = absent_of _ c.find.result c.find.ensures.is (sym c.is_some.ensures ∙ c.if-is_some.false)

pub returns-in-Ok : goal.returns-in-Ok
returns-in-Ok c = bare_on c.args.draft.now.image c.add.new.draft.image c.requires.bare c.in-Ok.ensures.stands
