use Rattle.mm_btree.proofs.unique.insert.Goals as goal

pub is_taken-requires-clause-tree : goal.is_taken-requires-clause-tree
is_taken-requires-clause-tree g c = (c.requires.tree.0, c.requires.tree.1)
