use Rattle.mm_btree.proofs.removing.+take_last_below.Given as goal

abbrev pub decreases-take_last_below : goal.decreases-take_last_below
decreases-take_last_below g l = l.height
