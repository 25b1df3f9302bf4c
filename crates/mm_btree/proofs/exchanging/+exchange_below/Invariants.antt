use Rattle.mm_btree.proofs.exchanging.+exchange_below.Given as goal

abbrev pub decreases-exchange_below : goal.decreases-exchange_below
decreases-exchange_below g l = l.height
