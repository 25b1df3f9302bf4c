use Rattle.mm_rows_durable.proofs.bench.clear_marked.Goals as goal

pub clear-requires : goal.clear-requires
clear-requires c = record { orderly = c.requires.bench.orderly; going = c.requires.bench.going; marked = c.requires.marked }
