use Rattle.mm_rows_records.proofs.calls.room.Goals as goal

pub payload-requires : goal.payload-requires
payload-requires c =
    let g = c.requires.good in
    (g.0, (g.1.0, c.in-Some.ensures g.0 g.1.0 g.1.1))
