use Rattle.mm_extents.proofs.RoomFalls.{room_files}
use Rattle.mm_records.specs.Stands.{ns_in}
use Rattle.mm_namespaces.proofs.Adds.{stands_added, free_other, named_at, put_there, is_node_added}
use Rattle.mm_namespaces.proofs.NodeBytes.{ok_both, holds_of, both_on}
use Rattle.mm_namespaces.proofs.adding.add.Goals as goal

pub put_fresh-requires-clause-table : goal.put_fresh-requires-clause-table
put_fresh-requires-clause-table c = c.requires.stands.1.1.table

pub returns-clause-stands : goal.returns-clause-stands
returns-clause-stands c = both_on c.put_fresh.result c.put_fresh.ensures.put c.put_fresh.ensures.lengths c.put_fresh.ensures.files (λ node p lengths files free s st.
    stands_added c.args.draft.now.image c.put_fresh.«new».draft.image free s st c.args.name.now node p.0 c.requires.absent p.1.0 c.requires.isnt_free lengths files p.1.1 c.put_fresh.ensures.kept)

pub returns-clause-node : goal.returns-clause-node
returns-clause-node c = ok_both c.put_fresh.result c.put_fresh.ensures.put c.put_fresh.ensures.used (λ node p used free s st.
    is_node_added c.put_fresh.«new».draft.image free c.args.name.now node p.0 c.put_fresh.ensures.kept used
    (put_there (ns_in c.args.draft.now.image) (ns_in c.put_fresh.«new».draft.image) c.args.name.now node p.0 p.1.1)
    (free_other free c.args.draft.now.image s st c.args.name.now c.requires.isnt_free))

pub returns-clause-named : goal.returns-clause-named
returns-clause-named c = holds_of c.put_fresh.result c.put_fresh.ensures.put (λ node p.
    named_at (ns_in c.put_fresh.«new».draft.image) c.args.name.now node p.0 c.put_fresh.ensures.kept (put_there (ns_in c.args.draft.now.image) (ns_in c.put_fresh.«new».draft.image) c.args.name.now node p.0 p.1.1))

pub returns-clause-room : goal.returns-clause-room
returns-clause-room c = both_on c.put_fresh.result c.put_fresh.ensures.put c.put_fresh.ensures.lengths c.put_fresh.ensures.files (λ node p lengths files. room_files c.args.draft.now.image c.put_fresh.«new».draft.image lengths files)
