use Rattle.std.proofs.Common.{arith}
use Rattle.mm_extents.proofs.RoomFalls.{room_kept}
use Rattle.mm_extents.proofs.NewExtents.{first_on, first_low, of_reused}
use Rattle.mm_extents.proofs.new_extents.reuse_new.Goals as goal

pub reuse_extent-requires : goal.reuse_extent-requires
reuse_extent-requires c = (c.requires.0, (c.requires.1.0, (c.requires.1.1.0, (c.requires.1.1.1.0, first_on c.requires.1.0 c.requires.1.1.0 c.args.len (c.args.at.file, c.args.at.ofs) c.requires.1.1.1.1))))

pub place-requires-clause-file : goal.place-requires-clause-file
place-requires-clause-file c = (first_low c.args.draft.now.image c.requires.0 c.requires.1.0 c.requires.1.1.0 c.args.free.now c.args.len (c.args.at.file, c.args.at.ofs) c.requires.1.1.1.0 c.requires.1.1.1.1).file

pub place-requires-clause-ofs : goal.place-requires-clause-ofs
place-requires-clause-ofs c = let low = (first_low c.args.draft.now.image c.requires.0 c.requires.1.0 c.requires.1.1.0 c.args.free.now c.args.len (c.args.at.file, c.args.at.ofs) c.requires.1.1.1.0 c.requires.1.1.1.1).ofs in omega (arith, low)

pub returns-clause-ok : goal.returns-clause-ok
returns-clause-ok c = λ db heap chain f x isnt.
    let t = c.in_ok-reuse_extent.ensures.ok db heap chain f (first_on heap chain c.args.len (c.args.at.file, c.args.at.ofs) x) isnt in
    of_reused c.args.draft.now.image c.reuse_extent.«new».draft.image db heap t.0 chain c.reuse_extent.«new».free c.args.name.now c.args.len t.1.0 (c.args.at.file, c.args.at.ofs) c.place.result c.place.ensures x t.1.1.0 t.1.1.1

pub returns-clause-room : goal.returns-clause-room
returns-clause-room c = room_kept _ _ c.in_ok-reuse_extent.ensures.kept
