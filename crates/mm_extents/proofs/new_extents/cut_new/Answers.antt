use Rattle.std.proofs.Common.{◌*◌, arith}
use Rattle.mm_extents.proofs.FileLaws.{file_len_most}
use Rattle.mm_extents.proofs.RoomFalls.{lowers_both}
use Rattle.mm_extents.proofs.NewExtents.{of_cut, page_least}
use Rattle.mm_extents.proofs.new_extents.cut_new.Goals as goal

pub cut_extent-requires-clause-rest : goal.cut_extent-requires-clause-rest
cut_extent-requires-clause-rest c =
    let s = c.requires.stands in
    (s.0, (s.1.0, (s.1.1.0, (s.1.1.1.0, (c.in_ok-at.ensures.stands s.0 s.1.0 s.1.1.0 s.1.1.1.0 s.1.1.1.1, c.in_ok-at.ensures.rest.unused)))))

pub cut_extent-requires-clause-long : goal.cut_extent-requires-clause-long
cut_extent-requires-clause-long c = page_least c.args.len c.requires.pages c.requires.some

pub place-requires-clause-ofs : goal.place-requires-clause-ofs
place-requires-clause-ofs c =
    let fits = c.in_ok-at.ensures.rest.fits in
    let most = file_len_most c.in_ok-at.at.file in
    omega (arith, fits, most)

pub returns-clause-ok : goal.returns-clause-ok
returns-clause-ok c = λ db heap chain ends f short isnt.
    let t = c.in_ok-cut_extent.ensures.ok db heap chain ends (c.in_ok-at.ensures.stands db heap chain ends f) c.in_ok-at.ensures.rest.unused isnt in
    of_cut c.args.draft.now.image c.cut_extent.«new».draft.image db heap t.0 chain ends c.args.name.now c.args.len (c.in_ok-at.at.file, c.in_ok-at.at.ofs) c.place.result c.place.ensures short c.in_ok-at.ensures.next t.1.0 t.1.1

pub returns-clause-room : goal.returns-clause-room
returns-clause-room c = lowers_both _ _ _ (3 * c.args.len) c.args.len (4 * c.args.len) c.in_ok-at.ensures.room c.in_ok-cut_extent.ensures.room (omega arith)
