use Rattle.std.proofs.Common.{◌≡◌, ◌+◌, ◌*◌, ◌<◌, inl, inr, refl, arith}
use Rattle.mm_extents.proofs.MadeFiles.{some_other, last_short}
use Rattle.mm_extents.proofs.NewExtents.{both_hold}
use Rattle.mm_extents.proofs.RoomFalls.{lowers_none}
use Rattle.mm_extents.proofs.made_files.rest_of.Goals as goal

pub returns-clause-some : goal.returns-clause-some
returns-clause-some c = both_hold c.make_rest.result c.make_rest.ensures.rest c.make_rest.ensures.made (λ at rest made. some_other c.args.draft.now.image c.args.len (at.file, at.ofs) rest.low made rest.fits)

pub returns-then-file_len-ofs-clause-next : goal.returns-then-file_len-ofs-clause-next
returns-then-file_len-ofs-clause-next c =
    let last = c.last_file-file.ensures in
    let more = c.if-file_len-ofs.true in
    let is = c.file_len.ensures.is in
    let to = c.unused_ofs-ofs.ensures.to in
    inl (last, record { low = last.low; there = last.there; unused = c.unused_ofs-ofs.ensures.is; fits = omega (arith, more, is, to) })

pub returns-clause-next : goal.returns-clause-next
returns-clause-next c =
    let few = c.if-file_len-ofs.false in
    let is = c.file_len.ensures.is in
    let to = c.unused_ofs-ofs.ensures.to in
    let short = last_short c.args.draft.now.image c.last_file-file.result c.unused_ofs-ofs.result c.args.len c.last_file-file.ensures c.unused_ofs-ofs.ensures.is (omega (arith, few, is, to)) in
    both_hold c.make_rest.result c.make_rest.ensures.rest c.make_rest.ensures.made (λ at rest made. inr (short, made, rest.fits))

pub make_rest-requires-clause-few : goal.make_rest-requires-clause-few
make_rest-requires-clause-few c =
    let few = c.if-file_len-ofs.false in
    let is = c.file_len.ensures.is in
    let to = c.unused_ofs-ofs.ensures.to in
    (c.unused_ofs-ofs.result, (c.unused_ofs-ofs.ensures.is, omega (arith, few, is, to)))

pub returns-then-file_len-ofs-clause-room : goal.returns-then-file_len-ofs-clause-room
returns-then-file_len-ofs-clause-room c = lowers_none _ _ (3 * c.args.len) refl

pub returns-clause-left : goal.returns-clause-left
returns-clause-left c = c.make_rest.ensures.left
