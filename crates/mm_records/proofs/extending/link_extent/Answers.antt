use Rattle.std.proofs.Common.{◌+◌, subst, arith}
use Rattle.std.proofs.lemmas.Result.{on_ok_weaker}
use Rattle.mm_base.specs.declared.place.DiskLoc.{DiskLoc}
use Rattle.mm_links.specs.Links.{Place}
use Rattle.mm_extents.specs.Heap.{extent, deleted, IsHeap, change}
use Rattle.mm_extents.specs.Changes.{xprev_set, deleted_next_set, behind_of}
use Rattle.mm_extents.specs.FreeExtents.{next_passed}
use Rattle.mm_extents.proofs.Fields.{keeps_headers, keeps_both}
use Rattle.mm_records.proofs.LinkSteps.{passed_extent, passed_deleted, xprev_deleted}
use Rattle.mm_records.proofs.extending.link_extent.Goals as goal

pub link_last-requires : goal.link_last-requires
link_last-requires c = let r = c.requires.can in (r.0, ((c.args.at.file, c.args.at.ofs), (r.1.0, r.1.1)))

pub place-requires-clause-file : goal.place-requires-clause-file
place-requires-clause-file c = let l = c.requires.can.1.1 in l.is.data_file (c.args.at.file, c.args.at.ofs) (extent l.here.h) l.here.is

pub set_xprev-requires : goal.set_xprev-requires
set_xprev-requires c =
    let p : Place = (c.args.at.file, c.args.at.ofs) in
    let r = c.requires.can in
    let l = r.1.1 in
    let is1 = c.in_ok-link_last.ensures.heap r.0 l.heap r.1.0 l.low l.is l.there in
    let y = passed_extent r.0 c.place.result l.heap p l.here.h l.here.is in
    is1.inside p (extent y.h) y.is

pub set_next_deleted-requires : goal.set_next_deleted-requires
set_next_deleted-requires c =
    let p : Place = (c.args.at.file, c.args.at.ofs) in
    let r = c.requires.can in
    let l = r.1.1 in
    let is1 = c.in_ok-link_last.ensures.heap r.0 l.heap r.1.0 l.low l.is l.there in
    let y = passed_extent r.0 c.place.result l.heap p l.here.h l.here.is in
    let is2 = c.in_ok-set_xprev.ensures.heap (next_passed r.0 c.place.result l.heap) y.h is1 y.is in
    let z = xprev_deleted p c.args.last (next_passed r.0 c.place.result l.heap) (behind_of p 176) l.block.h l.block.rest (passed_deleted r.0 c.place.result l.heap (behind_of p 176) l.block.h l.block.rest l.block.is) in
    let i = is2.inside (behind_of p 176) (deleted l.block.h l.block.rest) z in
    omega (arith, i)

pub returns-clause-heap : goal.returns-clause-heap
returns-clause-heap c = on_ok_weaker c.set_next_deleted.result (λ f o heap named low is there here block.
    let p : Place = (c.args.at.file, c.args.at.ofs) in
    let is1 = c.in_ok-link_last.ensures.heap o heap named low is there in
    let y = passed_extent o c.place.result heap p here.h here.is in
    let is2 = c.in_ok-set_xprev.ensures.heap (next_passed o c.place.result heap) y.h is1 y.is in
    let z = xprev_deleted p c.args.last (next_passed o c.place.result heap) (behind_of p 176) block.h block.rest (passed_deleted o c.place.result heap (behind_of p 176) block.h block.rest block.is) in
    subst (λ (w : DiskLoc × DiskLoc). IsHeap c.set_next_deleted.«new».draft.image (change (behind_of p 176) (deleted_next_set c.args.head) (change p (xprev_set w.0) (next_passed o w.1 heap)))) (λ i. (named i, c.place.ensures i))
    (f (change p (xprev_set c.args.last) (next_passed o c.place.result heap)) block.h block.rest is2 z)) c.set_next_deleted.ensures.heap

pub returns-clause-kept : goal.returns-clause-kept
returns-clause-kept c = on_ok_weaker c.set_next_deleted.result (λ w.
    let p : Place = (c.args.at.file, c.args.at.ofs) in
    let b : Place = behind_of p 176 in
    let r = c.requires.can in
    let l = r.1.1 in
    let is1 = c.in_ok-link_last.ensures.heap r.0 l.heap r.1.0 l.low l.is l.there in
    let y = passed_extent r.0 c.place.result l.heap p l.here.h l.here.is in
    let is2 = c.in_ok-set_xprev.ensures.heap (next_passed r.0 c.place.result l.heap) y.h is1 y.is in
    let z = xprev_deleted p c.args.last (next_passed r.0 c.place.result l.heap) b l.block.h l.block.rest (passed_deleted r.0 c.place.result l.heap b l.block.h l.block.rest l.block.is) in
    let i = is2.inside b (deleted l.block.h l.block.rest) z in
    keeps_both c.args.draft.now.image c.link_last.«new».draft.image c.set_next_deleted.«new».draft.image c.in_ok-link_last.ensures.kept
    (keeps_both c.link_last.«new».draft.image c.set_xprev.«new».draft.image c.set_next_deleted.«new».draft.image
    (keeps_headers c.link_last.«new».draft c.set_xprev.«new».draft c.args.at.file c.args.at.ofs 176 c.in_ok-set_xprev.ensures.written (is1.data_file p (extent y.h) y.is) (is1.behind_header p (extent y.h) y.is) (is1.inside p (extent y.h) y.is))
    (keeps_headers c.set_xprev.«new».draft c.set_next_deleted.«new».draft c.args.at.file (c.args.at.ofs + 176) 16 w (is2.data_file b (deleted l.block.h l.block.rest) z) (is2.behind_header b (deleted l.block.h l.block.rest) z) (omega (arith, i))))) c.set_next_deleted.ensures.written
