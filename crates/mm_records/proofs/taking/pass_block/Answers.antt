use Rattle.std.proofs.Common.{Option, sym, subst, arith}
use Rattle.std.proofs.lemmas.Result.{on_ok_weaker}
use Rattle.mm_links.specs.Links.{Place}
use Rattle.mm_extents.specs.Heap.{deleted, IsHeap}
use Rattle.mm_records.specs.Taking.{list_passed}
use Rattle.mm_records.proofs.Passing.{kept_by}
use Rattle.mm_records.proofs.LastLinks.{block_named}
use Rattle.mm_records.proofs.taking.pass_block.Goals as goal

pub set_next_deleted-requires : goal.set_next_deleted-requires
set_next_deleted-requires c =
    let f = c.requires.1 in
    let is = c.in-Some.ensures.some c.requires.0 f.named f.low in
    let b = block_named f.heap c.requires.0 (c.in-Some.block.file, c.in-Some.block.ofs) is f.block in
    let i = f.is.inside (c.in-Some.block.file, c.in-Some.block.ofs) (deleted b.h b.rest) b.is in
    omega (arith, i)

pub returns-in-Some-clause-heap : goal.returns-in-Some-clause-heap
returns-in-Some-clause-heap c = on_ok_weaker c.set_next_deleted.result (λ f o heap named low is block.
    let e = c.in-Some.ensures.some o named low in
    let b = block_named heap o (c.in-Some.block.file, c.in-Some.block.ofs) e block in
    subst (λ (x : Option Place). IsHeap c.set_next_deleted.«new».draft.image (list_passed x c.args.next heap)) (sym e) (f heap b.h b.rest is b.is)) c.set_next_deleted.ensures.heap

pub returns-in-Some-clause-kept : goal.returns-in-Some-clause-kept
returns-in-Some-clause-kept c =
    let f = c.requires.1 in
    let is = c.in-Some.ensures.some c.requires.0 f.named f.low in
    let q : Place = (c.in-Some.block.file, c.in-Some.block.ofs) in
    let b = block_named f.heap c.requires.0 q is f.block in
    let i = f.is.inside q (deleted b.h b.rest) b.is in
    on_ok_weaker c.set_next_deleted.result (λ w. kept_by c.args.draft.now c.set_next_deleted.«new».draft c.in-Some.block.file c.in-Some.block.ofs 16 w
    (record { data_file = f.is.data_file q (deleted b.h b.rest) b.is; behind = f.is.behind_header q (deleted b.h b.rest) b.is; inside = omega (arith, i) })) c.set_next_deleted.ensures.written
