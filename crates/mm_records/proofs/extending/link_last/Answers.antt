use Rattle.std.proofs.Common.{Option, sym, subst, arith}
use Rattle.std.proofs.lemmas.Result.{on_ok_weaker}
use Rattle.mm_links.specs.Links.{Place}
use Rattle.mm_extents.specs.Heap.{extent, IsHeap}
use Rattle.mm_extents.specs.FreeExtents.{next_passed}
use Rattle.mm_extents.proofs.Fields.{keeps_headers}
use Rattle.mm_extents.proofs.FreeWalks.{extent_named}
use Rattle.mm_records.proofs.extending.link_last.Goals as goal

pub named_spot-requires : goal.named_spot-requires
named_spot-requires c = (c.requires.0, (c.requires.1.1.0, c.requires.1.1.1.low))

pub set_xnext-requires : goal.set_xnext-requires
set_xnext-requires c =
    let f = c.requires.1.1.1 in
    let is = c.in-Some.ensures.some c.requires.0 c.requires.1.1.0 f.low in
    let b = extent_named f.heap c.requires.0 (c.in-Some.extent.file, c.in-Some.extent.ofs) is f.there in
    let i = f.is.inside (c.in-Some.extent.file, c.in-Some.extent.ofs) (extent b.h) b.is in
    omega (arith, i)

pub returns-in-Some-clause-heap : goal.returns-in-Some-clause-heap
returns-in-Some-clause-heap c = on_ok_weaker c.set_xnext.result (λ f o heap named low is block.
    let e = c.in-Some.ensures.some o named low in
    let b = extent_named heap o (c.in-Some.extent.file, c.in-Some.extent.ofs) e block in
    subst (λ (x : Option Place). IsHeap c.set_xnext.«new».draft.image (next_passed x c.args.next heap)) (sym e) (f heap b.h is b.is)) c.set_xnext.ensures.heap

pub returns-in-Some-clause-kept : goal.returns-in-Some-clause-kept
returns-in-Some-clause-kept c =
    let f = c.requires.1.1.1 in
    let is = c.in-Some.ensures.some c.requires.0 c.requires.1.1.0 f.low in
    let q : Place = (c.in-Some.extent.file, c.in-Some.extent.ofs) in
    let b = extent_named f.heap c.requires.0 q is f.there in
    let i = f.is.inside q (extent b.h) b.is in
    on_ok_weaker c.set_xnext.result (λ w. keeps_headers c.args.draft.now c.set_xnext.«new».draft c.in-Some.extent.file c.in-Some.extent.ofs 176 w (f.is.data_file q (extent b.h) b.is) (f.is.behind_header q (extent b.h) b.is) i) c.set_xnext.ensures.written
