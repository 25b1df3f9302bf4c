use Rattle.std.proofs.Common.{◌≡◌, length, rules, sym, subst}
use Rattle.std.proofs.lemmas.Result.{on_ok_weaker}
use Rattle.mm_links.specs.Links.{Place}
use Rattle.mm_ranges.specs.Overlay.{bytes_at}
use Rattle.mm_views.specs.State.{Drafting}
use Rattle.mm_frames.specs.ExtentHeader.{extent_header_of}
use Rattle.mm_frames.specs.declared.extent_header.ExtentHeader.{ExtentHeader}
use Rattle.mm_extents.specs.Heap.{IsHeap, change}
use Rattle.mm_extents.specs.Changes.{xnext_set}
use Rattle.mm_extents.proofs.Fields.{field_is, xnext_written}
use Rattle.mm_extents.proofs.cells.set_xnext.Goals as goal

pub returns-clause-heap : goal.returns-clause-heap
returns-clause-heap c = on_ok_weaker c.overwrite.result (λ e heap h is here.
    let p : Place = (c.args.at.file, c.args.at.ofs) in
    let z = c.args.xnext in
    let long : length c.put_xnext.«new».bytes ≡ 176 = search rules in
    subst (λ (d : Drafting). IsHeap d.image (change p (xnext_set z) heap)) (sym e)
    (xnext_written c.args.draft.now.image heap p h c.put_xnext.«new».bytes is here long z
    (field_is extent_header_of (λ (x : ExtentHeader). record x { xnext = z }) p.1 176 (bytes_at c.args.draft.now.image p.0) c.read.«new».out c.put_xnext.«new».bytes c.requires c.read.ensures long c.put_xnext.ensures.again))) c.overwrite.ensures.ok
