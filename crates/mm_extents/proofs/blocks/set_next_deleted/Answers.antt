use Rattle.std.proofs.Common.{◌≡◌, length, rules, sym, subst}
use Rattle.std.proofs.lemmas.Result.{on_ok_weaker}
use Rattle.mm_links.specs.Links.{Place}
use Rattle.mm_ranges.specs.Overlay.{bytes_at}
use Rattle.mm_views.specs.State.{Drafting}
use Rattle.mm_frames.specs.DeletedHeader.{deleted_header_of}
use Rattle.mm_frames.specs.declared.deleted_header.DeletedHeader.{DeletedHeader}
use Rattle.mm_extents.specs.Heap.{IsHeap, change}
use Rattle.mm_extents.specs.Changes.{deleted_next_set}
use Rattle.mm_extents.proofs.Fields.{field_is}
use Rattle.mm_extents.proofs.BlockWrites.{relinked_written}
use Rattle.mm_extents.proofs.blocks.set_next_deleted.Goals as goal

pub returns-clause-heap : goal.returns-clause-heap
returns-clause-heap c = on_ok_weaker c.overwrite.result (λ e heap h rest is here.
    let p : Place = (c.args.at.file, c.args.at.ofs) in
    let z = c.args.next_deleted in
    let long : length c.put_next_deleted.«new».bytes ≡ 16 = search rules in
    subst (λ (d : Drafting). IsHeap d.image (change p (deleted_next_set z) heap)) (sym e)
    (relinked_written c.args.draft.now.image heap p h rest c.put_next_deleted.«new».bytes is here long z
    (field_is deleted_header_of (λ (x : DeletedHeader). record x { next_deleted = z }) p.1 16 (bytes_at c.args.draft.now.image p.0) c.read.«new».out c.put_next_deleted.«new».bytes c.requires c.read.ensures long c.put_next_deleted.ensures.again))) c.overwrite.ensures.ok
