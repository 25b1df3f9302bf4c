use Rattle.std.proofs.Common.{sym, subst}
use Rattle.std.proofs.lemmas.Result.{on_ok_weaker}
use Rattle.mm_links.specs.Links.{Place}
use Rattle.mm_views.specs.State.{Drafting}
use Rattle.mm_extents.specs.Heap.{IsHeap, change}
use Rattle.mm_extents.specs.Changes.{room_set}
use Rattle.mm_extents.proofs.Fields.{room_written}
use Rattle.mm_extents.proofs.cells.set_room.Goals as goal

pub returns-clause-heap : goal.returns-clause-heap
returns-clause-heap c = on_ok_weaker c.overwrite.result (λ e heap h room is here fits.
    let p : Place = (c.args.at.file, c.args.at.ofs) in
    subst (λ (d : Drafting). IsHeap d.image (change p (room_set c.args.k c.args.bytes.now) heap)) (sym e)
    (room_written c.args.draft.now.image heap p h room c.args.bytes.now c.args.k is here fits)) c.overwrite.ensures.ok
