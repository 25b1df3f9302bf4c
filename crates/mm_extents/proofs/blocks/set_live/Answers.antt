use Rattle.std.proofs.Common.{◌≡◌, ℤ, length, rules, ap, sym, ◌∙◌, subst}
use Rattle.std.specs.Int.{w32}
use Rattle.std.proofs.lemmas.Int.{to_z-of_z}
use Rattle.std.proofs.lemmas.Result.{on_ok_weaker}
use Rattle.mm_base.specs.Bytes.{part}
use Rattle.mm_links.specs.Links.{Place}
use Rattle.mm_ranges.specs.Overlay.{bytes_at}
use Rattle.mm_views.specs.State.{Drafting}
use Rattle.mm_frames.specs.RecHeader.{rec_header_of}
use Rattle.mm_frames.specs.declared.rec_header.RecHeader.{RecHeader}
use Rattle.mm_extents.specs.Heap.{IsHeap, change}
use Rattle.mm_extents.specs.Changes.{taken}
use Rattle.mm_extents.proofs.Fields.{field_is}
use Rattle.mm_extents.proofs.BlockWrites.{taken_written}
use Rattle.mm_extents.proofs.blocks.set_live.Goals as goal

pub returns-clause-heap : goal.returns-clause-heap
returns-clause-heap c = on_ok_weaker c.overwrite.result (λ e heap h rest is here.
    let p : Place = (c.args.at.file, c.args.at.ofs) in
    let a = c.args.next_ofs in
    let b = c.args.prev_ofs in
    let long : length c.put_prev_ofs.«new».bytes ≡ 16 = search rules in
    let first : rec_header_of (part 0 16 c.put_next_ofs.«new».bytes) ≡ record (rec_header_of (part 0 16 c.read.«new».out)) { next_ofs = a } =
    c.put_next_ofs.ensures.again ∙ ap (λ (y : ℤ). record (rec_header_of (part 0 16 c.read.«new».out)) { next_ofs = y }) (to_z-of_z w32 a c.ranges.next_ofs) in
    let second : rec_header_of (part 0 16 c.put_prev_ofs.«new».bytes) ≡ record (rec_header_of (part 0 16 c.read.«new».out)) { next_ofs = a; prev_ofs = b } =
    c.put_prev_ofs.ensures.again ∙ ap (λ (y : ℤ). record (rec_header_of (part 0 16 c.put_next_ofs.«new».bytes)) { prev_ofs = y }) (to_z-of_z w32 b c.ranges.prev_ofs) ∙ ap (λ (x : RecHeader). record x { prev_ofs = b }) first in
    subst (λ (d : Drafting). IsHeap d.image (change p (taken a b) heap)) (sym e)
    (taken_written c.args.draft.now.image heap p h rest c.put_prev_ofs.«new».bytes is here long a b
    (field_is rec_header_of (λ (x : RecHeader). record x { next_ofs = a; prev_ofs = b }) p.1 16 (bytes_at c.args.draft.now.image p.0) c.read.«new».out c.put_prev_ofs.«new».bytes c.requires c.read.ensures long second))) c.overwrite.ensures.ok
