use Rattle.std.proofs.Common.{◌≡◌, ◌∙◌, pos, ◌+◌, ◌-◌, length, to_z, rules, ap, sym, subst, arith}
use Rattle.std.specs.Int.{w32}
use Rattle.std.proofs.lemmas.Int.{to_z_pos}
use Rattle.std.proofs.lemmas.Result.{on_ok_weaker}
use Rattle.mm_base.specs.Bytes.{part}
use Rattle.mm_links.specs.Links.{Place}
use Rattle.mm_ranges.specs.Overlay.{Image, bytes_at, laid}
use Rattle.mm_views.specs.State.{Drafting}
use Rattle.mm_frames.specs.DeletedHeader.{deleted_header_of}
use Rattle.mm_frames.specs.ExtentHeader.{extent_header_of}
use Rattle.mm_extents.specs.Heap.{IsHeap}
use Rattle.mm_extents.specs.FreeExtents.{header_made, whole_block, with_extent}
use Rattle.mm_extents.proofs.Fields.{keeps_headers, keeps_both}
use Rattle.mm_extents.proofs.BlockWrites.{long_laid}
use Rattle.mm_extents.proofs.NewWrites.{new_written}
use Rattle.mm_extents.proofs.new_extents.put_extent.Goals as goal

pub overwrite-requires-2-clause-inside : goal.overwrite-requires-2-clause-inside
overwrite-requires-2-clause-inside c =
    let a = c.requires.inside in
    let l = c.requires.long in
    let hlong : length c.extent_header_frame.result ≡ 176 = search rules in
    let dlong : length c.deleted_header_frame.result ≡ 16 = search rules in
    let e = ap (λ (d : Drafting). length (bytes_at d.image c.args.at.file)) c.in_ok-overwrite.ensures.ok ∙ long_laid c.args.draft.now.image c.args.at.file c.args.at.ofs c.extent_header_frame.result (omega (arith, a, l, hlong)) in
    omega (arith, a, l, e, dlong)

pub returns-clause-heap : goal.returns-clause-heap
returns-clause-heap c = on_ok_weaker c.overwrite-2.result (λ e heap is clear.
    let p : Place = (c.args.at.file, c.args.at.ofs) in
    let n = c.args.len in
    let s = c.requires.short in
    let l = c.requires.long in
    let hlong : length c.extent_header_frame.result ≡ 176 = search rules in
    let dlong : length c.deleted_header_frame.result ≡ 16 = search rules in
    let hh : extent_header_of c.extent_header_frame.result ≡ header_made p c.args.name.now n = c.extent_header_frame.ensures.again ∙ c.new_header-header.ensures.is in
    let e1 : to_z w32 (n - 176) ≡ pos (n - 176) = to_z_pos w32 (n - 176) (omega (arith, s)) in
    let e2 : to_z w32 c.args.at.ofs ≡ pos c.args.at.ofs = to_z_pos w32 c.args.at.ofs (omega (arith, s)) in
    let dh : deleted_header_of c.deleted_header_frame.result ≡ whole_block p n = c.deleted_header_frame.ensures.again ∙ (λ i. record { length_with_headers = e1 i; extent_ofs = e2 i; next_deleted = c.no_place.ensures i }) in
    let image : c.overwrite-2.«new».draft.image ≡ laid p.0 (p.1 + 176) c.deleted_header_frame.result (laid p.0 p.1 c.extent_header_frame.result c.args.draft.now.image) =
    ap (λ (d : Drafting). d.image) e ∙ ap (λ (d : Drafting). laid p.0 (p.1 + 176) c.deleted_header_frame.result d.image) c.in_ok-overwrite.ensures.ok in
    subst (λ (i : Image). IsHeap i (with_extent p c.args.name.now n (part (p.1 + 192) (n - 192) (bytes_at c.args.draft.now.image p.0)) heap)) (sym image)
    (new_written c.args.draft.now.image heap p n is clear c.requires.file c.requires.behind c.requires.inside l c.extent_header_frame.result c.deleted_header_frame.result hlong dlong (header_made p c.args.name.now n) (whole_block p n) hh dh)) c.overwrite-2.ensures.ok

pub returns-clause-kept : goal.returns-clause-kept
returns-clause-kept c = on_ok_weaker c.overwrite-2.result (λ e.
    let a = c.requires.inside in
    let l = c.requires.long in
    let b = c.requires.behind in
    let hlong : length c.extent_header_frame.result ≡ 176 = search rules in
    let dlong : length c.deleted_header_frame.result ≡ 16 = search rules in
    let long = ap (λ (d : Drafting). length (bytes_at d.image c.args.at.file)) c.in_ok-overwrite.ensures.ok ∙ long_laid c.args.draft.now.image c.args.at.file c.args.at.ofs c.extent_header_frame.result (omega (arith, a, l, hlong)) in
    keeps_both c.args.draft.now.image c.overwrite.«new».draft.image c.overwrite-2.«new».draft.image
    (keeps_headers c.args.draft.now c.overwrite.«new».draft c.args.at.file c.args.at.ofs 176 (record { bytes = c.extent_header_frame.result; long = hlong; is = c.in_ok-overwrite.ensures.ok }) c.requires.file b (omega (arith, a, l)))
    (keeps_headers c.overwrite.«new».draft c.overwrite-2.«new».draft c.args.at.file (c.args.at.ofs + 176) 16 (record { bytes = c.deleted_header_frame.result; long = dlong; is = e }) c.requires.file (omega (arith, b)) (omega (arith, a, l, long)))) c.overwrite-2.ensures.ok
