use Rattle.std.proofs.Common.{◌≡◌, pos, ◌+◌, length, to_z, rules, ap, sym, ◌∙◌, subst, arith}
use Rattle.std.specs.Prelude.{FitsSigned}
use Rattle.std.specs.Int.{w32}
use Rattle.std.proofs.lemmas.Int.{to_z-of_z, to_z_pos}
use Rattle.std.proofs.lemmas.Result.{on_ok_weaker}
use Rattle.mm_links.specs.Links.{Place}
use Rattle.mm_ranges.specs.Overlay.{Image, bytes_at, laid}
use Rattle.mm_views.specs.State.{Drafting}
use Rattle.mm_frames.specs.RecHeader.{rec_header_of}
use Rattle.mm_frames.specs.declared.rec_header.RecHeader.{RecHeader}
use Rattle.mm_extents.specs.Heap.{live, IsHeap}
use Rattle.mm_extents.specs.Changes.{front_of, rest_of, behind_of, put_two}
use Rattle.mm_extents.proofs.Fields.{keeps_headers, keeps_both}
use Rattle.mm_extents.proofs.BlockWrites.{split_written, long_laid}
use Rattle.mm_extents.proofs.blocks.split_record.Goals as goal

pub overwrite-requires-2-clause-inside : goal.overwrite-requires-2-clause-inside
overwrite-requires-2-clause-inside c =
    let a = c.requires.inside in
    let dlong : length c.deleted_header_frame.result ≡ 16 = search rules in
    let rlong : length c.rec_header_frame.result ≡ 16 = search rules in
    let e = ap (λ (d : Drafting). length (bytes_at d.image c.args.at.file)) c.in_ok-overwrite.ensures.ok ∙ long_laid c.args.draft.now.image c.args.at.file (c.args.at.ofs + c.args.len) c.deleted_header_frame.result (omega (arith, a, dlong)) in
    omega (arith, a, e, rlong)

pub returns-clause-heap : goal.returns-clause-heap
returns-clause-heap c = on_ok_weaker c.overwrite-2.result (λ e heap h room is here fits.
    let p : Place = (c.args.at.file, c.args.at.ofs) in
    let r = c.args.len in
    let dlong : length c.deleted_header_frame.result ≡ 16 = search rules in
    let rlong : length c.rec_header_frame.result ≡ 16 = search rules in
    let old : c.read_record.result ≡ h = c.read_record.ensures ∙ (is.shown p (live h room) here).0 in
    let fe : FitsSigned w32 c.read_record.result.extent_ofs = search rules in
    let fn : FitsSigned w32 c.read_record.result.next_ofs = search rules in
    let fp : FitsSigned w32 c.read_record.result.prev_ofs = search rules in
    let small = c.requires.short in
    let len : to_z w32 r ≡ pos r = to_z_pos w32 r (omega (arith, small)) in
    let rh : rec_header_of c.rec_header_frame.result ≡ record h { length_with_headers = pos r } = c.rec_header_frame.ensures.again ∙ (λ i. record {
      length_with_headers = len i;
      extent_ofs = (to_z-of_z w32 c.read_record.result.extent_ofs fe ∙ ap (λ (x : RecHeader). x.extent_ofs) old) i;
      next_ofs = (to_z-of_z w32 c.read_record.result.next_ofs fn ∙ ap (λ (x : RecHeader). x.next_ofs) old) i;
      prev_ofs = (to_z-of_z w32 c.read_record.result.prev_ofs fp ∙ ap (λ (x : RecHeader). x.prev_ofs) old) i;
    }) in
    let image : c.overwrite-2.«new».draft.image ≡ laid p.0 p.1 c.rec_header_frame.result (laid p.0 (p.1 + r) c.deleted_header_frame.result c.args.draft.now.image) =
    ap (λ (d : Drafting). d.image) e ∙ ap (λ (d : Drafting). laid p.0 p.1 c.rec_header_frame.result d.image) c.in_ok-overwrite.ensures.ok in
    subst (λ (i : Image). IsHeap i (put_two p (front_of r h room) (behind_of p r) (rest_of r c.args.rest.now room) heap)) (sym image)
    (split_written c.args.draft.now.image heap p h room is here r c.deleted_header_frame.result c.rec_header_frame.result c.args.rest.now dlong rlong c.requires.some fits c.deleted_header_frame.ensures.again rh)) c.overwrite-2.ensures.ok

pub returns-clause-kept : goal.returns-clause-kept
returns-clause-kept c = on_ok_weaker c.overwrite-2.result (λ e file behind.
    let a = c.requires.inside in
    let dlong : length c.deleted_header_frame.result ≡ 16 = search rules in
    let rlong : length c.rec_header_frame.result ≡ 16 = search rules in
    let long = ap (λ (d : Drafting). length (bytes_at d.image c.args.at.file)) c.in_ok-overwrite.ensures.ok ∙ long_laid c.args.draft.now.image c.args.at.file (c.args.at.ofs + c.args.len) c.deleted_header_frame.result (omega (arith, a, dlong)) in
    keeps_both c.args.draft.now.image c.overwrite.«new».draft.image c.overwrite-2.«new».draft.image
    (keeps_headers c.args.draft.now c.overwrite.«new».draft c.args.at.file (c.args.at.ofs + c.args.len) 16 (record { bytes = c.deleted_header_frame.result; long = dlong; is = c.in_ok-overwrite.ensures.ok }) file (omega (arith, behind)) a)
    (keeps_headers c.overwrite.«new».draft c.overwrite-2.«new».draft c.args.at.file c.args.at.ofs 16 (record { bytes = c.rec_header_frame.result; long = rlong; is = e }) file behind (omega (arith, a, long)))) c.overwrite-2.ensures.ok
