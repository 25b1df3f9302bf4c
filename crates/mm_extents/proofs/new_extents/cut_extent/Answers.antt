use Rattle.std.proofs.Common.{◌≡◌, ◌∙◌, ℕ, ◌+◌, ◌-◌, ◌≤◌, false, length, take, sym, ap, subst, arith, length-take-le}
use Rattle.std.specs.Prelude.{◌==◌}
use Rattle.std.proofs.lemmas.Result.{on_ok_weaker}
use Rattle.mm_base.specs.Bytes.{part}
use Rattle.mm_base.proofs.Parts.{length-part}
use Rattle.mm_links.specs.Links.{Place}
use Rattle.mm_ranges.specs.Overlay.{Image, bytes_at, laid}
use Rattle.mm_views.specs.State.{Drafting}
use Rattle.mm_frames.specs.FileHeader.{file_header_bytes}
use Rattle.mm_extents.specs.Heap.{IsHeap}
use Rattle.mm_extents.specs.Files.{file_len, header_with, unused_in, FilesStand}
use Rattle.mm_extents.specs.FreeExtents.{with_extent}
use Rattle.mm_extents.proofs.FileLaws.{file_len_most}
use Rattle.mm_extents.proofs.Headers.{unused_from, long_there}
use Rattle.mm_extents.proofs.HeaderWrites.{header_long, zeros_there}
use Rattle.mm_ranges.specs.declared.limits.TheConstants.{NS_FILE}
use Rattle.mm_extents.specs.Changes.{len_of}
use Rattle.mm_extents.proofs.Writes.{laid_elsewhere, len_laid}
use Rattle.mm_extents.proofs.RoomFalls.{unused_kept, cut_lowers}
use Rattle.mm_extents.proofs.MadeFiles.{ns_apart}
use Rattle.mm_extents.proofs.BlockWrites.{long_laid}
use Rattle.mm_extents.proofs.FreeWalks.{both_ok}
use Rattle.mm_extents.proofs.CutSteps.{heap_stays, files_again, unused_off, unused_now, clear, has_free, cut_off}
use Rattle.mm_extents.proofs.new_extents.cut_extent.Goals as goal

pub overflow_add-at : goal.overflow_add-at
overflow_add-at c =
    let most = file_len_most c.args.at.file in
    let fits = c.requires.fits in
    omega (arith, most, fits)

pub put_fields-requires-clause-there : goal.put_fields-requires-clause-there
put_fields-requires-clause-there c =
    let r = c.requires.rest in
    let f = r.1.1.1.1.0 in
    let known = r.1.1.1.1.1 in
    let long = long_there c.args.draft.now.image c.args.at.file (file_len c.args.at.file) c.requires.there in
    let most = file_len_most c.args.at.file in
    let from = unused_from c.args.draft.now.image c.args.at.file (file_len c.args.at.file) c.args.at.ofs f.files c.requires.file c.requires.there known in
    let fits = c.requires.fits in
    omega (arith, long, from, fits)

pub put_fields-requires-clause-zeros : goal.put_fields-requires-clause-zeros
put_fields-requires-clause-zeros c =
    let r = c.requires.rest in
    let f = r.1.1.1.1.0 in
    let known = r.1.1.1.1.1 in
    let h = f.files.headers c.args.at.file (file_len c.args.at.file) c.requires.file c.requires.there in
    zeros_there c.args.at.file h.unused (bytes_at c.args.draft.now.image c.args.at.file) h.spelled

pub put_extent-requires-clause-short : goal.put_extent-requires-clause-short
put_extent-requires-clause-short c =
    let most = file_len_most c.args.at.file in
    let fits = c.requires.fits in
    omega (arith, most, fits)

pub put_extent-requires-clause-behind : goal.put_extent-requires-clause-behind
put_extent-requires-clause-behind c =
    let r = c.requires.rest in
    let f = r.1.1.1.1.0 in
    let known = r.1.1.1.1.1 in
    unused_from c.args.draft.now.image c.args.at.file (file_len c.args.at.file) c.args.at.ofs f.files c.requires.file c.requires.there known

pub put_extent-requires-clause-inside : goal.put_extent-requires-clause-inside
put_extent-requires-clause-inside c =
    let long = long_there c.args.draft.now.image c.args.at.file (file_len c.args.at.file) c.requires.there in
    let most = file_len_most c.args.at.file in
    let fits = c.requires.fits in
    let hl = header_long c.args.at.file (c.args.at.ofs + c.args.len) in
    let tl = length-take-le 24 (file_header_bytes (header_with c.args.at.file (c.args.at.ofs + c.args.len))) (omega (arith, hl)) in
    let l = c.requires.long in
    let same = ap (λ (d : Drafting). length (bytes_at d.image c.args.at.file)) c.in_ok-put_fields.ensures.ok ∙ long_laid c.args.draft.now.image c.args.at.file 0 (take 24 (file_header_bytes (header_with c.args.at.file (c.args.at.ofs + c.args.len)))) (omega (arith, tl, long, l, fits)) in
    omega (arith, long, same, fits)

pub returns-clause-ok : goal.returns-clause-ok
returns-clause-ok c = on_ok_weaker c.put_extent.result (λ w db heap chain ends f known isnt.
    let e : Place = (c.args.at.file, c.args.at.ofs) in
    let n = c.args.len in
    let long = long_there c.args.draft.now.image c.args.at.file (file_len c.args.at.file) c.requires.there in
    let most = file_len_most c.args.at.file in
    let fits = c.requires.fits in
    let l = c.requires.long in
    let from = unused_from c.args.draft.now.image e.0 (file_len e.0) e.1 f.files c.requires.file c.requires.there known in
    let bytes = take 24 (file_header_bytes (header_with e.0 (e.1 + n))) in
    let hl = header_long e.0 (e.1 + n) in
    let tl = length-take-le 24 (file_header_bytes (header_with e.0 (e.1 + n))) (omega (arith, hl)) in
    let mid : c.put_fields.«new».draft.image ≡ laid e.0 0 bytes c.args.draft.now.image = ap (λ (d : Drafting). d.image) c.in_ok-put_fields.ensures.ok in
    let there : 8192 ≤ length (bytes_at c.args.draft.now.image e.0) = omega (arith, long, from, fits) in
    let header : part 0 8192 (bytes_at (laid e.0 0 bytes c.args.draft.now.image) e.0) ≡ file_header_bytes (header_with e.0 (e.1 + n)) = ap (λ (i : Image). part 0 8192 (bytes_at i e.0)) (sym mid) ∙ c.in_ok-put_fields.ensures.header in
    let is1 : IsHeap c.put_fields.«new».draft.image heap = subst (λ (i : Image). IsHeap i heap) (sym mid) (heap_stays c.args.draft.now.image e.0 bytes (omega (arith, tl)) there c.requires.file heap f.shown) in
    let fs1 : FilesStand c.put_fields.«new».draft.image = subst (λ (i : Image). FilesStand i) (sym mid) (files_again c.args.draft.now.image e.0 e.1 n f.files c.requires.file known (omega (arith, from)) fits bytes (omega (arith, tl)) (omega (arith, tl)) c.requires.there there header) in
    let un1 = ap (λ (i : Image). unused_in i e.0) mid ∙ unused_now c.args.draft.now.image e.0 e.1 n f.files c.requires.file known (omega (arith, from)) fits bytes (omega (arith, tl)) (omega (arith, tl)) c.requires.there there header in
    let un2 : (g : ℕ) → (g == e.0) ≡ false → unused_in c.put_fields.«new».draft.image g ≡ unused_in c.args.draft.now.image g = λ g m. ap (λ (i : Image). unused_in i g) mid ∙ unused_off c.args.draft.now.image e.0 e.1 n f.files c.requires.file known (omega (arith, from)) fits bytes (omega (arith, tl)) (omega (arith, tl)) c.requires.there there header g m in
    let same = ap (λ (d : Drafting). length (bytes_at d.image e.0)) c.in_ok-put_fields.ensures.ok ∙ long_laid c.args.draft.now.image e.0 0 bytes (omega (arith, tl, there)) in
    let rest = part (e.1 + 192) (n - 192) (bytes_at c.put_fields.«new».draft.image e.0) in
    let rest_long : length rest ≡ n - 192 = length-part (e.1 + 192) (n - 192) (bytes_at c.put_fields.«new».draft.image e.0) (omega (arith, same, long, fits, l)) in
    let is3 = w.0 heap is1 (clear c.args.draft.now.image db heap chain ends f e n known c.requires.pages l) in (
      with_extent e c.args.name.now n rest heap,
      (
        has_free c.args.draft.now.image db heap chain ends f e n known c.requires.pages l c.put_fields.«new».draft.image c.put_extent.«new».draft.image fs1 un1 un2 w.1 c.args.name.now c.put_extent.ensures.named isnt rest rest_long is3,
        cut_off c.args.draft.now.image db heap chain ends f e n known c.requires.pages l c.put_fields.«new».draft.image c.put_extent.«new».draft.image fs1 un1 un2 w.1 c.args.name.now c.put_extent.ensures.named isnt rest rest_long is3,
      ),
    )) (both_ok _ _ c.put_extent.result c.put_extent.ensures.heap c.put_extent.ensures.kept)

pub returns-clause-ns : goal.returns-clause-ns
returns-clause-ns c = on_ok_weaker c.put_extent.result (λ k.
    k.ns ∙ ap (λ (d : Drafting). bytes_at d.image NS_FILE) c.in_ok-put_fields.ensures.ok
    ∙ laid_elsewhere c.args.draft.now.image c.args.at.file 0 NS_FILE (take 24 (file_header_bytes (header_with c.args.at.file (c.args.at.ofs + c.args.len)))) (ns_apart c.args.at.file c.requires.file)) c.put_extent.ensures.kept

pub returns-clause-room : goal.returns-clause-room
returns-clause-room c =
    let e : Place = (c.args.at.file, c.args.at.ofs) in
    let n = c.args.len in
    let f = c.requires.rest.1.1.1.1.0 in
    let known = c.requires.rest.1.1.1.1.1 in
    let long = long_there c.args.draft.now.image c.args.at.file (file_len c.args.at.file) c.requires.there in
    let fits = c.requires.fits in
    let from = unused_from c.args.draft.now.image e.0 (file_len e.0) e.1 f.files c.requires.file c.requires.there known in
    let l = c.requires.long in
    let bytes = take 24 (file_header_bytes (header_with e.0 (e.1 + n))) in
    let hl = header_long e.0 (e.1 + n) in
    let tl = length-take-le 24 (file_header_bytes (header_with e.0 (e.1 + n))) (omega (arith, hl)) in
    let mid : c.put_fields.«new».draft.image ≡ laid e.0 0 bytes c.args.draft.now.image = ap (λ (d : Drafting). d.image) c.in_ok-put_fields.ensures.ok in
    let there : 8192 ≤ length (bytes_at c.args.draft.now.image e.0) = omega (arith, long, from, fits) in
    let header : part 0 8192 (bytes_at (laid e.0 0 bytes c.args.draft.now.image) e.0) ≡ file_header_bytes (header_with e.0 (e.1 + n)) = ap (λ (i : Image). part 0 8192 (bytes_at i e.0)) (sym mid) ∙ c.in_ok-put_fields.ensures.header in
    let un1 = ap (λ (i : Image). unused_in i e.0) mid ∙ unused_now c.args.draft.now.image e.0 e.1 n f.files c.requires.file known (omega (arith, from)) fits bytes (omega (arith, tl)) (omega (arith, tl)) c.requires.there there header in
    let un2 : (g : ℕ) → (g == e.0) ≡ false → unused_in c.put_fields.«new».draft.image g ≡ unused_in c.args.draft.now.image g = λ g m. ap (λ (i : Image). unused_in i g) mid ∙ unused_off c.args.draft.now.image e.0 e.1 n f.files c.requires.file known (omega (arith, from)) fits bytes (omega (arith, tl)) (omega (arith, tl)) c.requires.there there header g m in
    let lens : (g : ℕ) → len_of c.put_fields.«new».draft.image g ≡ len_of c.args.draft.now.image g = λ g. ap (λ (i : Image). len_of i g) mid ∙ len_laid c.args.draft.now.image e.0 0 bytes g (omega (arith, tl)) (omega (arith, tl, there)) in
    on_ok_weaker c.put_extent.result (λ k. cut_lowers c.args.draft.now.image c.put_extent.«new».draft.image e.0 e.1 n (λ g. k.lengths g ∙ lens g)
    (λ g m. unused_kept c.put_fields.«new».draft.image c.put_extent.«new».draft.image k g ∙ un2 g m) known (unused_kept c.put_fields.«new».draft.image c.put_extent.«new».draft.image k e.0 ∙ un1)) c.put_extent.ensures.kept
