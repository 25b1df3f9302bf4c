use Rattle.std.proofs.Common.{◌≡◌, ◌∙◌, ℤ, pos, ◌+◌, length, rules, sym, ap, subst, arith}
use Rattle.std.specs.Prelude.{FitsSigned}
use Rattle.std.specs.Int.{w32}
use Rattle.std.proofs.lemmas.Int.{to_z-of_z}
use Rattle.mm_links.specs.Links.{Place, last_of}
use Rattle.mm_base.specs.declared.place.DiskLoc.{DiskLoc}
use Rattle.mm_ranges.specs.Overlay.{Image, bytes_at, laid}
use Rattle.mm_views.specs.State.{Drafting}
use Rattle.mm_frames.specs.ExtentHeader.{extent_header_of}
use Rattle.mm_frames.specs.declared.extent_header.ExtentHeader.{ExtentHeader}
use Rattle.mm_extents.specs.Heap.{extent, IsHeap}
use Rattle.mm_extents.specs.Changes.{loc}
use Rattle.mm_extents.specs.FreeExtents.{next_passed}
use Rattle.mm_extents.specs.Dropping.{header_freed, joined}
use Rattle.mm_extents.proofs.Fields.{keeps_headers, keeps_both}
use Rattle.mm_extents.proofs.FreeWalks.{same_length}
use Rattle.mm_extents.proofs.DropSteps.{asks, low_here, last_low, last_there, here1, inside_used, long, freed_written, freed_free}
use Rattle.mm_extents.proofs.dropping.free_extent.Goals as goal

pub read_extent-requires : goal.read_extent-requires
read_extent-requires c = let i = c.requires.1.1.1.0.shown.inside (c.args.at.file, c.args.at.ofs) (extent c.requires.1.1.1.1.h) c.requires.1.1.1.1.is in omega (arith, i)

pub freed_header-header-requires-clause-file : goal.freed_header-header-requires-clause-file
freed_header-header-requires-clause-file c = (low_here c.args.draft.now.image c.args.name.now c.requires.0 c.requires.1.0 c.args.free.now c.requires.1.1.1.0 (c.args.at.file, c.args.at.ofs) c.requires.1.1.0 c.requires.1.1.1.1).file

pub freed_header-header-requires-clause-ofs : goal.freed_header-header-requires-clause-ofs
freed_header-header-requires-clause-ofs c = (low_here c.args.draft.now.image c.args.name.now c.requires.0 c.requires.1.0 c.args.free.now c.requires.1.1.1.0 (c.args.at.file, c.args.at.ofs) c.requires.1.1.0 c.requires.1.1.1.1).ofs

pub place-requires-clause-file : goal.place-requires-clause-file
place-requires-clause-file c = (low_here c.args.draft.now.image c.args.name.now c.requires.0 c.requires.1.0 c.args.free.now c.requires.1.1.1.0 (c.args.at.file, c.args.at.ofs) c.requires.1.1.0 c.requires.1.1.1.1).file

pub place-requires-clause-ofs : goal.place-requires-clause-ofs
place-requires-clause-ofs c =
    let low = (low_here c.args.draft.now.image c.args.name.now c.requires.0 c.requires.1.0 c.args.free.now c.requires.1.1.1.0 (c.args.at.file, c.args.at.ofs) c.requires.1.1.0 c.requires.1.1.1.1).ofs in
    omega (arith, low)

pub pass_next-requires : goal.pass_next-requires
pass_next-requires c = asks c.args.draft.now.image c.args.name.now c.requires.0 c.requires.1.0 c.args.free.now c.requires.1.1.1.0 (c.args.at.file, c.args.at.ofs) c.requires.1.1.0 c.requires.1.1.1.1

pub overwrite-requires-clause-inside : goal.overwrite-requires-clause-inside
overwrite-requires-clause-inside c =
    let hlong : length c.extent_header_frame.result ≡ 176 = search rules in
    let i = c.requires.1.1.1.0.shown.inside (c.args.at.file, c.args.at.ofs) (extent c.requires.1.1.1.1.h) c.requires.1.1.1.1.is in
    let l = same_length c.args.draft.now.image c.pass_next.«new».draft.image c.in_ok-pass_next.ensures.kept c.args.at.file in
    omega (arith, i, l, hlong)

pub place-requires-2-clause-file : goal.place-requires-2-clause-file
place-requires-2-clause-file c = (low_here c.args.draft.now.image c.args.name.now c.requires.0 c.requires.1.0 c.args.free.now c.requires.1.1.1.0 (c.args.at.file, c.args.at.ofs) c.requires.1.1.0 c.requires.1.1.1.1).file

pub place-requires-2-clause-ofs : goal.place-requires-2-clause-ofs
place-requires-2-clause-ofs c =
    let low = (low_here c.args.draft.now.image c.args.name.now c.requires.0 c.requires.1.0 c.args.free.now c.requires.1.1.1.0 (c.args.at.file, c.args.at.ofs) c.requires.1.1.0 c.requires.1.1.1.1).ofs in
    omega (arith, low)

pub returns-clause-kept : goal.returns-clause-kept
returns-clause-kept c =
    let p : Place = (c.args.at.file, c.args.at.ofs) in
    let u = c.requires.1.1.1.1 in
    let f = c.requires.1.1.1.0 in
    let hlong : length c.extent_header_frame.result ≡ 176 = search rules in
    let i = f.shown.inside p (extent u.h) u.is in
    let l = same_length c.args.draft.now.image c.pass_next.«new».draft.image c.in_ok-pass_next.ensures.kept c.args.at.file in
    keeps_both c.args.draft.now.image c.pass_next.«new».draft.image c.overwrite.«new».draft.image c.in_ok-pass_next.ensures.kept
    (keeps_headers c.pass_next.«new».draft c.overwrite.«new».draft c.args.at.file c.args.at.ofs 176 (record { bytes = c.extent_header_frame.result; long = hlong; is = c.in_ok-overwrite.ensures.ok }) (f.shown.data_file p (extent u.h) u.is) (f.shown.behind_header p (extent u.h) u.is) (omega (arith, i, l)))

pub returns-clause-ok : goal.returns-clause-ok
returns-clause-ok c = λ heap chain n f u.
    let p : Place = (c.args.at.file, c.args.at.ofs) in
    let db = c.args.name.now in
    let ends = c.args.free.now in
    let old = c.args.draft.now.image in
    let hlong : length c.extent_header_frame.result ≡ 176 = search rules in
    let i = inside_used old db heap chain ends f p n u in
    let many = long old db heap chain ends f p n u in
    let l = same_length old c.pass_next.«new».draft.image c.in_ok-pass_next.ensures.kept c.args.at.file in
    let small = f.shown.inside p (extent u.h) u.is in
    let k = keeps_both old c.pass_next.«new».draft.image c.overwrite.«new».draft.image c.in_ok-pass_next.ensures.kept
    (keeps_headers c.pass_next.«new».draft c.overwrite.«new».draft c.args.at.file c.args.at.ofs 176 (record { bytes = c.extent_header_frame.result; long = hlong; is = c.in_ok-overwrite.ensures.ok }) (f.shown.data_file p (extent u.h) u.is) (f.shown.behind_header p (extent u.h) u.is) (omega (arith, small, l))) in
    let is1 : IsHeap c.pass_next.«new».draft.image (next_passed (last_of chain) (loc p) heap) = subst (λ (z : DiskLoc). IsHeap c.pass_next.«new».draft.image (next_passed (last_of chain) z heap)) c.place.ensures
    (c.in_ok-pass_next.ensures.heap (last_of chain) heap f.last (last_low old db heap chain ends f p n u) f.shown (last_there old db heap chain ends f p n u)) in
    let fl : FitsSigned w32 c.read_extent.result.len = search rules in
    let len = to_z-of_z w32 c.read_extent.result.len fl ∙ ap (λ (x : ExtentHeader). x.len) (c.read_extent.ensures ∙ f.shown.shown p (extent u.h) u.is) ∙ u.long in
    let hh : extent_header_of c.extent_header_frame.result ≡ header_freed p db (pos n) ends.last = c.extent_header_frame.ensures.again ∙ c.freed_header-header.ensures.is ∙ ap (λ (z : ℤ). header_freed p db z ends.last) len in
    let image : c.overwrite.«new».draft.image ≡ laid p.0 p.1 c.extent_header_frame.result c.pass_next.«new».draft.image = ap (λ (d : Drafting). d.image) c.in_ok-overwrite.ensures.ok in
    let is2 : IsHeap c.overwrite.«new».draft.image (joined heap db chain p n ends.last) = subst (λ (x : Image). IsHeap x (joined heap db chain p n ends.last)) (sym image)
    (freed_written c.pass_next.«new».draft.image (next_passed (last_of chain) (loc p) heap) p n is1 u.h (here1 old db heap chain ends f p n u) (omega (arith, i, l)) many c.extent_header_frame.result hlong (header_freed p db (pos n) ends.last) hh) in
    freed_free old db heap chain ends f p n u c.freed_header-header.ensures.named c.overwrite.«new».draft.image k is2 c.join_ends.«new».free (λ z. c.join_ends.ensures.alone z ∙ c.place-2.ensures) c.join_ends.ensures.first (c.join_ends.ensures.last ∙ c.place-2.ensures)
