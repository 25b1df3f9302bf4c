use Rattle.std.proofs.Common.{◌∙◌, sym, ap, arith}
use Rattle.std.specs.Int.{w32}
use Rattle.std.proofs.lemmas.Int.{to_z_pos}
use Rattle.mm_frames.specs.declared.extent_header.ExtentHeader.{ExtentHeader}
use Rattle.mm_extents.specs.Heap.{extent}
use Rattle.mm_extents.specs.Changes.{ofs_or}
use Rattle.mm_records.proofs.LastLinks.{low_named}
use Rattle.mm_records.proofs.taking.last_ofs.Goals as goal

pub read_extent-requires : goal.read_extent-requires
read_extent-requires c = let l = c.requires.1 in l.is.inside (c.args.at.file, c.args.at.ofs) (extent l.h) l.there

pub named_spot-requires : goal.named_spot-requires
named_spot-requires c =
    let l = c.requires.1 in
    (c.requires.0, (ap (λ (h : ExtentHeader). h.last_record) (c.read_extent.ensures ∙ l.is.shown (c.args.at.file, c.args.at.ofs) (extent l.h) l.there) ∙ l.names, l.low))

pub overflow_cast-result : goal.overflow_cast-result
overflow_cast-result c =
    let l = c.requires.1 in
    let is = c.in-Some.ensures.some c.requires.0 (ap (λ (h : ExtentHeader). h.last_record) (c.read_extent.ensures ∙ l.is.shown (c.args.at.file, c.args.at.ofs) (extent l.h) l.there) ∙ l.names) l.low in
    let low = (low_named c.requires.0 (c.in-Some.last.file, c.in-Some.last.ofs) is l.low).ofs in
    record { sfits = omega (arith, low) }

pub returns-in-Some : goal.returns-in-Some
returns-in-Some c = λ o l.
    let is = c.in-Some.ensures.some o (ap (λ (h : ExtentHeader). h.last_record) (c.read_extent.ensures ∙ l.is.shown (c.args.at.file, c.args.at.ofs) (extent l.h) l.there) ∙ l.names) l.low in
    let low = (low_named o (c.in-Some.last.file, c.in-Some.last.ofs) is l.low).ofs in
    to_z_pos w32 c.in-Some.last.ofs (omega (arith, low)) ∙ ap ofs_or (sym is)

pub returns-in-None : goal.returns-in-None
returns-in-None c = λ o l. ap ofs_or (sym (c.in-None.ensures.none o (ap (λ (h : ExtentHeader). h.last_record) (c.read_extent.ensures ∙ l.is.shown (c.args.at.file, c.args.at.ofs) (extent l.h) l.there) ∙ l.names) l.low))
