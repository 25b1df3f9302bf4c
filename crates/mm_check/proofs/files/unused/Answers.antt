use Rattle.std.proofs.Common.{◌∙◌, ap, rules}
use Rattle.std.specs.Prelude.{FitsSigned}
use Rattle.std.specs.Int.{w32}
use Rattle.std.proofs.lemmas.Int.{to_z-of_z}
use Rattle.mm_base.specs.Bytes.{part}
use Rattle.mm_base.proofs.Parts.{part_whole, length-part}
use Rattle.mm_ranges.specs.Overlay.{bytes_at}
use Rattle.mm_frames.specs.FileHeader.{file_header_of}
use Rattle.mm_frames.specs.declared.file_header.FileHeader.{FileHeader}
use Rattle.mm_check.specs.ExtentChain.{nat_of}
use Rattle.mm_check.proofs.files.unused.Goals as goal

pub returns : goal.returns
returns c =
    let f : FitsSigned w32 c.read_file_header.result.unused.ofs = search rules in
    let bytes = bytes_at c.args.views.now.private c.args.file in
    c.size.ensures ∙ ap nat_of (to_z-of_z w32 c.read_file_header.result.unused.ofs f)
    ∙ ap (λ (h : FileHeader). nat_of h.unused.ofs) (c.read_file_header.ensures ∙ ap file_header_of (ap (part 0 8192) c.header.ensures ∙ part_whole 8192 (part 0 8192 bytes) (length-part 0 8192 bytes c.requires)))
