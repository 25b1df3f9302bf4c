use Rattle.std.proofs.Common.{◌≡◌, ◌∙◌, ℕ, List, take, length, ap, arith, rules, length-take-le}
use Rattle.std.proofs.lemmas.Result.{on_ok_weaker}
use Rattle.mm_base.specs.Bytes.{part}
use Rattle.mm_ranges.specs.Overlay.{bytes_at}
use Rattle.mm_views.specs.State.{Drafting}
use Rattle.mm_frames.specs.FileHeader.{file_header_bytes}
use Rattle.mm_frames.specs.declared.file_header.FileHeader.{FileHeader}
use Rattle.mm_extents.specs.Changes.{written}
use Rattle.mm_extents.specs.Files.{header_with}
use Rattle.mm_extents.proofs.HeaderWrites.{header_put}
use Rattle.mm_extents.proofs.made_files.put_fields.Goals as goal

pub returns-clause-ok : goal.returns-clause-ok
returns-clause-ok c =
    let whole : c.file_header_frame-frame.result ≡ file_header_bytes (header_with c.args.file c.args.unused) = c.file_header_frame-frame.ensures.spelled ∙ ap (λ (x : FileHeader). file_header_bytes x) c.header_of.ensures in
    on_ok_weaker c.overwrite.result (λ e. e ∙ ap (λ (xs : List ℕ). written c.args.file 0 (take 24 xs) c.args.draft.now) whole) c.overwrite.ensures.ok

pub returns-clause-header : goal.returns-clause-header
returns-clause-header c =
    let whole : c.file_header_frame-frame.result ≡ file_header_bytes (header_with c.args.file c.args.unused) = c.file_header_frame-frame.ensures.spelled ∙ ap (λ (x : FileHeader). file_header_bytes x) c.header_of.ensures in
    on_ok_weaker c.overwrite.result (λ e. ap (λ (d : Drafting). part 0 8192 (bytes_at d.image c.args.file)) (e ∙ ap (λ (xs : List ℕ). written c.args.file 0 (take 24 xs) c.args.draft.now) whole)
    ∙ header_put c.args.draft.now.image c.args.file c.args.file c.args.unused c.requires.there c.requires.zeros) c.overwrite.ensures.ok

pub returns-clause-weight : goal.returns-clause-weight
returns-clause-weight c =
    let long : length c.file_header_frame-frame.result ≡ 8192 = search rules in
    let short = length-take-le 24 c.file_header_frame-frame.result (omega (arith, long)) in
    let w = c.overwrite.ensures.weight in
    omega (arith, short, w)
