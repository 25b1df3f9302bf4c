use Rattle.std.proofs.Common.{ℕ, ◌≤◌, ◌∙◌, ap, subst}
use Rattle.mm_base.specs.Bytes.{part}
use Rattle.mm_ranges.specs.Overlay.{bytes_at}
use Rattle.mm_frames.specs.FileHeader.{file_header_bytes}
use Rattle.mm_check.proofs.CodeTests.{header_test}
use Rattle.mm_check.proofs.files.has_header.Goals as goal

pub returns : goal.returns
returns c =
    header_test c.args.file c.unused-unused.result (part 0 8192 (bytes_at c.args.views.now.private c.args.file)) c.header.result c.file_header_frame.result c.eq.result c.unused-unused.ensures c.if-unused.false
    (subst (λ (n : ℕ). c.unused-unused.result ≤ n) c.file_len.ensures c.if-file_len-unused.false) c.header.ensures (c.file_header_frame.ensures.spelled ∙ ap file_header_bytes c.header_with.ensures) c.eq.ensures
