use Rattle.std.proofs.Common.{◌≡◌, ap, sym, ◌∙◌, length}
use Rattle.mm_frames.specs.Lsn.{lsn_bytes, lsn_of}
use Rattle.mm_frames.proofs.JournalFrames.{length-lsn_bytes, lsn_again}
use Rattle.mm_frames.proofs.lsn.read_lsn.Goals as goal

pub returns-then-bytes-ne-LSN_LEN-clause-none : goal.returns-then-bytes-ne-LSN_LEN-clause-none
returns-then-bytes-ne-LSN_LEN-clause-none c = λ lsn fits is.
    let other = c.if-bytes-ne-LSN_LEN.true in
    other (ap length is ∙ length-lsn_bytes lsn fits)

pub returns-else-spells_lsn-clause-none : goal.returns-else-spells_lsn-clause-none
unfolding lsn_of
returns-else-spells_lsn-clause-none c = λ lsn fits is.
    let same : c.read_u64-lsn.result ≡ lsn = c.read_u64-lsn.ensures ∙ ap lsn_of is ∙ lsn_again lsn fits in
    let spelled = c.spells_lsn.ensures.1 (is ∙ ap lsn_bytes (sym same)) in
    absurd (let other = c.if-spells_lsn.false in cc)
