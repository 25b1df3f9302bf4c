use Rattle.std.proofs.Common.{◌≡◌, arith, rules, refl, length, ap, sym, ◌∙◌}
use Rattle.mm_base.proofs.TableLaws.{written_is}
use Rattle.mm_base.proofs.Parts.{overwritten_whole}
use Rattle.mm_base.specs.Tables.{written, joined}
use Rattle.mm_frames.specs.Lsn.{lsn_table, lsn_bytes, lsn_of}
use Rattle.mm_frames.proofs.JournalFrames.{lsn_in_range, lsn_again, length-lsn_bytes}
use Rattle.mm_frames.proofs.lsn.put_lsn.Goals as goal

pub returns-clause-spelled : goal.returns-clause-spelled
unfolding lsn_bytes
returns-clause-spelled c =
    let old = c.args.bytes.now in
    let lsn = c.args.lsn in
    let wrote : c.put_zeros.new.bytes ≡ written 0 (lsn_table lsn) old = search rules in
    let room : length old ≡ 88 = omega arith in
    let len : length (joined (lsn_table lsn)) ≡ 88 = length-lsn_bytes lsn (omega arith) in
    wrote ∙ written_is 0 88 old (lsn_table lsn) refl (lsn_in_range lsn (omega arith)) (omega arith) ∙ overwritten_whole (joined (lsn_table lsn)) old (len ∙ sym room)

pub returns-clause-again : goal.returns-clause-again
returns-clause-again c = ap lsn_of (returns-clause-spelled c) ∙ lsn_again c.args.lsn (omega arith)
