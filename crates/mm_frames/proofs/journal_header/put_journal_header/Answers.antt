use Rattle.std.proofs.Common.{arith, rules, refl}
use Rattle.mm_base.proofs.TableLaws.{puts_table}
use Rattle.mm_frames.specs.JournalHeader.{journal_header_table, journal_header_bytes, journal_id_of}
use Rattle.mm_frames.proofs.JournalFrames.{journal_id_is}
use Rattle.mm_frames.proofs.journal_header.put_journal_header.Goals as goal

pub returns : goal.returns
unfolding journal_header_bytes
returns c =
    puts_table 8192 journal_header_table journal_id_of 0 c.args.id c.args.bytes.now _ refl (search rules) (omega arith) (journal_id_is c.args.id _) (grind arith)
