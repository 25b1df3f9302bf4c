use Rattle.std.proofs.Common.{arith, rules, refl}
use Rattle.mm_base.proofs.Sets.{signed}
use Rattle.mm_base.proofs.TableLaws.{puts_table}
use Rattle.mm_frames.specs.EntryHead.{entry_head_table, entry_head_bytes, entry_head_of}
use Rattle.mm_frames.proofs.JournalFrames.{entry_head_is}
use Rattle.mm_frames.proofs.entry_head.put_entry_head.Goals as goal

pub returns : goal.returns
unfolding entry_head_bytes
returns c =
    let x = c.args.head.now in
    puts_table 12 entry_head_table entry_head_of c.args.at x c.args.bytes.now _ refl (search rules) (omega arith) (entry_head_is x _) (grind (arith, signed))
