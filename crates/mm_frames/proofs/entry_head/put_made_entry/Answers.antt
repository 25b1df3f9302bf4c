use Rattle.std.proofs.Common.{arith, rules, refl}
use Rattle.mm_base.proofs.Sets.{signed}
use Rattle.mm_base.proofs.TableLaws.{puts_table}
use Rattle.mm_frames.specs.EntryHead.{made_entry_table, made_entry_bytes, made_entry_of}
use Rattle.mm_frames.proofs.JournalFrames.{made_entry_is}
use Rattle.mm_frames.proofs.entry_head.put_made_entry.Goals as goal

pub returns : goal.returns
unfolding made_entry_bytes
returns c =
    let x = c.args.made.now in
    puts_table 12 made_entry_table made_entry_of c.args.at x c.args.bytes.now _ refl (search rules) (omega arith) (made_entry_is x _) (grind (arith, signed))
